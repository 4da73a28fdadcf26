-- The pass over listed paths that gathers a draft of the files there. Public clauses do not name
-- these.
use Rattle.std.specs.Prelude.{◌≡◌, ◌^◌, ℕ, Bool, true, List, slice_get, Option, Some, None, Result, Ok, Err, ⊤}
use Rattle.benc.specs.declared.device.DeviceFault.{DeviceFault}
use Rattle.drafts.specs.Outline.{Outline}
use Rattle.filetree.specs.declared.refusal.Refusal.TheVariants as refusals
use Rattle.folders.specs.declared.taking.ReadFault.{ReadFault}
use Rattle.folders.specs.declared.taking.ReadFault.TheVariants as fault
use Rattle.gathering.specs.Adding.{AddsFound}
use Rattle.gathering.specs.Reading.{Finds}
use Rattle.gathering.specs.declared.file_fault.FileFault.{FileFault}
use Rattle.gathering.specs.declared.file_fault.FileFault.TheVariants as file
use Rattle.gathering.specs.declared.hashing.FileHashes.{FileHashes}
use Rattle.passes.specs.Held.{Answer, Cutting, HeldSeen, IsReadUpTo, content, failed, missing, unasked}
use Rattle.passes.specs.declared.nothing.Nothing.{Nothing}
use Rattle.passes.specs.declared.nothing.Nothing.TheVariants as none
use Rattle.passes.specs.Passing.{Task}
use Rattle.passes.specs.declared.cuts_wanted.CutsWanted.TheVariants as cuts

-- the listed paths, and the kind of torrent
pub record GatherTask : Type 0 where
  pub paths : List (List (List ℕ))
  pub piece_length : ℕ
  pub hybrid : Bool

-- what is found of a path
abbrev pub FindsHashes : ℕ → Bool → Answer → Result FileHashes FileFault → Type 0
FindsHashes piece_length hybrid unasked found = found ≡ Err file.Device
FindsHashes piece_length hybrid missing found = found ≡ Err file.Changed
FindsHashes piece_length hybrid failed found = found ≡ Err file.Device
FindsHashes piece_length hybrid (content bytes) found = Finds piece_length hybrid bytes found

-- how the draft d takes it, and is e then
abbrev pub AddsAnswer : Outline → List (List ℕ) → Answer → Result (Unit {0}) FileFault → Outline
    → Type 0
AddsAnswer d path unasked r e = r ≡ Err file.Device
AddsAnswer d path missing r e = r ≡ Err file.Changed
AddsAnswer d path failed r e = r ≡ Err file.Device
AddsAnswer d path (content bytes) r e = AddsFound d path bytes e r

-- why a path at which there is nothing is not added
abbrev pub fault_of : Nothing → FileFault
fault_of none.Unasked = file.Device
fault_of none.Missing = file.Changed
fault_of none.Failed = file.Device

-- what is found of a file that was read alone
abbrev pub found_as : Result (Option FileHashes) ReadFault
    → Result (Option (Result FileHashes FileFault)) DeviceFault
found_as (Ok (Some hashes)) = Ok (Some (Ok hashes))
found_as (Ok None) = Ok (Some (Err (file.Refused refusals.Length)))
found_as (Err fault.NoMemory) = Ok (Some (Err file.NoMemory))
found_as (Err fault.Device) = Err (record {})

-- a file is held at this place, for pieces of this length, and hashed; of a hybrid's both digests
pub record IsHeldToAdd (piece_length : ℕ) (hybrid : Bool) (h : HeldSeen) (place : ℕ) : Type 0 where
  pub hashed : h.is_hashed ≡ true
  pub piece_length_is : h.cutting.piece_length ≡ piece_length
  pub both : hybrid ≡ true → h.cutting.wanted ≡ cuts.Both
  pub bytes : List ℕ
  pub is : slice_get h.answers place ≡ Some (content bytes)

-- a draft of this kind
pub record IsDraftFor (t : GatherTask) (d : Outline) : Type 0 where
  pub piece_length_is : d.piece_length ≡ t.piece_length
  pub hybrid_is : d.hybrid ≡ t.hybrid

-- files are held for pieces of this length, and both digests are wanted of a hybrid's
pub record HoldsFor (t : GatherTask) (cutting : Cutting) : Type 0 where
  pub piece_length_is : cutting.piece_length ≡ t.piece_length
  pub both : t.hybrid ≡ true → cutting.wanted ≡ cuts.Both

-- each listed path is opened, and read to its end, or to one byte past the longest file; one that
-- is missing or fails ends the pass at once
abbrev pub gather_task : GatherTask
    → Task (List (List ℕ)) Outline (Result FileHashes FileFault) FileFault
gather_task t = record {
  items = t.paths;
  wants = λ path. Some (record { path = path; most = 2 ^ 46 });
  reads = λ path. IsReadUpTo (2 ^ 46);
  waits = λ path. ⊤;
  holds = HoldsFor t;
  is_hasty = true;
  finds = λ path. FindsHashes t.piece_length t.hybrid;
  is_ready = λ n. IsDraftFor t;
  takes = AddsAnswer;
}
