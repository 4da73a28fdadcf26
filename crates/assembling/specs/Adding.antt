-- What comes of adding a file to a draft. Public clauses do not name these, but for AreNoWrite.
use Rattle.std.specs.Prelude.{◌≡◌, ◌≢◌, ◌⊎◌, List, ℕ, length, Result, Ok, Err, ⊤}
use Rattle.drafts.specs.Outline.{Outline}
use Rattle.filetree.specs.declared.refusal.Refusal.{Refusal}
use Rattle.filetree.specs.declared.refusal.Refusal.TheVariants as refusals
use Rattle.folders.specs.Shelf.{path_bytes}
use Rattle.gathering.specs.Gathered.{DraftAdds}
use Rattle.gathering.specs.Parts.{KnownPaths}
use Rattle.part_texts.specs.Divisions.{total_of}
use Rattle.part_texts.specs.Listings.{Inventory, Listed}
use Rattle.assembling.specs.Assembly.{AreHeld, Assembles, RefusesListed}
use Rattle.assembling.specs.Late.{RefusesNext, RefusesWhole}
use Rattle.assembling.specs.Said.{EachSays}
use Rattle.assembling.specs.declared.one_file.FileFault.{FileFault}
use Rattle.assembling.specs.declared.one_file.FileFault.TheVariants as file
use Rattle.assembling.specs.declared.fault.AssembleFault.{AssembleFault}
use Rattle.assembling.specs.declared.fault.AssembleFault.TheVariants as fault

-- no refusal is that of a failed write
abbrev pub AreNoWrite : AssembleFault → Type 0
AreNoWrite (fault.Refused r path) = r ≢ refusals.Write
AreNoWrite e = ⊤

-- memory was refused, or it is by what stands in front
abbrev pub IsFrontFault : AssembleFault → Type 0
IsFrontFault (fault.Refused r path) = ⊥
IsFrontFault e = ⊤

-- a file was refused, in its turn, or memory was
abbrev pub StopsInTurn : Inventory → AssembleFault → Type 0
StopsInTurn l (fault.Refused r path) = RefusesNext l (path_bytes path) r
StopsInTurn l fault.NoMemory = ⊤
StopsInTurn l e = ⊥

abbrev pub RefusesNoWrite : Result (Unit {0}) FileFault → Type 0
RefusesNoWrite (Ok u) = ⊤
RefusesNoWrite (Err (file.Refused r)) = r ≢ refusals.Write
RefusesNoWrite (Err file.NoMemory) = ⊤

-- a file was refused for its length
abbrev pub IsFileTooLong : Result (Unit {0}) FileFault → Type 0
IsFileTooLong (Ok u) = ⊥
IsFileTooLong (Err (file.Refused r)) = r ≡ refusals.Length
IsFileTooLong (Err file.NoMemory) = ⊥

-- the fault of a file that a draft refused
abbrev pub IsRefusal : Refusal → FileFault → Type 0
IsRefusal r f =
    ((r ≡ refusals.NoMemory) × (f ≡ file.NoMemory))
    ⊎ ((r ≢ refusals.NoMemory) × (f ≡ file.Refused r))

-- a file was refused as the draft refuses it with nodes of all its pieces
abbrev pub RefusesAsWhole : Outline → Listed → Result (Unit {0}) FileFault → Type 0
RefusesAsWhole d f (Ok u) = ⊤
RefusesAsWhole d f (Err (file.Refused r)) = RefusesWhole d f r
RefusesAsWhole d f (Err file.NoMemory) = ⊤

-- a file of this content was added to the draft d, which is e then, or refused
abbrev pub AddsContent : Outline → Listed → List ℕ → Outline → Result (Unit {0}) FileFault → Type 0
AddsContent d f content e (Ok u) = DraftAdds d f.path content e
AddsContent d f content e (Err (file.Refused r)) = RefusesListed d f content r
AddsContent d f content e (Err file.NoMemory) = ⊤

-- what comes of adding all files, if each part says what is true of these contents
abbrev pub AddsAll : Inventory → List (List ℕ) → Result Outline AssembleFault → Type 0
AddsAll l texts result = (under : KnownPaths) (contents : List (List ℕ))
    → AreHeld under l.files contents
    → EachSays under l.piece_length l.hybrid (total_of l.files) (length texts) 0 l.files texts
    → Assembles l contents result
