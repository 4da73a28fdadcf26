-- Where what is held stands: the bytes of files in a room, one file after the other, and their
-- blocks and version 1 pieces in windows. Public clauses do not name these.
use Rattle.std.specs.Prelude.{◌≡◌, ℕ, ◌+◌, ◌<◌, ◌≤◌, Bool, true, List, ◌∷◌, [], ◌++◌, length, map, take, drop, slice_get}
use Rattle.std.specs.Prelude.{Option, Some, None, Result, IfOk, OnErr}
use Rattle.benc.specs.Device.{CountsFault, SourceSeen}
use Rattle.benc.specs.declared.device.DeviceFault.{DeviceFault}
use Rattle.file_windows.specs.Files.{HasFile, IsHashed, IsWithin, block_total, bytes_at}
use Rattle.file_windows.specs.Windows.{AreCutsHashed, AreCutsWithin, AreOwnHashed, HasCuts, cut_total, length_of_cuts}
use Rattle.folders.specs.TakeAll.{Fills, IsReadWithin}
use Rattle.hashtree.specs.Tree.{block_count}
use Rattle.pieces.specs.Pieces.{pieces_of}
use Rattle.passes.specs.Held.{Answer, Cutting, HeldSeen, as_answer, content}
use Rattle.passes.specs.declared.cuts_wanted.CutsWanted.{CutsWanted}
use Rattle.passes.specs.declared.cuts_wanted.CutsWanted.TheVariants as cuts
use Rattle.passes.specs.declared.nothing.Nothing.{Nothing}
use Rattle.passes.specs.declared.rows.Place.{Place}
use Rattle.passes.specs.declared.rows.Rows.{Rows}

-- what came of a path at whose place these bytes stand
abbrev pub held_as : Option Nothing → List ℕ → Answer
held_as (Some why) bytes = as_answer why
held_as None bytes = content bytes

abbrev pub answer_at : List ℕ → Place → Answer
answer_at room e = held_as e.nothing (bytes_at room e.start e.size)

-- what is held, in order
abbrev pub held_answers : Rows → List Answer
held_answers r = map (answer_at r.room.items) (take r.count r.places)

-- for which version 1 pieces
abbrev pub cutting_of : Rows → Cutting
cutting_of r = record { piece_length = length_of_cuts r.cuts; wanted = r.wanted }

-- a file stands there: its bytes in the first ones of the room, and its blocks and version 1 pieces
-- in the windows
pub record IsRowPlaced (r : Rows) (e : Place) : Type 0 where
  pub inside : e.start + e.size ≤ r.used
  pub blocks : HasFile r.blocks e.block e.start e.size
  pub cuts : HasCuts r.cuts e.cut e.start e.size

-- each file that is held has its place, and all blocks and version 1 pieces of the windows stand in
-- the room
pub record IsRowSound (r : Rows) : Type 0 where
  pub few : r.count ≤ 64
  pub places : length r.places ≡ 64
  pub fits : r.used ≤ length r.room.items
  pub each : (k : ℕ) (e : Place) → k < r.count → slice_get r.places k ≡ Some e
      → e.nothing ≡ None → IsRowPlaced r e
  pub blocks : IsWithin r.blocks (length r.room.items)
  pub cuts : AreCutsWithin r.cuts (length r.room.items)

-- one more is held
pub record HoldsRow (old : Rows) (a : Answer) (new : Rows) : Type 0 where
  pub sound : IsRowSound new
  pub answers_are : held_answers new ≡ held_answers old ++ a ∷ []
  pub cutting_is : cutting_of new ≡ cutting_of old

-- nothing changed but what stands in the room behind the files
pub record WritesBehind (old new : Rows) : Type 0 where
  pub before : take old.used new.room.items ≡ take old.used old.room.items
  pub room : length new.room.items ≡ length old.room.items
  pub used : new.used ≡ old.used
  pub places : new.places ≡ old.places
  pub count : new.count ≡ old.count
  pub blocks : new.blocks ≡ old.blocks
  pub cuts : new.cuts ≡ old.cuts
  pub wanted : new.wanted ≡ old.wanted

-- a source was read into the room behind the files, at most to one byte past a size
pub record FillsBehind (size : ℕ) (old new : SourceSeen) (r s : Rows)
    (answer : Result ℕ DeviceFault) : Type 0 where
  pub filled : IfOk answer (Fills old new (take (size + 1) (drop r.used s.room.items)))
  pub no_further : IsReadWithin (size + 1) old new
  pub blamed : OnErr answer (IsReadWithin size old new)
  pub counts : CountsFault old.faults new.faults answer
  pub behind : WritesBehind r s

-- there is room for a file of this size
pub record HasHeldRoom (r : Rows) (size : ℕ) : Type 0 where
  pub few : r.count < 64
  pub blocks : block_total r.blocks + block_count size ≤ 64
  pub cuts : cut_total r.cuts + pieces_of (length_of_cuts r.cuts) size ≤ 64
  pub bytes : r.used + size ≤ length r.room.items

-- the version 1 pieces that are wanted are hashed
abbrev pub HashesCuts : CutsWanted → Rows → Type 0
HashesCuts cuts.Nothing r = Unit {0}
HashesCuts cuts.Filled r = AreCutsHashed r.cuts r.room.items
HashesCuts cuts.Both r = AreOwnHashed r.cuts r.room.items × AreCutsHashed r.cuts r.room.items

-- the blocks of all files are hashed, and the version 1 pieces that are wanted
pub record AreRowsHashed (r : Rows) : Type 0 where
  pub blocks : IsHashed r.blocks r.room.items
  pub cuts : HashesCuts r.wanted r

-- what callers see
abbrev pub seen_held : Rows → Bool → HeldSeen
seen_held r is_hashed = record {
  answers = held_answers r;
  cutting = cutting_of r;
  is_hashed = is_hashed;
}

pub record IsHeldSound (r : Rows) (is_hashed : Bool) : Type 0 where
  pub sound : IsRowSound r
  pub hashed : is_hashed ≡ true → AreRowsHashed r

-- a file of this content stands there
pub record IsFilePlaced (r : Rows) (e : Place) (bytes : List ℕ) : Type 0 where
  pub placed : IsRowPlaced r e
  pub inside : e.start + e.size ≤ length r.room.items
  pub are : bytes_at r.room.items e.start e.size ≡ bytes
  pub size : length bytes ≡ e.size
