-- What is held of paths that were looked at one after the other: the bytes of small files, which
-- are hashed side by side.
use Rattle.std.specs.Prelude.{◌≡◌, ◌≢◌, ℕ, ◌+◌, min, Bool, List, ◌∷◌, [], ◌++◌, length, Option, Some, None, Result, Ok, Err}
use Rattle.benc.specs.Device.{SourceSeen}
use Rattle.benc.specs.declared.device.DeviceFault.{DeviceFault}
use Rattle.folders.specs.TakeAll.{IsReadWithin}
use Rattle.folders.specs.Verdicts.{Agrees}
use Rattle.passes.specs.declared.cuts_wanted.CutsWanted.{CutsWanted}
use Rattle.passes.specs.declared.nothing.Nothing.{Nothing}
use Rattle.passes.specs.declared.nothing.Nothing.TheVariants as none
use Rattle.passes.specs.declared.held.Read.{Read}
use Rattle.passes.specs.declared.held.Read.TheVariants as read

-- what came of looking at a path: it was not to be opened, nothing is there, its opening or a read
-- failed, or a file with this content is there
pub data Answer : Type 0 where
  unasked : Answer
  missing : Answer
  failed : Answer
  content : List ℕ → Answer

-- what came of a path at which there is nothing to be held
abbrev pub as_answer : Nothing → Answer
as_answer none.Unasked = unasked
as_answer none.Missing = missing
as_answer none.Failed = failed

-- there is nothing to be held for this reason; or a file is held
abbrev pub IsNothingFor : Option Nothing → Answer → Type 0
IsNothingFor (Some why) a = a ≡ as_answer why
IsNothingFor None a = (bytes : List ℕ) × (a ≡ content bytes)

-- how long the version 1 pieces of the files are, and which digests of these are wanted
pub record Cutting : Type 0 where
  pub piece_length : ℕ
  pub wanted : CutsWanted

-- what came of the paths, which is held; the version 1 pieces of the files; and whether the files
-- are hashed
pub record HeldSeen : Type 0 where
  pub answers : List Answer
  pub cutting : Cutting
  pub is_hashed : Bool

-- what is held is this now, for the same version 1 pieces
pub record NowHolds (old : HeldSeen) (answers : List Answer) (new : HeldSeen) : Type 0 where
  pub answers_are : new.answers ≡ answers
  pub cutting_is : new.cutting ≡ old.cutting

-- one more is held
abbrev pub HoldsMore : HeldSeen → Answer → HeldSeen → Type 0
HoldsMore old a new = NowHolds old (old.answers ++ a ∷ []) new

-- what is held stays
abbrev pub KeepsHeld : HeldSeen → HeldSeen → Type 0
KeepsHeld old new = NowHolds old old.answers new

-- ---- reading

-- how far a source of a content was read
abbrev pub Reach : Type 1
Reach = List ℕ → SourceSeen → SourceSeen → Type 0

-- the source has this content, and was read so far
pub record GivesContent (IsRead : Reach) (bytes : List ℕ) (old new : SourceSeen) : Type 0 where
  pub agrees : Agrees old.left bytes
  pub is_read : IsRead bytes old new

-- what a source of this content gives was taken to its end, or to one byte past these many
abbrev pub IsReadUpTo : ℕ → Reach
IsReadUpTo most bytes old new = new.limit + min (length bytes) (most + 1) ≡ old.limit

-- what came of reading a source that is stated to have this many bytes: all its bytes are held; or
-- it has another length, or a read failed, and what is held stays; or there was no room for them,
-- and nothing was read
abbrev pub ReadsStated : ℕ → SourceSeen → SourceSeen → HeldSeen → HeldSeen
    → Result Read DeviceFault → Type 0
ReadsStated size old new h h' (Ok read.Held) =
    (bytes : List ℕ) × GivesContent (IsReadUpTo size) bytes old new × (length bytes ≡ size)
    × HoldsMore h (content bytes) h'
ReadsStated size old new h h' (Ok read.Other) =
    (bytes : List ℕ) × GivesContent (IsReadUpTo size) bytes old new × (length bytes ≢ size)
    × KeepsHeld h h'
ReadsStated size old new h h' (Ok read.NoRoom) = (new ≡ old) × (h' ≡ h)
ReadsStated size old new h h' (Err fault) = IsReadWithin size old new × KeepsHeld h h'
