-- The leaves of a file (BEP 52), as they are read.
use Rattle.std.specs.Prelude.{◌≡◌, ◌⊎◌, ℕ, ◌+◌, ◌^◌, ◌<◌, ◌≤◌, ◌++◌, List, length, Bool, true, false, Option, Some, None, Result, Ok, Err}
use Rattle.std.specs.declared.alloc.AllocError.{AllocError}
use Rattle.benc.specs.Device.{SourceSeen}
use Rattle.folders.specs.TakeAll.{IsReadWithin}
use Rattle.hashtree.specs.Complete.{complete_nodes}
use Rattle.hashtree.specs.RootBuilder.{IsFed}
use Rattle.hashtree.specs.Tree.{Fits, layer_of}
use Rattle.partial_tree.specs.Grown.{GrownTree}
use Rattle.passes.specs.Held.{GivesContent, IsReadUpTo}
use Rattle.seeding.specs.declared.leaves.Leaves.{Leaves}

-- memory was refused for a leaf, and no further leaf is kept
abbrev pub HaveLeavesRefused : {N : Type 0} → Leaves N → Type 0
HaveLeavesRefused l = l.is_refused ≡ true

-- this content was given, and the tree has the leaves of its blocks that are complete, unless
-- memory was refused
pub record IsFedLeaves {N : Type 0} (l : Leaves N) (content : List ℕ) : Type 0 where
  pub fed : IsFed l.builder content
  pub leaves_are : HaveLeavesRefused l ⊎ (l.tree.leaves ≡ complete_nodes content 0)

-- these further bytes were given
pub record Pushes {N : Type 0} (old : Leaves N) (bytes : List ℕ) (new : Leaves N) : Type 0 where
  pub same_length : new.tree.length ≡ old.tree.length
  pub fed : (file : List ℕ) → IsFedLeaves old file → IsFedLeaves new (file ++ bytes)

-- this many more bytes are within the length of the tree's files
pub record HasRoomForBytes {N : Type 0} (l : Leaves N) (n : ℕ) : Type 0 where
  pub content : List ℕ
  pub fed : IsFedLeaves l content
  pub fits : length content + n ≤ l.tree.length
  pub bound : l.tree.length ≤ 2 ^ 46

-- a content of the right length was given
pub record IsFull {N : Type 0} (l : Leaves N) (content : List ℕ) : Type 0 where
  pub fed : IsFedLeaves l content
  pub length_is : length content ≡ l.tree.length
  pub some : 0 < length content

-- what is found of a content, for files of this length and root: the whole tree over its leaves if
-- it fits, or that memory was refused; and else nothing
abbrev pub FindsWholeTree : ℕ → List ℕ → List ℕ → Result (Option GrownTree) AllocError → Type 0
FindsWholeTree len root bytes (Ok (Some t)) =
    Fits bytes len root × (t.length ≡ len) × (t.leaves ≡ layer_of bytes 0)
FindsWholeTree len root bytes (Ok None) = ¬ Fits bytes len root
FindsWholeTree len root bytes (Err refused) = Fits bytes len root

-- a source was read to its end, or to one byte past this length, and this is found of its content
abbrev pub ReadsTree : ℕ → List ℕ → SourceSeen → SourceSeen → Result (Option GrownTree) AllocError
    → Type 0
ReadsTree len root old new found =
    (bytes : List ℕ) × GivesContent (IsReadUpTo len) bytes old new
    × FindsWholeTree len root bytes found

-- how much was read of an opened file of a stated length: all of it and nothing after it, if the
-- content fits; else a byte past that length at most
abbrev pub IsReadToSeed : ℕ → Bool → SourceSeen → SourceSeen → Type 0
IsReadToSeed len true old new = new.limit + len ≡ old.limit
IsReadToSeed len false old new = IsReadWithin (len + 1) old new
