-- The laws of file trees.
use Rattle.std.specs.Prelude.{◌≡◌, ℕ, false, true, List, Some, slice_get}
use Rattle.benc.specs.Text.{Fits}
use Rattle.benc.specs.Value.{Pairs, dict}
use Rattle.filetree.specs.FileTree.{HasBadPath, Walk, is_directory, walks}
use Rattle.filetree.specs.Shape.{HasBadComponent, IsMisshapen}
use Rattle.filetree.specs.Paths.{AreAllWalks, AreInOrder, ArePathsApart, FitsInTorrent, IsFilePath}

-- the walks of a file tree that may be part of a spelled value are all that lead to a file, each
-- once and in order
abbrev pub WalksAreAll : Type 0
WalksAreAll = (room : ℕ) (ps : Pairs) → Fits room (dict ps) → is_directory ps ≡ true
    → AreAllWalks ps (walks ps)

-- paths in order ascend by their components, and none is a prefix of another; and so the other way
-- round
abbrev pub OrderIsApart : Type 0
OrderIsApart = (ps : List (List (List ℕ)))
    → (AreInOrder ps → ArePathsApart ps) × (ArePathsApart ps → AreInOrder ps)

-- each walk of a torrent's file tree without a bad component is a path that a file may have
abbrev pub WalksAreSafe : Type 0
WalksAreSafe = (ps : Pairs) → FitsInTorrent ps → is_directory ps ≡ true → (HasBadPath ps → ⊥)
    → (n : ℕ) (w : Walk) → slice_get (walks ps) n ≡ Some w → IsFilePath w.path

-- a file tree is refused for its shape exactly if its root has the zero-length key, a component's
-- value is no dictionary, a zero-length key has a sibling, or its value is no dictionary
abbrev pub ShapeIsStandard : Type 0
ShapeIsStandard = (ps : Pairs)
    → (is_directory ps ≡ false → IsMisshapen ps) × (IsMisshapen ps → is_directory ps ≡ false)

-- a file tree is refused for a path exactly if one of its components is bad, of a file or of a
-- directory
abbrev pub BadPathIsBadComponent : Type 0
BadPathIsBadComponent = (ps : Pairs)
    → (HasBadPath ps → HasBadComponent ps) × (HasBadComponent ps → HasBadPath ps)
