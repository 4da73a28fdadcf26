-- What a whole piece comes to that is taken.
use Rattle.std.specs.Prelude.{◌≡◌, ℕ, ◌+◌, ◌<◌, true, List, length, slice_get, Some}
use Rattle.std.specs.FinSet as leaves
use Rattle.hashtree.specs.Tree.{block_count}
use Rattle.opening.specs.Places.{place_of}
use Rattle.session.specs.Pieces.{ArePieceBlocks, HasPieceSize}
use Rattle.session.specs.Session.{SessionSeen, TreeState, IsInFile}

-- the bytes are as many as piece `index` has, which begins with this block of this file; each block
-- of them is that block of every file that fits, or two inputs with one digest are named; and each
-- is marked then
pub record IsPieceKept (S : SessionSeen) (index : ℕ) (bytes : List ℕ) (file first : ℕ)
    (S' : SessionSeen) : Type 0 where
  pub at : place_of S.torrent index 0 ≡ Some (file, first)
  pub in_file : IsInFile S file first
  pub size : HasPieceSize S in_file.tree.length first bytes
  pub blocks : ArePieceBlocks S' bytes file first
  pub marked : (s : TreeState) → slice_get S'.trees in_file.tree_number ≡ Some s
      → (j : ℕ) → j < block_count (length bytes) → leaves.contains s.marked (first + j) ≡ true
