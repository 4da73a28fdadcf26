-- The blocks under one node of a tree, given as one run of bytes: a piece.
use Rattle.std.specs.Prelude.{◌≡◌, ℕ, ◌-◌, ◌*◌, ◌/◌, ◌%◌, ◌^◌, ◌<◌, ◌≤◌, min, List, length, None}
use Rattle.node_maps.specs.Digest.{Hash}
use Rattle.node_maps.specs.Known.{look}
use Rattle.node_maps.specs.Places.{tree_height, IsKnown}
use Rattle.hashtree.specs.Tree.{block_count, block_hashes}
use Rattle.partial_tree.specs.Claims.{HasNew, IsMismatch}
use Rattle.partial_tree.specs.Kept.{KeptTree}
use Rattle.partial_tree.specs.LeafRows.{row_claims, row_joins, TreeTakesRow, TreeMarksRun}
use Rattle.partial_tree.specs.declared.refusal.PieceRefusal.{PieceRefusal}
use Rattle.partial_tree.specs.declared.refusal.PieceRefusal.TheVariants.{Unproved, BadPiece, NoMemory}

-- the leaves of the blocks that stand one after the other in these bytes
abbrev pub leaves_in : List ℕ → List Hash
leaves_in bytes = block_hashes bytes (block_count (length bytes))

-- this many bytes are the blocks under the node (k, first / 2 ^ k) of a tree, at least one
pub record IsPieceRow (len first k size : ℕ) : Type 0 where
  pub span_inside : k ≤ tree_height len
  pub aligned : first % 2 ^ k ≡ 0
  pub some : first < block_count len
  pub size_is : size ≡ min (16384 * 2 ^ k) (len - 16384 * first)

-- a tree takes the leaves of the bytes' blocks, under a known node, and then these leaves are
-- marked; the last piece brings the pads beside the file's end
pub record TreeTakesPiece (before : KeptTree) (first k : ℕ) (bytes : List ℕ) (after : KeptTree)
    : Type 0 where
  pub count : ℕ
  pub between : KeptTree
  pub joins : TreeTakesRow before first k (leaves_in bytes) count between
  pub marks : TreeMarksRun between first (block_count (length bytes)) after

-- why a tree refuses a piece
abbrev pub TreeRefusesPiece : KeptTree → ℕ → ℕ → List ℕ → PieceRefusal → Type 0
TreeRefusesPiece t first k bytes Unproved = look t.state.known k (first / 2 ^ k) ≡ None
TreeRefusesPiece t first k bytes BadPiece = IsKnown (look t.state.known) k (first / 2 ^ k)
    × IsMismatch (look t.state.known) (row_claims first k (leaves_in bytes))
TreeRefusesPiece t first k bytes NoMemory = IsKnown (look t.state.known) k (first / 2 ^ k)
    × HasNew (look t.state.known) (row_joins t.length first k (leaves_in bytes))
TreeRefusesPiece t first k bytes r = ⊥
