-- What a draft may be given of a file, of what parts say of its pieces.
use Rattle.std.specs.Prelude.{◌≡◌, ℕ, ◌<◌, ◌≤◌, Bool, true, List, length, slice_get, Some}
use Rattle.assembling.specs.declared.rows.FileRows.{FileRows}
use Rattle.hashtree.specs.Tree.{block_count, height, root_over}
use Rattle.opening.specs.PieceLayers.{piece_layer}
use Rattle.pieces.specs.Pieces.{pieces_of}

-- there is a node for each piece, and in a hybrid a digest of each cut; the root of a file that is
-- longer than a piece is that over the nodes, and else, unless the file is empty, the node
pub record IsWhole (piece_length : ℕ) (hybrid : Bool) (n : ℕ) (rows : FileRows) (root : List ℕ)
    : Type 0 where
  pub nodes : length rows.nodes.items ≡ pieces_of piece_length n
  pub cuts : hybrid ≡ true → length rows.v1.cuts.items ≡ pieces_of piece_length n
  pub leads : piece_length < n
      → root ≡ root_over (height (block_count n)) (piece_layer piece_length) rows.nodes.items
  pub only : 0 < n → n ≤ piece_length → slice_get rows.nodes.items 0 ≡ Some root
