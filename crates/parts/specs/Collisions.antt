-- Two different inputs with one SHA-256 digest, at one place of a file's tree and of the torrent's.
use Rattle.std.specs.Prelude.{◌≡◌, ◌≢◌, ℕ, suc, ◌+◌, ◌*◌, ◌^◌, ◌≤◌, List, ◌++◌, length, slice_get, Some}
use Rattle.sha2.specs.Sha256.{sha256}
use Rattle.hashtree.specs.Tree.{Fits, block_count, filled, height, layer_of, node_over}
use Rattle.opening.specs.Description.{Description, FileEntry, TreeEntry}
use Rattle.opening.specs.Sound.{piece_layer}
use Rattle.folders.specs.Folder.{Contents, tree_entry_of}

-- the two children of this node over a row
abbrev pub children : List (List ℕ) → ℕ → ℕ → List ℕ
children xs layer i = node_over xs layer (2 * i) ++ node_over xs layer (2 * i + 1)

-- at one place of the trees over two rows the children differ and have one digest
pub record RowsCollide (xs ys : List (List ℕ)) : Type 0 where
  pub layer : ℕ
  pub index : ℕ
  pub inside : (index + 1) * 2 ^ suc layer ≤ length xs
  pub differ : children xs layer index ≢ children ys layer index
  pub one_digest : sha256 (children xs layer index) ≡ sha256 (children ys layer index)

-- a file of the torrent fits its tree, and the tree over its own pieces and the one over the piece
-- layer collide
pub record FileCollides (t : Description) (contents : Contents) : Type 0 where
  pub number : ℕ
  pub file : FileEntry
  pub bytes : List ℕ
  pub tree : TreeEntry
  pub there : slice_get t.files number ≡ Some file
  pub content : contents number ≡ Some bytes
  pub tree_is : tree_entry_of t file ≡ Some tree
  pub fits : Fits bytes tree.length tree.root
  pub rows : RowsCollide
      (filled (height (block_count tree.length)) (piece_layer t.piece_length)
      (layer_of bytes (piece_layer t.piece_length)))
      (filled (height (block_count tree.length)) (piece_layer t.piece_length) tree.layer)
