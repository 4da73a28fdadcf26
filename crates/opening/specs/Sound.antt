-- What holds of each opened torrent, and what sessions stand on.
use Rattle.std.specs.Prelude.{◌≡◌, ◌≢◌, ℕ, ◌+◌, ◌*◌, ◌^◌, ◌<◌, ◌≤◌, List, [], length, map, sum_by, Some, None, slice_get}
use Rattle.hashtree.specs.Tree.{block_count, height}
use Rattle.filetree.specs.Paths.{AreInOrder, IsFilePath}
use Rattle.pieces.specs.Pieces.{IsPieceLength, pieces_of}
use Rattle.opening.specs.Description.{Description, FileEntry, TreeEntry, Version1}
use Rattle.opening.specs.Places.{AreLaidOut}
pub use Rattle.opening.specs.PieceLayers.{piece_layer, root_over}

-- a tree's length and root are in range, and its piece layer leads to its root
pub record IsSoundTree (piece_length : ℕ) (t : TreeEntry) : Type 0 where
  pub some : 0 < t.length
  pub bound : t.length ≤ 2 ^ 46
  pub root_length : length t.root ≡ 32
  pub hash_lengths : (i : ℕ) (h : List ℕ) → slice_get t.layer i ≡ Some h → length h ≡ 32
  pub no_layer : t.length ≤ piece_length → t.layer ≡ []
  pub layer_length : piece_length < t.length → length t.layer ≡ pieces_of piece_length t.length
  pub layer_root : piece_length < t.length
      → root_over (height (block_count t.length)) (piece_layer piece_length) t.layer ≡ t.root

-- a file's path leads to no place outside the torrent's folder; a file that is not empty has a tree
-- of its length, an empty one has none
pub record IsSoundFile (t : Description) (f : FileEntry) : Type 0 where
  pub path : IsFilePath f.path
  pub bound : f.length ≤ 2 ^ 46
  pub tree_there : (n : ℕ) → f.tree ≡ Some n
      → (e : TreeEntry) × (slice_get t.trees n ≡ Some e) × (e.length ≡ f.length)
  pub no_tree : f.tree ≡ None → f.length ≡ 0

pub record IsSound (t : Description) : Type 0 where
  pub legal : IsPieceLength t.piece_length
  pub roots_differ : (n k : ℕ) (a b : TreeEntry) → slice_get t.trees n ≡ Some a
      → slice_get t.trees k ≡ Some b → a.root ≡ b.root → n ≡ k
  pub trees : (n : ℕ) (e : TreeEntry) → slice_get t.trees n ≡ Some e → IsSoundTree t.piece_length e
  pub some_files : t.files ≢ []
  pub files : (n : ℕ) (f : FileEntry) → slice_get t.files n ≡ Some f → IsSoundFile t f
  -- paths ascend strictly, and none is a prefix of another
  pub in_order : AreInOrder (map (λ (f : FileEntry). f.path) t.files)
  pub laid_out : AreLaidOut t.piece_length t.files
  pub cuts : (v : Version1) → t.v1 ≡ Some v → length v.pieces ≡ pieces_of t.piece_length v.total
  pub in_stream : (v : Version1) (n : ℕ) (f : FileEntry) → t.v1 ≡ Some v
      → slice_get t.files n ≡ Some f
      → 0 < f.length → f.first_piece * t.piece_length + f.length ≤ v.total
  -- the version 1 stream ends with the last piece of the files at the latest
  pub in_pieces : (v : Version1) → t.v1 ≡ Some v
      → v.total
      ≤ sum_by (λ (f : FileEntry). pieces_of t.piece_length f.length) t.files * t.piece_length
