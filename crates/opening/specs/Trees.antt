-- The trees of a torrent: the distinct roots of files that are not empty, in the order of first use
-- (BEP 52, "pieces root"), and the pieces of files (BEP 52, "piece length").
use Rattle.std.specs.Prelude.{◌≡◌, ◌≢◌, ℕ, ◌+◌, is_some, if◌then◌else◌, List, [], ◌∷◌, ◌++◌, length, map, take, fold, sum_by, Option, Some, None, suc}
use Rattle.std.specs.Prelude.{option_map, option_and_then, slice_get}
use Rattle.std.specs.Str.{bytes_eq}
use Rattle.pieces.specs.Pieces.{pieces_of}
use Rattle.filetree.specs.declared.files.ListedFile.{ListedFile}
use Rattle.opening.specs.declared.roots.Root.{Root}
use Rattle.opening.specs.Description.{FileEntry, TreeEntry}

-- how many pieces the files have in all
abbrev pub pieces_in : ℕ → List ListedFile → ℕ
pieces_in piece_length fs = sum_by (λ f. pieces_of piece_length f.length) fs

-- the place of a root in a list of roots
abbrev pub place_in : List Root → List ℕ → Option ℕ
place_in [] s = None
place_in (t ∷ ts) s = if bytes_eq t.root s then Some 0 else option_map suc (place_in ts s)

-- the root of a tree, and the length of its files
abbrev pub root_of_tree : TreeEntry → Root
root_of_tree t = record { root = t.root; length = t.length }

-- the number of the tree that has a root
abbrev pub tree_with_root : List TreeEntry → List ℕ → Option ℕ
tree_with_root ts s = place_in (map root_of_tree ts) s

-- tree n has this root
abbrev pub IsTreeWithRoot : List TreeEntry → List ℕ → ℕ → Type 0
IsTreeWithRoot ts s n = (t : TreeEntry) × (slice_get ts n ≡ Some t) × (t.root ≡ s)

-- the roots so far, and this one unless it is there
abbrev pub with_root : List Root → ℕ → Option (List ℕ) → List Root
with_root ts n None = ts
with_root ts n (Some s) =
    if is_some (place_in ts s) then ts else ts ++ record { root = s; length = n } ∷ []

abbrev pub with_file : List Root → ListedFile → List Root
with_file ts f = with_root ts f.length f.root

-- the distinct roots, in the order of first use
abbrev pub roots_in : List ListedFile → List Root
roots_in fs = fold with_file [] fs

-- f is one of the files
abbrev pub IsIn : List ListedFile → ListedFile → Type 0
IsIn fs f = (k : ℕ) × (slice_get fs k ≡ Some f)

-- two files have one root and different lengths
pub record IsReused (fs : List ListedFile) : Type 0 where
  pub one : ListedFile
  pub other : ListedFile
  pub root : List ℕ
  pub one_there : IsIn fs one
  pub other_there : IsIn fs other
  pub one_root : one.root ≡ Some root
  pub other_root : other.root ≡ Some root
  pub differ : one.length ≢ other.length

-- the file at place k: the first piece of a file is the number of pieces of the files before it
abbrev pub entry_at : ℕ → List ListedFile → ℕ → ListedFile → FileEntry
entry_at piece_length fs k f = record {
  path = f.path;
  length = f.length;
  tree = option_and_then (place_in (roots_in fs)) f.root;
  first_piece = pieces_in piece_length (take k fs);
}

-- the files from this piece on, one after the other
abbrev pub entries_from : ℕ → List Root → ℕ → List ListedFile → List FileEntry
entries_from piece_length ts first [] = []
entries_from piece_length ts first (f ∷ fs) =
    record {
      path = f.path;
      length = f.length;
      tree = option_and_then (place_in ts) f.root;
      first_piece = first;
    }
    ∷ entries_from piece_length ts (first + pieces_of piece_length f.length) fs

-- the files of the description, one for each file of the file tree
pub record AreFiles (piece_length : ℕ) (fs : List ListedFile) (es : List FileEntry) : Type 0 where
  pub count : length es ≡ length fs
  pub each : (k : ℕ) (f : ListedFile) → slice_get fs k ≡ Some f
      → slice_get es k ≡ Some (entry_at piece_length fs k f)
