-- The torrent file of a draft (BEP 52, "metainfo files", "file tree", "piece layers", "Upgrade
-- Path"; BEP 47, "Padding Files"; that nothing else stands in it is this project's profile).
use Rattle.std.specs.Prelude.{ℕ, ◌+◌, ◌-◌, ◌*◌, pos, Bool, false, ◌&&◌, nat_lt, if◌then◌else◌, List, [], ◌∷◌, ◌++◌, length, map, take, Some, None, codes}
use Rattle.std.specs.Fmt.{decimal}
use Rattle.std.specs.List.{concat, list_any}
use Rattle.std.specs.Str.{bytes_eq}
use Rattle.sha1.specs.Sha1.{sha1}
use Rattle.sha2.specs.Sha256.{sha256}
use Rattle.benc.specs.Text.{spelling}
use Rattle.benc.specs.Value.{Bencode, int, text, list, dict, Items, no_items, item, Pairs, no_pairs, pair}
use Rattle.drafts.specs.Outline.{Outline, OutlineFile, OutlineLayer, listed_file}
use Rattle.filetree.specs.Dictionary.{pairs_in}
use Rattle.filetree.specs.FileTree.{Walk}
use Rattle.opening.specs.Description.{Description, TreeEntry}
use Rattle.opening.specs.Trees.{entries_from}
use Rattle.opening.specs.Stream.{is_named}
use Rattle.opening.specs.Trees.{roots_in}
use Rattle.opening.specs.declared.roots.Root.{Root}
use Rattle.pieces.specs.Pieces.{pieces_of}

-- ---- the file tree

-- a file put in front of the files of a tree: into the first directory if that has the path's first
-- component as its key, else below new directories in front of it
abbrev pub with_first : List (List ℕ) → Bencode → Pairs → Pairs
with_first [] file ps = pair [] file ps
with_first (k ∷ ks) file no_pairs = pair k (dict (with_first ks file no_pairs)) no_pairs
with_first (k ∷ ks) file (pair l v ps) =
    if bytes_eq k l
    then pair l (dict (with_first ks file (pairs_in v))) ps
    else pair k (dict (with_first ks file no_pairs)) (pair l v ps)

-- the tree of these files, whose paths are in order
abbrev pub tree_of_walks : List Walk → Pairs
tree_of_walks [] = no_pairs
tree_of_walks (w ∷ ws) = with_first w.path w.file (tree_of_walks ws)

-- a file's dictionary: its length, and its root if it is not empty
abbrev pub file_value : OutlineFile → Bencode
file_value f = dict (pair (codes "length") (int (pos f.length))
    (if nat_lt 0 f.length then pair (codes "pieces root") (text f.root) no_pairs else no_pairs))

-- the walk to a file of a draft: its path, and its dictionary
abbrev pub walk_to_file : OutlineFile → Walk
walk_to_file f = record { path = f.path; file = file_value f }

-- the file tree of a draft
abbrev pub file_tree_of : List OutlineFile → Pairs
file_tree_of fs = tree_of_walks (map walk_to_file fs)

-- ---- piece layers

-- each root with the hashes of its layer, joined
abbrev pub pairs_of_layers : List OutlineLayer → Pairs
pairs_of_layers [] = no_pairs
pairs_of_layers (e ∷ es) = pair e.root (text (concat e.hashes)) (pairs_of_layers es)

-- ---- the version 1 part of a hybrid

-- one of the files is not empty
abbrev pub has_content : List OutlineFile → Bool
has_content fs = list_any (λ f. nat_lt 0 f.length) fs

-- how far it is from the end of this many bytes to the next piece boundary
abbrev pub gap : ℕ → ℕ → ℕ
gap piece_length n = pieces_of piece_length n * piece_length - n

-- a list of byte strings
abbrev pub texts_value : List (List ℕ) → Items
texts_value [] = no_items
texts_value (k ∷ ks) = item (text k) (texts_value ks)

-- the entry of a file in the version 1 list: its length and its path
abbrev pub entry_value : OutlineFile → Bencode
entry_value f = dict (pair (codes "length") (int (pos f.length))
    (pair (codes "path") (list (texts_value f.path)) no_pairs))

-- a pad of n zeros
abbrev pub pad_value : ℕ → Bencode
pad_value n = dict (pair (codes "attr") (text (codes "p")) (pair (codes "length") (int (pos n))
    (pair (codes "path") (list (texts_value (codes ".pad" ∷ decimal n ∷ []))) no_pairs)))

-- a pad follows a file that ends within a piece, if a file that is not empty comes later
abbrev pub needs_pad : ℕ → OutlineFile → List OutlineFile → Bool
needs_pad piece_length f later = nat_lt 0 (gap piece_length f.length) && has_content later

-- the entries of the version 1 list, with their pads
abbrev pub entries_value : ℕ → List OutlineFile → Items
entries_value piece_length [] = no_items
entries_value piece_length (f ∷ fs) =
    item (entry_value f) (if needs_pad piece_length f fs
    then item (pad_value (gap piece_length f.length)) (entries_value piece_length fs)
    else entries_value piece_length fs)

-- the digests of a file's cuts, the last one filled up with zeros
abbrev pub filled_cuts : OutlineFile → List (List ℕ)
filled_cuts f = take (length f.cuts - 1) f.cuts ++ f.padded ∷ []

-- the digests of a file's part of the stream
abbrev pub digests_in : OutlineFile → List OutlineFile → List (List ℕ)
digests_in f later =
    if nat_lt 0 f.length then (if has_content later then filled_cuts f else f.cuts) else []

-- the digests of the stream's cuts
abbrev pub digests_of : List OutlineFile → List (List ℕ)
digests_of [] = []
digests_of (f ∷ fs) = digests_in f fs ++ digests_of fs

-- the length of the stream: files in front of others are filled up to a piece boundary
abbrev pub stream_of : ℕ → List OutlineFile → ℕ
stream_of piece_length [] = 0
stream_of piece_length (f ∷ fs) = if has_content fs
    then pieces_of piece_length f.length * piece_length + stream_of piece_length fs
    else f.length + stream_of piece_length fs

-- one file, whose path is the torrent's name
abbrev pub is_single : List ℕ → List OutlineFile → Bool
is_single name [] = false
is_single name (f ∷ []) = is_named name f.path
is_single name (f ∷ (g ∷ fs)) = false

-- the length of the first file
abbrev pub first_length : List OutlineFile → ℕ
first_length [] = 0
first_length (f ∷ fs) = f.length

-- `length` of a single file, or `files`
abbrev pub list_pair : Outline → Pairs → Pairs
list_pair d rest =
    if is_single d.name d.files
    then pair (codes "length") (int (pos (first_length d.files))) rest
    else pair (codes "files") (list (entries_value d.piece_length d.files)) rest

-- ---- the whole

-- `pieces`, which a hybrid alone has
abbrev pub pieces_pair : Outline → Pairs
pieces_pair d = if d.hybrid
    then pair (codes "pieces") (text (concat (digests_of d.files))) no_pairs
    else no_pairs

-- the pairs of the info dictionary that come last
abbrev pub last_pairs : Outline → Pairs
last_pairs d = pair (codes "meta version") (int (pos 2)) (pair (codes "name") (text d.name)
    (pair (codes "piece length") (int (pos d.piece_length)) (pieces_pair d)))

-- the info dictionary of a draft
abbrev pub info_value : Outline → Bencode
info_value d = dict (pair (codes "file tree") (dict (file_tree_of d.files))
    (if d.hybrid then list_pair d (last_pairs d) else last_pairs d))

-- the value that a draft writes
abbrev pub value_of : Outline → Bencode
value_of d = dict (pair (codes "info") (info_value d)
    (pair (codes "piece layers") (dict (pairs_of_layers d.layers)) no_pairs))

-- ---- the torrent that it describes

-- the hashes that stand with a root
abbrev pub hashes_under : List ℕ → List OutlineLayer → List (List ℕ)
hashes_under root [] = []
hashes_under root (e ∷ es) = if bytes_eq e.root root then e.hashes else hashes_under root es

-- a tree of a draft: its root, its length, and its layer if it is longer than a piece
abbrev pub drafted_tree : Outline → Root → TreeEntry
drafted_tree d t = record {
  root = t.root;
  length = t.length;
  layer = if nat_lt d.piece_length t.length then hashes_under t.root d.layers else [];
}

-- the torrent with the draft's name, files, trees, layers and version 1 digests
abbrev pub torrent_of : Outline → Description
torrent_of d = record {
  name = d.name;
  piece_length = d.piece_length;
  files = entries_from d.piece_length (roots_in (map listed_file d.files)) 0
      (map listed_file d.files);
  trees = map (drafted_tree d) (roots_in (map listed_file d.files));
  info_hash_v2 = sha256 (spelling (info_value d));
  info_hash_v1 = sha1 (spelling (info_value d));
  v1 = if d.hybrid
      then Some (record {
        pieces = digests_of d.files;
        total = stream_of d.piece_length d.files;
      })
      else None;
}
