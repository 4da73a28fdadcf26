-- What a legal torrent is: what its keys, its file tree, its files, their piece layers and its
-- version 1 part have to be. By the laws `TorrentOrRefusal` and `TorrentIsNotRefused` a torrent is
-- legal exactly if none of the tests of `table` holds.
use Rattle.std.specs.Prelude.{◌≡◌, ◌≢◌, ℕ, ◌*◌, ◌^◌, ◌<◌, ◌≤◌, pos, true, false, List, [], map, take, sum_by, slice_get, Option, Some, None, option_and_then}
use Rattle.std.specs.Prelude.{IsTrue, codes, is_none}
use Rattle.std.specs.List.{Contains, list_any}
use Rattle.std.specs.Str.{IsUtf8}
use Rattle.benc.specs.Value.{Bencode, int, text, list, dict, Pairs, no_pairs, pair}
use Rattle.filetree.specs.Dictionary.{get, as_int, as_dict}
use Rattle.filetree.specs.FileTree.{is_directory, is_nil, is_symlink, length_at, lacks_root, slash}
use Rattle.filetree.specs.Names.{key_spelling}
use Rattle.filetree.specs.declared.files.ListedFile.{ListedFile}
use Rattle.filetree.specs.declared.refusal.Key.{Key}
use Rattle.filetree.specs.declared.refusal.Key.TheVariants as keys
use Rattle.pieces.specs.Pieces.{IsPieceLength, pieces_of}
use Rattle.opening.specs.PieceLayers.{lacks_layer, lacks_size, mismatches}
use Rattle.opening.specs.Refusals.{IsName, file_tree_in, files_of, info_in, layers_in, name_in, parts_of_torrent, piece_length_in, walks_of}
use Rattle.opening.specs.Stream.{Part, cuts_in, files_in, is_broken, is_hybrid, length_in, named, parts_in, stream_length}
use Rattle.opening.specs.Trees.{IsIn, pieces_in, roots_in}

-- under the key stands a value of this kind
abbrev pub Has : {A : Type 0} → (Bencode → Option A) → Key → Bencode → Type 0
Has {A} kind key v = (x : A) × (option_and_then kind (get (key_spelling key) v) ≡ Some x)

-- the value, if there is one, is of this kind
abbrev pub IsRightKind : {A : Type 0} → (Bencode → Option A) → Option Bencode → Type 0
IsRightKind kind None = Unit {0}
IsRightKind {A} kind (Some w) = (x : A) × (kind w ≡ Some x)

-- a component that leads to no other place
pub record IsPlainComponent (k : List ℕ) : Type 0 where
  pub no_dot : k ≢ codes "."
  pub no_dots : k ≢ codes ".."
  pub no_slash : Contains k slash → ⊥
  pub no_zero : Contains k 0 → ⊥
  pub utf8 : IsUtf8 k

-- each component, of a directory too, is plain
abbrev mutual
  pub HasPlainPaths : Pairs → Type 0
  HasPlainPaths no_pairs = Unit {0}
  HasPlainPaths (pair k v ps) =
      (is_nil k ≡ false → IsPlainComponent k × HasPlainPathsIn v) × HasPlainPaths ps

  pub HasPlainPathsIn : Bencode → Type 0
  HasPlainPathsIn (int z) = Unit {0}
  HasPlainPathsIn (text s) = Unit {0}
  HasPlainPathsIn (list vs) = Unit {0}
  HasPlainPathsIn (dict ps) = HasPlainPaths ps

-- files that have one root have one length
abbrev pub HaveOneLength : List ListedFile → Type 0
HaveOneLength fs = (f g : ListedFile) (root : List ℕ) → IsIn fs f → IsIn fs g → f.root ≡ Some root
    → g.root ≡ Some root → f.length ≡ g.length

-- the version 1 list is well formed, and without pads it is the files of the file tree
abbrev pub AreItsFiles : List ListedFile → Option (List Part) → Type 0
AreItsFiles fs None = ⊥
AreItsFiles fs (Some ps) = (list_any is_broken ps ≡ false) × (files_in ps ≡ map named fs)

-- each file that is not empty starts in the stream at its first piece, and the stream ends with the
-- files' last piece at the latest
pub record IsAligned (piece_length : ℕ) (ps : List Part) : Type 0 where
  pub placed : (number : ℕ) (part : Part) → slice_get ps number ≡ Some part → part.is_pad ≡ false
      → 0 < length_in part → stream_length (take number ps)
      ≡ sum_by (λ f. pieces_of piece_length f.length) (files_in (take number ps)) * piece_length
  pub ends : stream_length ps
      ≤ sum_by (λ f. pieces_of piece_length f.length) (files_in ps) * piece_length

-- the version 1 part of a hybrid: its list, and one SHA-1 digest for each cut of the stream
pub record IsLegalHybrid (v : Bencode) : Type 0 where
  pub files : AreItsFiles (files_of v) (parts_in (info_in v) (name_in v))
  pub aligned : IsAligned (piece_length_in v) (parts_of_torrent v)
  pub pieces : (digests : List (List ℕ))
      × (cuts_in (piece_length_in v) (parts_of_torrent v) (info_in v) ≡ Some digests)

-- the keys and their kinds, the file tree, the files, the layers of their trees, and of a hybrid
-- the version 1 part
pub record IsLegal (v : Bencode) : Type 0 where
  pub top : (ps : Pairs) × (as_dict v ≡ Some ps)
  pub info : Has as_dict keys.Info v
  pub version : get (codes "meta version") (info_in v) ≡ Some (int (pos 2))
  pub file_tree : Has as_dict keys.FileTree (info_in v)
  pub name : IsName (get (codes "name") (info_in v))
  pub piece_length : Has as_int keys.PieceLength (info_in v)
  pub legal_length : IsPieceLength (piece_length_in v)
  pub piece_layers : IsRightKind as_dict (get (key_spelling keys.PieceLayers) v)
  pub directory : is_directory (file_tree_in v) ≡ true
  pub paths : HasPlainPaths (file_tree_in v)
  pub no_symlinks : list_any (λ w. is_symlink w.file) (walks_of v) ≡ false
  pub lengths : list_any (λ w. is_none (length_at w.file)) (walks_of v) ≡ false
  pub roots : list_any (λ w. lacks_root w.file) (walks_of v) ≡ false
  pub one_length : HaveOneLength (files_of v)
  pub some_files : files_of v ≢ []
  pub few_pieces : pieces_in (piece_length_in v) (files_of v) < 2 ^ 32
  pub layers_there :
      list_any (lacks_layer (piece_length_in v) (layers_in v)) (roots_in (files_of v)) ≡ false
  pub layer_sizes :
      list_any (lacks_size (piece_length_in v) (layers_in v)) (roots_in (files_of v)) ≡ false
  pub layers_lead :
      list_any (mismatches (piece_length_in v) (layers_in v)) (roots_in (files_of v)) ≡ false
  pub hybrid : IsTrue (is_hybrid (info_in v)) → IsLegalHybrid v
