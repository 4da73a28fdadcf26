-- The tests of a torrent file in their order, each with its answer, and the first that holds. BEP
-- 52 wants the version reported before other faults of the info dictionary.
use Rattle.std.specs.Prelude.{◌≡◌, ◌≢◌, ℕ, ◌^◌, ◌<◌, ◌≤◌, ◌⊎◌, pos, negsuc, true, List, [], ◌∷◌, ◌++◌, length, map, Option, Some, None, IsTrue, codes}
use Rattle.std.specs.List.{list_any}
use Rattle.std.specs.Str.{IsUtf8}
use Rattle.benc.specs.Value.{Bencode, int, text, list, dict, Pairs}
use Rattle.benc.specs.Spelling.{Spells}
use Rattle.benc.specs.Fails as benc
use Rattle.benc.specs.declared.fault.Fault.{Fault}
use Rattle.filetree.specs.Dictionary.{get, value_under_key, pairs_in, as_int, as_text, as_dict}
use Rattle.pieces.specs.Pieces.{IsPieceLength}
use Rattle.filetree.specs.Tests.{TestRow, First, NoneHolds}
use Rattle.filetree.specs.TreeTests.{file_rows, shape_rows, tree_rows}
use Rattle.filetree.specs.FileTree.{Walk, walks, file_of_walk}
use Rattle.filetree.specs.declared.files.ListedFile.{ListedFile}
use Rattle.opening.specs.Trees.{roots_in, pieces_in, IsReused}
use Rattle.opening.specs.declared.roots.Root.{Root}
use Rattle.opening.specs.PieceLayers.{lacks_layer, lacks_size, mismatches}
use Rattle.opening.specs.Stream.{Part, is_hybrid, parts_in, the_parts, DiffersFromFiles, IsUnaligned, cuts_in}
use Rattle.filetree.specs.Names.{key_spelling}
use Rattle.filetree.specs.declared.refusal.Key.{Key}
use Rattle.filetree.specs.declared.refusal.Key.TheVariants as keys
use Rattle.filetree.specs.declared.refusal.Refusal.{Refusal}
use Rattle.filetree.specs.declared.refusal.Refusal.TheVariants as refusals

-- ---- the parts of a torrent; if one is absent or of another kind, an earlier test refuses, and
-- what these give then is never looked at

abbrev pub info_in : Bencode → Bencode
info_in v = value_under_key (codes "info") v

abbrev pub file_tree_in : Bencode → Pairs
file_tree_in v = pairs_in (value_under_key (codes "file tree") (info_in v))

abbrev pub walks_of : Bencode → List Walk
walks_of v = walks (file_tree_in v)

abbrev pub files_of : Bencode → List ListedFile
files_of v = map file_of_walk (walks_of v)

abbrev pub layers_in : Bencode → Pairs
layers_in v = pairs_in (value_under_key (codes "piece layers") v)

-- the number, or 0 if the value is none
abbrev pub number_in : Bencode → ℕ
number_in (int (pos n)) = n
number_in (int (negsuc n)) = 0
number_in (text s) = 0
number_in (list vs) = 0
number_in (dict ps) = 0

abbrev pub piece_length_in : Bencode → ℕ
piece_length_in v = number_in (value_under_key (codes "piece length") (info_in v))

abbrev pub text_in : Bencode → List ℕ
text_in (int z) = []
text_in (text s) = s
text_in (list vs) = []
text_in (dict ps) = []

abbrev pub name_in : Bencode → List ℕ
name_in v = text_in (value_under_key (codes "name") (info_in v))

abbrev pub parts_of_torrent : Bencode → List Part
parts_of_torrent v = the_parts (parts_in (info_in v) (name_in v))

-- ---- tests

abbrev pub lacks : Key → Bencode → Type 0
lacks key v = get (key_spelling key) v ≡ None

-- the value under a key, if there is one, is of another kind
abbrev pub IsOther : {A : Type 0} → (Bencode → Option A) → Option Bencode → Type 0
IsOther kind None = ⊥
IsOther kind (Some w) = kind w ≡ None

abbrev pub Other : {A : Type 0} → (Bencode → Option A) → Key → Bencode → Type 0
Other kind key v = IsOther kind (get (key_spelling key) v)

-- a byte string that is UTF-8
abbrev pub IsName : Option Bencode → Type 0
IsName None = ⊥
IsName (Some v) = IsTextOf (as_text v)
  where
    IsTextOf : Option (List ℕ) → Type 0
    IsTextOf None = ⊥
    IsTextOf (Some s) = IsUtf8 s

abbrev pub missing : Key → Bencode → TestRow
missing key v = record { holds = lacks key v; answer = refusals.Missing key }

abbrev pub wrong : {A : Type 0} → (Bencode → Option A) → Key → Bencode → TestRow
wrong kind key v = record { holds = Other kind key v; answer = refusals.WrongType key }

-- the steps on keys: the info dictionary, the version, the other keys of the info dictionary, the
-- piece layers and the piece length
abbrev pub top_rows : Bencode → List TestRow
top_rows v =
    record { holds = as_dict v ≡ None; answer = refusals.WrongType keys.Top }
    ∷ missing keys.Info v
    ∷ wrong as_dict keys.Info v
    ∷ []

abbrev pub version_rows : Bencode → List TestRow
version_rows info =
    missing keys.MetaVersion info
    ∷ wrong as_int keys.MetaVersion info
    ∷ record {
      holds = get (codes "meta version") info
          ≢ Some (int (pos 2));
      answer = refusals.Version;
    }
    ∷ []

abbrev pub present_rows : Bencode → List TestRow
present_rows info =
    missing keys.FileTree info
    ∷ missing keys.Name info
    ∷ missing keys.PieceLength info
    ∷ []

abbrev pub kind_rows : Bencode → List TestRow
kind_rows info =
    wrong as_dict keys.FileTree info
    ∷ record { holds = IsName (get (codes "name") info) → ⊥; answer = refusals.WrongType keys.Name }
    ∷ wrong as_int keys.PieceLength info
    ∷ []

abbrev pub layers_rows : Bencode → List TestRow
layers_rows v = wrong as_dict keys.PieceLayers v ∷ []

abbrev pub piece_length_rows : ℕ → List TestRow
piece_length_rows n = record { holds = IsPieceLength n → ⊥; answer = refusals.PieceLength } ∷ []

-- the tests of the info dictionary's keys
abbrev pub info_rows : Bencode → List TestRow
info_rows info = version_rows info ++ (present_rows info ++ kind_rows info)

-- the tests of the keys, but for what the piece length is
abbrev pub head_rows : Bencode → List TestRow
head_rows v = top_rows v ++ (info_rows (info_in v) ++ layers_rows v)

-- the tests of all keys
abbrev pub all_key_rows : Bencode → List TestRow
all_key_rows v = top_rows v
    ++ (info_rows (info_in v) ++ (layers_rows v ++ piece_length_rows (piece_length_in v)))

-- the tests that come before any memory is taken, but for decoding: those of the keys, of the file
-- tree and of its files
abbrev pub plain_rows : Bencode → List TestRow
plain_rows v = all_key_rows v ++ tree_rows (file_tree_in v)

abbrev pub count_rows : ℕ → List ListedFile → List TestRow
count_rows piece_length fs =
    record { holds = IsReused fs; answer = refusals.RootReused }
    ∷ record { holds = fs ≡ []; answer = refusals.NoFiles }
    ∷ record { holds = 2 ^ 32 ≤ pieces_in piece_length fs; answer = refusals.TooManyPieces }
    ∷ []

-- the steps on piece layers, each of any one tree
abbrev pub layer_rows : ℕ → Pairs → List Root → List TestRow
layer_rows piece_length layers ts =
    record {
      holds = list_any (lacks_layer piece_length layers) ts
          ≡ true;
      answer = refusals.LayerMissing;
    }
    ∷ record {
      holds = list_any (lacks_size piece_length layers) ts
          ≡ true;
      answer = refusals.LayerSize;
    }
    ∷ record {
      holds = list_any (mismatches piece_length layers) ts
          ≡ true;
      answer = refusals.LayerMismatch;
    }
    ∷ []

-- the steps on the version 1 part, of hybrids alone
abbrev pub hybrid_rows : ℕ → Bencode → List ℕ → List ListedFile → List TestRow
hybrid_rows piece_length info name fs =
    record {
      holds = IsTrue (is_hybrid info) × DiffersFromFiles fs (parts_in info name);
      answer = refusals.HybridFiles;
    }
    ∷ record {
      holds = IsTrue (is_hybrid info) × IsUnaligned piece_length (the_parts (parts_in info name));
      answer = refusals.HybridAlign;
    }
    ∷ record {
      holds = IsTrue (is_hybrid info)
          × (cuts_in piece_length (the_parts (parts_in info name)) info ≡ None);
      answer = refusals.HybridPieces;
    }
    ∷ []

-- tables, one after the other
abbrev joined_rows : List (List TestRow) → List TestRow
joined_rows [] = []
joined_rows (rows ∷ tables) = rows ++ joined_rows tables

-- the tests of a value, in their order
abbrev pub table : Bencode → List TestRow
table v = joined_rows (
    top_rows v
    ∷ version_rows (info_in v)
    ∷ present_rows (info_in v)
    ∷ kind_rows (info_in v)
    ∷ layers_rows v
    ∷ piece_length_rows (piece_length_in v)
    ∷ shape_rows (file_tree_in v)
    ∷ file_rows (walks_of v)
    ∷ count_rows (piece_length_in v) (files_of v)
    ∷ layer_rows (piece_length_in v) (layers_in v) (roots_in (files_of v))
    ∷ hybrid_rows (piece_length_in v) (info_in v) (name_in v) (files_of v)
    ∷ [])

-- the most bytes that a torrent file may have
abbrev pub max_torrent : ℕ
max_torrent = 2 ^ 26

-- r is the answer of the first test of the bytes that holds
abbrev pub RefusesTorrent : List ℕ → Refusal → Type 0
RefusesTorrent b r = ((max_torrent < length b) × (r ≡ refusals.TooLarge))
    ⊎ ((length b ≤ max_torrent)
    × (((f : Fault) × benc.Fails b f.kind f.offset × (r ≡ refusals.NotBencode f))
    ⊎ ((v : Bencode) × Spells v b × First (table v) r)))

-- opening these bytes may take memory: they are not too many and spell a value, and decoding comes
-- to a list or a dictionary that has to grow, or no test of the keys, of the file tree and of its
-- files holds
pub record OpeningTakesMemory (b : List ℕ) : Type 0 where
  pub small : length b ≤ max_torrent
  pub value : Bencode
  pub spells : Spells value b
  pub where_taken : ((offset : ℕ) × benc.Opens b offset) ⊎ NoneHolds (plain_rows value)
