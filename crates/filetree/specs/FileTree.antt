-- The file tree (BEP 52, "info dictionary", "file tree"): directories, files, and the walks that
-- lead to them.
use Rattle.std.specs.Prelude.{◌≡◌, ℕ, ◌^◌, pos, negsuc, Bool, true, false, not, ◌&&◌, ◌||◌, ◌==◌, nat_le, nat_lt, if◌then◌else◌, List, [], ◌∷◌, ◌++◌, length}
use Rattle.std.specs.Prelude.{map, Option, Some, None, is_none, option_and_then, unwrap_or, ◌⊎◌, codes, Contains}
use Rattle.std.specs.Str.{IsUtf8}
use Rattle.std.specs.List.{list_any}
use Rattle.benc.specs.Value.{Bencode, int, text, list, dict, Pairs, no_pairs, pair}
use Rattle.filetree.specs.Dictionary.{get, as_text}
use Rattle.filetree.specs.declared.files.ListedFile.{ListedFile}

abbrev pub is_nil : List ℕ → Bool
is_nil key = length key == 0

abbrev pub is_dict : Bencode → Bool
is_dict (int z) = false
is_dict (text s) = false
is_dict (list vs) = false
is_dict (dict ps) = true

-- a file's node: the zero-length key alone, with a dictionary
abbrev pub is_file : Pairs → Bool
is_file no_pairs = false
is_file (pair k v no_pairs) = is_nil k && is_dict v
is_file (pair k v (pair l w ps)) = false

-- each key of a directory is a component, whose value is a file's node or a directory
abbrev mutual
  pub is_directory : Pairs → Bool
  is_directory no_pairs = true
  is_directory (pair k v ps) = not (is_nil k) && is_node v && is_directory ps

  pub is_node : Bencode → Bool
  is_node (int z) = false
  is_node (text s) = false
  is_node (list vs) = false
  is_node (dict ps) = is_file ps || is_directory ps

-- '/', which separates the components of a path
abbrev pub slash : ℕ
slash = 47

-- a component that no path may have
abbrev pub IsBadComponent : List ℕ → Type 0
IsBadComponent k =
    (k ≡ codes ".") ⊎ (k ≡ codes "..") ⊎ Contains k slash ⊎ Contains k 0 ⊎ (IsUtf8 k → ⊥)

-- some component, of a directory too, is bad
abbrev mutual
  pub HasBadPath : Pairs → Type 0
  HasBadPath no_pairs = ⊥
  HasBadPath (pair k v ps) =
      ((is_nil k ≡ false) × (IsBadComponent k ⊎ HasBadPathIn v)) ⊎ HasBadPath ps

  pub HasBadPathIn : Bencode → Type 0
  HasBadPathIn (int z) = ⊥
  HasBadPathIn (text s) = ⊥
  HasBadPathIn (list vs) = ⊥
  HasBadPathIn (dict ps) = HasBadPath ps

-- a walk from the root to a zero-length key: its components, and the value there
pub record Walk : Type 0 where
  pub path : List (List ℕ)
  pub file : Bencode

abbrev pub below : List ℕ → Walk → Walk
below k w = record { path = k ∷ w.path; file = w.file }

abbrev mutual
  -- all walks, ordered by their lists of components
  pub walks : Pairs → List Walk
  walks no_pairs = []
  walks (pair k v ps) =
      (if is_nil k then record { path = []; file = v } ∷ [] else map (below k) (walks_in v))
      ++ walks ps

  pub walks_in : Bencode → List Walk
  walks_in (int z) = []
  walks_in (text s) = []
  walks_in (list vs) = []
  walks_in (dict ps) = walks ps

-- ---- what stands in a file's dictionary

-- `attr` is a byte string with this letter (BEP 47, "Extended File Attributes")
abbrev pub has_attribute : ℕ → Bencode → Bool
has_attribute letter file = is_letter_of (option_and_then as_text (get (codes "attr") file))
  where
    is_letter_of : Option (List ℕ) → Bool
    is_letter_of None = false
    is_letter_of (Some s) = list_any (λ c. c == letter) s

-- the letters of `attr` for a symlink, 'l', and for a pad file, 'p' (BEP 47)
abbrev pub symlink_letter : ℕ
symlink_letter = 108

abbrev pub pad_letter : ℕ
pad_letter = 112

-- a symlink has the attribute `l`
abbrev pub is_symlink : Bencode → Bool
is_symlink file = has_attribute symlink_letter file

-- a length is an integer from 0 to 2 ^ 46
abbrev pub as_length : Bencode → Option ℕ
as_length (int (pos n)) = if nat_le n (2 ^ 46) then Some n else None
as_length (int (negsuc n)) = None
as_length (text s) = None
as_length (list vs) = None
as_length (dict ps) = None

-- the length that a file's dictionary states, if there is a good one
abbrev pub length_at : Bencode → Option ℕ
length_at file = option_and_then as_length (get (codes "length") file)

abbrev pub length_of : Bencode → ℕ
length_of file = unwrap_or (length_at file) 0

-- a root is a byte string of 32 bytes
abbrev pub as_root : Bencode → Option (List ℕ)
as_root (int z) = None
as_root (text s) = if length s == 32 then Some s else None
as_root (list vs) = None
as_root (dict ps) = None

abbrev pub root_at : Bencode → Option (List ℕ)
root_at file = option_and_then as_root (get (codes "pieces root") file)

-- a file that is not empty has no root
abbrev pub lacks_root : Bencode → Bool
lacks_root file = nat_lt 0 (length_of file) && is_none (root_at file)

abbrev pub stated_root : ℕ → Bencode → Option (List ℕ)
stated_root n file = if nat_lt 0 n then root_at file else None

-- the file at the end of a walk: its path, its length, and its root if it is not empty
abbrev pub file_of_walk : Walk → ListedFile
file_of_walk w = record {
  path = w.path;
  length = length_of w.file;
  root = stated_root (length_of w.file) w.file;
}
