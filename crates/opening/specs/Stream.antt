-- The version 1 part of a hybrid: the list of files and pads whose contents are joined to one
-- stream (BEP 3, "info dictionary"; BEP 47, "Padding Files"; BEP 52, "Upgrade Path").
use Rattle.std.specs.Prelude.{◌≡◌, ◌≢◌, ℕ, ◌*◌, ◌<◌, Bool, false, not, ◌&&◌, ◌||◌, if◌then◌else◌, List, [], ◌∷◌, map, take, filter, sum_by, Option, Some, None}
use Rattle.std.specs.Prelude.{is_some, is_none, option_and_then, unwrap_or, ◌⊎◌, codes, slice_get, IsTrue}
use Rattle.std.specs.List.{list_any}
use Rattle.std.specs.Str.{bytes_eq}
use Rattle.benc.specs.Value.{Bencode, Items, no_items, item}
use Rattle.opening.specs.Description.{Version1}
use Rattle.filetree.specs.Dictionary.{get, as_list, as_text}
use Rattle.filetree.specs.FileTree.{has_attribute, length_at, is_dict, pad_letter}
use Rattle.filetree.specs.declared.files.ListedFile.{ListedFile}
use Rattle.opening.specs.PieceLayers.{as_digests}
use Rattle.pieces.specs.Pieces.{pieces_of}

-- an entry of the list: a pad or a file, its length, and its path; None stands for what is absent
-- or of another kind
pub record Part : Type 0 where
  pub is_pad : Bool
  pub length : Option ℕ
  pub path : Option (List (List ℕ))

abbrev pub has_key : List ℕ → Bencode → Bool
has_key key v = is_some (get key v)

abbrev pub is_hybrid : Bencode → Bool
is_hybrid info = has_key (codes "pieces") info

-- a list of byte strings
abbrev pub texts_in : Items → Option (List (List ℕ))
texts_in no_items = Some []
texts_in (item v vs) =
    option_and_then (λ s. option_and_then (λ ss. Some (s ∷ ss)) (texts_in vs)) (as_text v)

-- at least one byte string
abbrev pub some_texts : List (List ℕ) → Option (List (List ℕ))
some_texts [] = None
some_texts (s ∷ ss) = Some (s ∷ ss)

-- a list of at least one byte string
abbrev pub as_path : Bencode → Option (List (List ℕ))
as_path v = option_and_then some_texts (option_and_then texts_in (as_list v))

-- a path of this name alone
abbrev pub is_named : List ℕ → List (List ℕ) → Bool
is_named name [] = false
is_named name (s ∷ []) = bytes_eq s name
is_named name (s ∷ (t ∷ ts)) = false

-- an entry of `files`: a dictionary, and a pad if `attr` has the letter `p`
abbrev pub entry_part : Bencode → Part
entry_part entry =
    record {
      is_pad = has_attribute pad_letter entry;
      length = length_at entry;
      path = option_and_then as_path (get (codes "path") entry);
    }

-- the entries of `files`, each a dictionary
abbrev pub parts_of : Items → Option (List Part)
parts_of no_items = Some []
parts_of (item v vs) =
    if is_dict v then option_and_then (λ ps. Some (entry_part v ∷ ps)) (parts_of vs) else None

-- the list: the entries of `files`, or the one file of `length`, if exactly one of these keys is
-- there
abbrev pub parts_in : Bencode → List ℕ → Option (List Part)
parts_in info name =
    if has_key (codes "length") info then (if has_key (codes "files") info then None
    else Some (record { is_pad = false; length = length_at info; path = Some (name ∷ []) }
    ∷ []))
    else option_and_then parts_of (option_and_then as_list (get (codes "files") info))

-- an entry has no length, or is a file with no path
abbrev pub is_broken : Part → Bool
is_broken p = is_none p.length || (not p.is_pad && is_none p.path)

abbrev pub length_in : Part → ℕ
length_in p = unwrap_or p.length 0

-- the files of the list: their paths and lengths
pub record Named : Type 0 where
  pub path : List (List ℕ)
  pub length : ℕ

abbrev pub named_part : Part → Named
named_part p = record { path = unwrap_or p.path []; length = length_in p }

abbrev pub files_in : List Part → List Named
files_in ps = map named_part (filter (λ p. not p.is_pad) ps)

abbrev pub named : ListedFile → Named
named f = record { path = f.path; length = f.length }

-- the list is malformed, or without pads it differs from the files of the file tree
abbrev pub DiffersFromFiles : List ListedFile → Option (List Part) → Type 0
DiffersFromFiles fs None = Unit {0}
DiffersFromFiles fs (Some ps) = IsTrue (list_any is_broken ps) ⊎ (files_in ps ≢ map named fs)

-- the length of the stream
abbrev pub stream_length : List Part → ℕ
stream_length ps = sum_by length_in ps

-- a file that is not empty does not start in the stream at its first piece: the pieces of the files
-- before it
pub record IsMisplaced (piece_length : ℕ) (ps : List Part) : Type 0 where
  pub number : ℕ
  pub part : Part
  pub there : slice_get ps number ≡ Some part
  pub no_pad : part.is_pad ≡ false
  pub some : 0 < length_in part
  pub elsewhere : stream_length (take number ps)
      ≢ sum_by (λ f. pieces_of piece_length f.length) (files_in (take number ps)) * piece_length

-- the stream ends after the end of the files' last piece
abbrev pub IsTooLong : ℕ → List Part → Type 0
IsTooLong piece_length ps =
    sum_by (λ f. pieces_of piece_length f.length) (files_in ps) * piece_length < stream_length ps

-- a file is misplaced, or the stream is too long
abbrev pub IsUnaligned : ℕ → List Part → Type 0
IsUnaligned piece_length ps = IsMisplaced piece_length ps ⊎ IsTooLong piece_length ps

-- the list, or an empty one; an earlier test refuses what has none
abbrev pub the_parts : Option (List Part) → List Part
the_parts None = []
the_parts (Some ps) = ps

-- one SHA-1 digest for each cut of the stream
abbrev pub cuts_in : ℕ → List Part → Bencode → Option (List (List ℕ))
cuts_in piece_length ps info =
    option_and_then (as_digests 20 (pieces_of piece_length (stream_length ps)))
    (get (codes "pieces") info)

abbrev pub version1_of : ℕ → List Part → Bencode → Version1
version1_of piece_length ps info =
    record { pieces = unwrap_or (cuts_in piece_length ps info) []; total = stream_length ps }

-- what a torrent says of version 1, if it is a hybrid
abbrev pub version1_in : ℕ → List Part → Bencode → Option Version1
version1_in piece_length ps info =
    if is_hybrid info then Some (version1_of piece_length ps info) else None

-- the version 1 part of a hybrid; another torrent has none
abbrev pub IsVersion1 : ℕ → Bencode → List ℕ → Option Version1 → Type 0
IsVersion1 piece_length info name v =
    v ≡ version1_in piece_length (the_parts (parts_in info name)) info
