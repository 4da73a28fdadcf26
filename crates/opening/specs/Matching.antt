-- The version 1 list of a hybrid beside the files of the file tree, entry by entry. Public clauses
-- do not name these.
use Rattle.std.specs.Prelude.{◌≡◌, ◌<◌, map, sum_by, ℕ, ◌+◌, ◌*◌, Bool, true, false, not, ◌&&◌, ◌==◌, nat_lt, if◌then◌else◌, List, [], ◌∷◌, Option, Some, None}
use Rattle.std.specs.Prelude.{is_some, codes, ◌^◌, Result, Ok, Err}
use Rattle.std.specs.Str.{bytes_eq}
use Rattle.benc.specs.Value.{Bencode, int, text, list, dict, Items, no_items, item}
use Rattle.opening.specs.Description.{FileEntry}
use Rattle.filetree.specs.Dictionary.{get}
use Rattle.filetree.specs.FileTree.{has_attribute, length_at, length_of, is_dict, pad_letter}
use Rattle.filetree.specs.declared.files.ListedFile.{ListedFile}
use Rattle.opening.specs.Stream.{Named, is_named, named}
use Rattle.pieces.specs.Pieces.{pieces_of}
use Rattle.filetree.specs.declared.refusal.Refusal.{Refusal}
use Rattle.filetree.specs.declared.refusal.Refusal.TheVariants as refusals
use Rattle.opening.specs.declared.version1.Ends.{Ends}

-- the path and the length of a file
abbrev pub named_entry : FileEntry → Named
named_entry e = record { path = e.path; length = e.length }

-- the files of the description are those of the file tree, and the addresses of their pieces fit 64
-- bits
pub record FitsStream (piece_length : ℕ) (es : List FileEntry) (fs : List ListedFile) : Type 0 where
  pub some : 0 < piece_length
  pub names : map named_entry es ≡ map named fs
  pub short : sum_by (λ f. pieces_of piece_length f.length) (map named fs) * piece_length < 2 ^ 64

-- a byte string of these bytes
abbrev pub is_text : Bencode → List ℕ → Bool
is_text (int z) s = false
is_text (text b) s = bytes_eq b s
is_text (list vs) s = false
is_text (dict ps) s = false

-- these byte strings, one after the other
abbrev pub are_texts : Items → List (List ℕ) → Bool
are_texts no_items [] = true
are_texts no_items (s ∷ ss) = false
are_texts (item v vs) [] = false
are_texts (item v vs) (s ∷ ss) = is_text v s && are_texts vs ss

-- a list of these byte strings, of at least one
abbrev pub is_path_value : List (List ℕ) → Option Bencode → Bool
is_path_value [] v = false
is_path_value (s ∷ ss) None = false
is_path_value (s ∷ ss) (Some (int z)) = false
is_path_value (s ∷ ss) (Some (text b)) = false
is_path_value (s ∷ ss) (Some (list vs)) = are_texts vs (s ∷ ss)
is_path_value (s ∷ ss) (Some (dict ps)) = false

abbrev pub is_length : ℕ → Option ℕ → Bool
is_length n None = false
is_length n (Some m) = m == n

-- the entry's length and path are those of the file
abbrev pub is_entry_of : Bencode → FileEntry → Bool
is_entry_of v f = is_length f.length (length_at v) && is_path_value f.path (get (codes "path") v)

-- the first file is the entry's, and the rest serves
abbrev pub begins_with_entry : Bencode → (List FileEntry → Bool) → List FileEntry → Bool
begins_with_entry v rest [] = false
begins_with_entry v rest (f ∷ fs) = is_entry_of v f && rest fs

-- a dictionary with a length
abbrev pub is_sized : Bencode → Bool
is_sized v = is_dict v && is_some (length_at v)

-- dictionaries with a length, and those that are no pads are exactly these files
abbrev pub are_same : Items → List FileEntry → Bool
are_same no_items [] = true
are_same no_items (f ∷ fs) = false
are_same (item v vs) fs =
    if is_sized v then (if has_attribute pad_letter v then are_same vs fs
    else begins_with_entry v (are_same vs) fs) else false

-- the ends of a stream of no entries
abbrev pub nowhere : Ends
nowhere = record { stream = 0; pieces = 0 }

abbrev pub after_entry : ℕ → Bencode → Ends → Ends
after_entry piece_length v e = record {
  stream = e.stream + length_of v;
  pieces = if has_attribute pad_letter v then e.pieces
      else e.pieces + pieces_of piece_length (length_of v) * piece_length;
}

-- a file that is not empty begins elsewhere than at the end of the pieces before it
abbrev pub is_misplaced : Bencode → Ends → Bool
is_misplaced v e =
    not (has_attribute pad_letter v) && nat_lt 0 (length_of v) && not (e.stream == e.pieces)

-- the ends after the entries, if none is misplaced
abbrev pub ends_of : ℕ → Items → Ends → Option Ends
ends_of piece_length no_items e = Some e
ends_of piece_length (item v vs) e =
    if is_misplaced v e then None else ends_of piece_length vs (after_entry piece_length v e)

-- the stream's length, if it does not go on after the last piece
abbrev pub aligned_length : Option Ends → Option ℕ
aligned_length None = None
aligned_length (Some e) =
    if nat_lt e.pieces e.stream then None
    else (if nat_lt e.stream (2 ^ 64) then Some e.stream else None)

-- the length of the one file
abbrev pub one_length : Bencode → List ℕ → List FileEntry → Option ℕ
one_length info name [] = None
one_length info name (f ∷ []) =
    if is_length f.length (length_at info) && is_named name f.path then Some f.length else None
one_length info name (f ∷ (g ∷ fs)) = None

abbrev pub or_else : Option ℕ → Refusal → Result ℕ Refusal
or_else None r = Err r
or_else (Some n) r = Ok n

abbrev pub many_lengths : ℕ → Items → List FileEntry → Result ℕ Refusal
many_lengths piece_length vs fs =
    if are_same vs fs
    then or_else (aligned_length (ends_of piece_length vs nowhere)) refusals.HybridAlign
    else Err refusals.HybridFiles

-- the stream's length by what stands under `length` and `files`
abbrev pub stream_under : ℕ → Bencode → List ℕ → List FileEntry → Option Bencode → Option Bencode
    → Result ℕ Refusal
stream_under piece_length info name fs None None = Err refusals.HybridFiles
stream_under piece_length info name fs None (Some (int z)) = Err refusals.HybridFiles
stream_under piece_length info name fs None (Some (text s)) = Err refusals.HybridFiles
stream_under piece_length info name fs None (Some (list vs)) = many_lengths piece_length vs fs
stream_under piece_length info name fs None (Some (dict ps)) = Err refusals.HybridFiles
stream_under piece_length info name fs (Some n) None =
    or_else (one_length info name fs) refusals.HybridFiles
stream_under piece_length info name fs (Some n) (Some v) = Err refusals.HybridFiles

abbrev pub stream_at : ℕ → Bencode → List ℕ → List FileEntry → Result ℕ Refusal
stream_at piece_length info name fs =
    stream_under piece_length info name fs (get (codes "length") info) (get (codes "files") info)
