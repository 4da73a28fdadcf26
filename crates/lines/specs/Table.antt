-- The table of the lines: of each kind its name, and its items in order.
use Rattle.std.specs.Prelude.{ℕ, List, [], ◌∷◌, ◌++◌, Option, Some, None, codes, map, option_map, string_bytes}
use Rattle.std.specs.List.{join_with_byte}
use Rattle.benc.specs.Messages.{kind_name}
use Rattle.filetree.specs.FileTree.{slash}
use Rattle.filetree.specs.Names.{key_spelling, refusal_name, refusal_number}
use Rattle.filetree.specs.declared.refusal.Refusal.{Refusal}
use Rattle.filetree.specs.declared.refusal.Refusal.TheVariants as refusals
use Rattle.hex.specs.Hex.{encode_lower}
use Rattle.lines.specs.Rows.{Item, Row, row, word, number, start, over, name, code, text, unprinted}
use Rattle.lines.specs.declared.line.Line.{Line}
use Rattle.lines.specs.declared.line.Line.TheVariants as line
use Rattle.lines.specs.declared.checked.Checked.{Checked}
use Rattle.lines.specs.declared.checked.Checked.TheVariants as checked
use Rattle.lines.specs.declared.parted.Parted.{Parted}
use Rattle.lines.specs.declared.parted.Parted.TheVariants as parted
use Rattle.lines.specs.declared.shown.Shown.{Shown}
use Rattle.lines.specs.declared.shown.Shown.TheVariants as shown

-- ---- lines of frame n: its number, the kind, and then these items

abbrev pub frame_row : List ℕ → ℕ → List Item → Row
frame_row kind n items = row kind (number (codes "frame") n ∷ word kind ∷ items)

-- a block of a file
abbrev pub block_items : ℕ → ℕ → List Item
block_items file block = number (codes "file") file ∷ number (codes "block") block ∷ []

-- a run of blocks of a file
abbrev pub run_items : ℕ → ℕ → ℕ → List Item
run_items file first last =
    number (codes "file") file ∷ number (codes "first") first ∷ number (codes "last") last ∷ []

-- why something is refused, and then these items
abbrev pub refused_row : ℕ → List ℕ → ℕ → List ℕ → List Item → Row
refused_row n letter why called items =
    frame_row (codes "refused") n
    (code (codes "code") letter why ∷ name (codes "name") called ∷ items)

abbrev pub stored_row : ℕ → ℕ → Row
stored_row n count = frame_row (codes "stored") n (number (codes "count") count ∷ [])

abbrev pub verified_row : ℕ → ℕ → ℕ → Row
verified_row n file block = frame_row (codes "verified") n (block_items file block)

abbrev pub held_row : ℕ → ℕ → ℕ → Row
held_row n file block = frame_row (codes "held") n (block_items file block)

abbrev pub proved_row : ℕ → ℕ → ℕ → ℕ → Row
proved_row n file first last = frame_row (codes "proved") n (run_items file first last)

abbrev pub false_row : ℕ → ℕ → ℕ → ℕ → Row
false_row n file first last = frame_row (codes "false") n (run_items file first last)

abbrev pub dropped_row : ℕ → ℕ → ℕ → ℕ → Row
dropped_row n file first last = frame_row (codes "dropped") n (run_items file first last)

abbrev pub skipped_row : ℕ → ℕ → Row
skipped_row n id = frame_row (codes "skipped") n (number (codes "id") id ∷ [])

abbrev pub bad_frame_row : ℕ → ℕ → ℕ → Row
bad_frame_row n id len =
    frame_row (codes "bad frame") n (number (codes "id") id ∷ number (codes "length") len ∷ [])

-- ---- other lines: the kind, and then these items

abbrev pub plain_row : List ℕ → List Item → Row
plain_row kind items = row kind (word kind ∷ items)

-- this many blocks are still held
abbrev pub still_held_row : ℕ → Row
still_held_row count = plain_row (codes "held") (number (codes "count") count ∷ [])

-- a path by its components
abbrev pub path_item : List (List ℕ) → Item
path_item parts = text (codes "path") (join_with_byte slash parts)

abbrev pub seeded_row : List (List ℕ) → Row
seeded_row parts = plain_row (codes "seeded") (path_item parts ∷ [])

abbrev pub not_seeded_row : List (List ℕ) → Row
not_seeded_row parts = plain_row (codes "not seeded") (path_item parts ∷ [])

abbrev pub fault_row : List ℕ → Row
fault_row called = plain_row (codes "fault") (name (codes "name") called ∷ [])

-- ---- lines of a file and of a torrent

-- a root in hexadecimal, or a dash of an empty file
abbrev pub root_item : Option (List ℕ) → Item
root_item None = word (codes "-")
root_item (Some root) = name (codes "root") (encode_lower root)

abbrev pub root_row : ℕ → Option (List ℕ) → Row
root_row len root = row (codes "root") (number (codes "length") len ∷ root_item root ∷ [])

-- a kind, its title, and then these items
abbrev pub titled_row : List ℕ → List ℕ → List Item → Row
titled_row kind title items = row kind (word title ∷ items)

abbrev pub name_row : List ℕ → Row
name_row called = titled_row (codes "name") (codes "name:") (text (codes "name") called ∷ [])

abbrev pub piece_length_row : ℕ → Row
piece_length_row bytes =
    titled_row (codes "piece length") (codes "piece length:") (number (codes "bytes") bytes ∷ [])

-- an info-hash
abbrev pub hash_row : List ℕ → List ℕ → List ℕ → Row
hash_row kind title hash =
    titled_row kind title (name (codes "hash") (encode_lower hash) ∷ [])

abbrev pub hash_v2_row : List ℕ → Row
hash_v2_row hash = hash_row (codes "info hash v2") (codes "info hash v2:") hash

abbrev pub hash_v1_row : List ℕ → Row
hash_v1_row hash = hash_row (codes "info hash v1") (codes "info hash v1:") hash

abbrev pub files_row : ℕ → Row
files_row count = titled_row (codes "files") (codes "files:") (number (codes "count") count ∷ [])

abbrev pub file_row : ℕ → Option (List ℕ) → List (List ℕ) → Row
file_row len root parts =
    row (codes "file") (number (codes "length") len ∷ root_item root ∷ path_item parts ∷ [])

abbrev pub total_row : ℕ → List ℕ → Row
total_row bytes size =
    titled_row (codes "total") (codes "total:")
    (number (codes "bytes") bytes ∷ text (codes "size") size ∷ [])

abbrev pub pieces_row : ℕ → List ℕ → Row
pieces_row count size =
    titled_row (codes "pieces") (codes "pieces:")
    (number (codes "count") count ∷ word (codes "of") ∷ text (codes "size") size ∷ [])

abbrev pub layers_row : ℕ → Row
layers_row count =
    titled_row (codes "layers") (codes "layers:") (number (codes "count") count ∷ [])

abbrev pub shown_row : Shown → Row
shown_row (shown.Name called) = name_row called.now
shown_row (shown.PieceLength bytes) = piece_length_row bytes
shown_row (shown.InfoHashV2 hash) = hash_v2_row hash.now
shown_row (shown.InfoHashV1 hash) = hash_v1_row hash.now
shown_row (shown.Files count) = files_row count
shown_row (shown.File len root p) =
    file_row len (option_map (λ r. r.now) root) (map (λ s. s.now) p.now)
shown_row (shown.Total bytes size) = total_row bytes size.now
shown_row (shown.Pieces count size) = pieces_row count size.now
shown_row (shown.Layers count) = layers_row count

-- ---- lines of a check

-- a file of which this is said
abbrev pub path_row : List ℕ → List (List ℕ) → Row
path_row kind parts = plain_row kind (path_item parts ∷ [])

abbrev pub extra_row : List (List ℕ) → Row
extra_row parts = path_row (codes "extra") parts

abbrev pub bad_row : ℕ → List (List ℕ) → Row
bad_row piece parts =
    plain_row (codes "bad") (number (codes "piece") piece ∷ path_item parts ∷ [])

-- a run of bad pieces of a file, and its first and last byte; the line before has the path
abbrev pub bad_pieces_row : ℕ → ℕ → ℕ → ℕ → List (List ℕ) → Row
bad_pieces_row first last from to parts =
    row (codes "bad pieces")
    (unprinted (codes "path") (join_with_byte slash parts) ∷ word (codes "bad pieces")
    ∷ number (codes "first") first ∷ number (codes "last") last ∷ word (codes "bytes")
    ∷ start (codes "from") from ∷ number (codes "to") to ∷ [])

abbrev pub v1_bad_row : ℕ → Row
v1_bad_row piece = plain_row (codes "v1 bad") (number (codes "piece") piece ∷ [])

abbrev pub checked_row : Checked → Row
checked_row (checked.Extra p) = extra_row (map string_bytes p.now)
checked_row (checked.Good p) = path_row (codes "good") (map (λ s. s.now) p.now)
checked_row (checked.Missing p) = path_row (codes "missing") (map (λ s. s.now) p.now)
checked_row (checked.Unreadable p) = path_row (codes "unreadable") (map (λ s. s.now) p.now)
checked_row (checked.WrongLength p) = path_row (codes "wrong length") (map (λ s. s.now) p.now)
checked_row (checked.Bad piece p) = bad_row piece (map (λ s. s.now) p.now)
checked_row (checked.BadPieces first last from to p) =
    bad_pieces_row first last from to (map (λ s. s.now) p.now)
checked_row checked.V1Good = plain_row (codes "v1 good") []
checked_row (checked.V1Bad piece) = v1_bad_row piece
checked_row checked.V1NotChecked = plain_row (codes "v1 not checked") []
checked_row checked.Yes = plain_row (codes "yes") []
checked_row checked.No = plain_row (codes "no") []

-- ---- lines that the report of a part has alone

-- which one of how many parts it is, and the version 2 info-hash
abbrev pub part_items : ℕ → ℕ → List ℕ → List Item
part_items part parts hash =
    over (codes "part") part ∷ number (codes "parts") parts
    ∷ name (codes "hash") (encode_lower hash) ∷ []

abbrev pub part_row : ℕ → ℕ → List ℕ → Row
part_row part parts hash = plain_row (codes "part") (part_items part parts hash)

-- that of a report that tells of bad pieces
abbrev pub bad_part_row : ℕ → ℕ → List ℕ → Row
bad_part_row part parts hash =
    titled_row (codes "part bad") (codes "part")
    (part_items part parts hash ++ word (codes "bad") ∷ [])

abbrev pub parted_row : Parted → Row
parted_row (parted.Part part parts hash) = part_row part parts hash.now
parted_row (parted.BadPart part parts hash) = bad_part_row part parts hash.now
parted_row parted.Yes = plain_row (codes "part yes") []
parted_row parted.No = plain_row (codes "part no") []

-- ---- the line of a torrent that is refused

-- what is said beside the name: of bytes that spell no value the first fault and its offset, of a
-- key the key
abbrev pub detail_items : Refusal → List Item
detail_items (refusals.NotBencode fault) =
    name (codes "fault") (kind_name fault.kind) ∷ number (codes "offset") fault.offset ∷ []
detail_items (refusals.Missing key) = name (codes "key") (key_spelling key) ∷ []
detail_items (refusals.WrongType key) = name (codes "key") (key_spelling key) ∷ []
detail_items refusal = []

-- the path, if there is one
abbrev pub path_items : List (List ℕ) → List Item
path_items [] = []
path_items (part ∷ parts) = path_item (part ∷ parts) ∷ []

abbrev pub refusal_row : Refusal → List (List ℕ) → Row
refusal_row r parts =
    plain_row (codes "refused")
    (number (codes "number") (refusal_number r) ∷ name (codes "name") (refusal_name r)
    ∷ (detail_items r ++ path_items parts))

-- a record that is of form 2 already
abbrev pub already_form_2_row : Row
already_form_2_row =
    plain_row (codes "refused")
    (number (codes "number") 3 ∷ name (codes "name") (codes "AlreadyForm2") ∷ [])

-- ---- the table

abbrev pub row_of : Line → Row
row_of (line.Stored n count) = stored_row n count
row_of (line.Verified n file block) = verified_row n file block
row_of (line.Refused n letter why called) = refused_row n letter.now why called.now []
row_of (line.RefusedAt n letter why called file block) =
    refused_row n letter.now why called.now (block_items file block)
row_of (line.Held n file block) = held_row n file block
row_of (line.Proved n file first last) = proved_row n file first last
row_of (line.False n file first last) = false_row n file first last
row_of (line.Dropped n file first last) = dropped_row n file first last
row_of (line.StillHeld count) = still_held_row count
row_of (line.Answered n) = frame_row (codes "answered") n []
row_of (line.Rejected n) = frame_row (codes "rejected") n []
row_of (line.RejectNoted n) = frame_row (codes "reject noted") n []
row_of (line.KeepAlive n) = frame_row (codes "keep-alive") n []
row_of (line.Skipped n id) = skipped_row n id
row_of (line.BadFrame n id len) = bad_frame_row n id len
row_of (line.SentRequest n) = frame_row (codes "sent request") n []
row_of (line.Sent n) = frame_row (codes "sent") n []
row_of (line.Seeded p) = seeded_row (map (λ s. s.now) p.now)
row_of (line.NotSeeded p) = not_seeded_row (map (λ s. s.now) p.now)
row_of line.End = plain_row (codes "end") []
row_of (line.Fault called) = fault_row called.now
row_of (line.Root len root) = root_row len (option_map (λ r. r.now) root)
row_of (line.Shown s) = shown_row s
row_of (line.Checked found) = checked_row found
row_of (line.Parted said) = parted_row said
row_of (line.Refusal r p) = refusal_row r.now (map string_bytes p.now)
row_of line.AlreadyForm2 = already_form_2_row
