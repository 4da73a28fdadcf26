-- Which items a line has is told by its text.
use Rattle.std.proofs.Common.{◌≡◌, ◌∷◌, ◌++◌, ◌∙◌, ◌<◌, ◌^◌, [], List, ℕ, Bool, true, false, ◌&&◌, ◌||◌, ◌==◌, length, drop, get_or, decimal, bytes_eq, codes}
use Rattle.std.proofs.Common.{Some, None, if◌then◌else◌, ap, refl}
use Rattle.std.specs.Char.{is_ascii_digit}
use Rattle.lines.specs.Rows.{Item, Row, row, number, name}
use Rattle.lines.specs.Table
use Rattle.line_laws.specs.Said.{printed}
use Rattle.line_laws.proofs.Cuts.{front, onward, decimal_first}
use Rattle.line_laws.proofs.Fields.{is_gap, is_no_digit, behind, behind_number}

-- a line is one of these, by the words at its start
abbrev pub Kinds : Type 0
Kinds = List (List ℕ × (List ℕ → Row))

abbrev pub begins : List ℕ → List ℕ → Bool
begins [] t = true
begins (x ∷ xs) [] = false
begins (x ∷ xs) (y ∷ ys) = x == y && begins xs ys

abbrev pub found : Kinds → List ℕ → Row
found [] t = row [] []
found (k ∷ kinds) t = (if begins k.0 t then k.1 (drop (length k.0) t) else found kinds t)

-- a kind that has these items whatever follows
abbrev pub only : List ℕ → Row → List ℕ × (List ℕ → Row)
only words r = (words, λ _. r)

-- ---- lines of a frame, behind its number

-- with the block or without it
abbrev pub refused_shape : List ℕ → Row
refused_shape at =
    (if get_or at 0 0 == 10 then Table.refused_row 0 [] 0 [] [] else Table.refused_row 0 [] 0 [] (Table.block_items 0 0))

abbrev pub frames : Kinds
frames =
    only (codes "stored ") (Table.stored_row 0 0)
    ∷ only (codes "verified ") (Table.verified_row 0 0 0)
    ∷ (codes "refused ", λ t. refused_shape (onward is_gap (behind is_gap t)))
    ∷ only (codes "held ") (Table.held_row 0 0 0)
    ∷ only (codes "proved ") (Table.proved_row 0 0 0 0)
    ∷ only (codes "false ") (Table.false_row 0 0 0 0)
    ∷ only (codes "dropped ") (Table.dropped_row 0 0 0 0)
    ∷ only (codes "answered\n") (Table.frame_row (codes "answered") 0 [])
    ∷ only (codes "rejected\n") (Table.frame_row (codes "rejected") 0 [])
    ∷ only (codes "reject noted\n") (Table.frame_row (codes "reject noted") 0 [])
    ∷ only (codes "keep-alive\n") (Table.frame_row (codes "keep-alive") 0 [])
    ∷ only (codes "skipped ") (Table.skipped_row 0 0)
    ∷ only (codes "bad frame ") (Table.bad_frame_row 0 0 0)
    ∷ only (codes "sent request\n") (Table.frame_row (codes "sent request") 0 [])
    ∷ only (codes "sent\n") (Table.frame_row (codes "sent") 0 [])
    ∷ only (codes "-\n") (Table.root_row 0 None)
    ∷ only (codes "- ") (Table.file_row 0 None [])
    ∷ []

-- behind a root, with the path or without it
abbrev pub root_shape : List ℕ → Row
root_shape at = (if get_or at 0 0 == 10 then Table.root_row 0 (Some []) else Table.file_row 0 (Some []) [])

-- a word of 64 bytes is a root
abbrev pub numbered : List ℕ → Row
numbered t = (if length (front is_gap t) == 64 then root_shape (onward is_gap t) else found frames t)

-- ---- the line of a torrent that is refused

abbrev pub refusal_shape : List Item → Row
refusal_shape items =
    Table.plain_row (codes "refused") (number (codes "number") 0 ∷ name (codes "name") [] ∷ items)

-- the path, if there is one
abbrev pub ending : List ℕ → List Item
ending at = (if get_or at 0 0 == 10 then [] else Table.path_item [] ∷ [])

abbrev pub keys : List (List ℕ)
keys =
    codes "top" ∷ codes "info" ∷ codes "meta version" ∷ codes "file tree" ∷ codes "name" ∷ codes "piece length"
    ∷ codes "piece layers" ∷ []

abbrev pub key_shape : List (List ℕ) → List ℕ → Row
key_shape [] t = row [] []
key_shape (k ∷ others) t =
    (if begins k t then refusal_shape (name (codes "key") k ∷ ending (drop (length k) t)) else key_shape others t)

abbrev pub fault_shape : List ℕ → Row
fault_shape t = refusal_shape (name (codes "fault") [] ∷ number (codes "offset") 0 ∷ ending (onward is_no_digit t))

-- by the name, and what stands behind it
abbrev pub by_name : List ℕ → List ℕ → Row
by_name called at =
    (if bytes_eq called (codes "NotBencode") then fault_shape (behind is_gap (drop 1 at))
    else (if bytes_eq called (codes "Missing") || bytes_eq called (codes "WrongType") then key_shape keys (drop 1 at)
    else refusal_shape (ending at)))

abbrev pub named : List ℕ → Row
named t = by_name (front is_gap t) (onward is_gap t)

-- ---- all lines

abbrev pub bad_shape : Bool → Row
bad_shape digit = (if digit then Table.bad_row 0 [] else printed (Table.bad_pieces_row 0 0 0 0 []))

-- the report of a part: what stands behind the info-hash
abbrev pub part_shape : List ℕ → Row
part_shape at = (if get_or at 0 0 == 10 then Table.part_row 0 0 [] else Table.bad_part_row 0 0 [])

-- or the answer
abbrev pub answer_shape : Bool → Row
answer_shape good = (if good then Table.plain_row (codes "part yes") [] else Table.plain_row (codes "part no") [])

abbrev pub parted_shape : Bool → List ℕ → Row
parted_shape digit t =
    (if digit then part_shape (onward is_gap (behind is_no_digit (behind is_no_digit t))) else answer_shape (get_or t 0 0 == 121))

abbrev pub worded : Kinds
worded =
    only (codes "held ") (Table.still_held_row 0)
    ∷ only (codes "seeded ") (Table.seeded_row [])
    ∷ only (codes "not seeded ") (Table.not_seeded_row [])
    ∷ only (codes "end\n") (Table.plain_row (codes "end") [])
    ∷ only (codes "fault ") (Table.fault_row [])
    ∷ only (codes "name: ") (Table.name_row [])
    ∷ only (codes "piece length: ") (Table.piece_length_row 0)
    ∷ only (codes "info hash v2: ") (Table.hash_v2_row [])
    ∷ only (codes "info hash v1: ") (Table.hash_v1_row [])
    ∷ only (codes "files: ") (Table.files_row 0)
    ∷ only (codes "total: ") (Table.total_row 0 [])
    ∷ only (codes "pieces: ") (Table.pieces_row 0 [])
    ∷ only (codes "layers: ") (Table.layers_row 0)
    ∷ only (codes "extra ") (Table.extra_row [])
    ∷ only (codes "good ") (Table.path_row (codes "good") [])
    ∷ only (codes "missing ") (Table.path_row (codes "missing") [])
    ∷ only (codes "unreadable ") (Table.path_row (codes "unreadable") [])
    ∷ only (codes "wrong length ") (Table.path_row (codes "wrong length") [])
    ∷ (codes "bad ", λ t. bad_shape (is_ascii_digit (get_or t 0 0)))
    ∷ only (codes "v1 good\n") (Table.plain_row (codes "v1 good") [])
    ∷ only (codes "v1 bad ") (Table.v1_bad_row 0)
    ∷ only (codes "v1 not checked\n") (Table.plain_row (codes "v1 not checked") [])
    ∷ only (codes "yes\n") (Table.plain_row (codes "yes") [])
    ∷ only (codes "no\n") (Table.plain_row (codes "no") [])
    ∷ (codes "refused ", λ t. named (behind is_no_digit t))
    ∷ (codes "part ", λ t. parted_shape (is_ascii_digit (get_or t 0 0)) t)
    ∷ []

-- the kind and the items, by whether the text begins with a number
abbrev pub shape_by : Bool → List ℕ → Row
shape_by digit t = (if digit then numbered (behind is_no_digit t) else found worded t)

abbrev pub shape_of : List ℕ → Row
shape_of t = shape_by (is_ascii_digit (get_or t 0 0)) t

pub starts_digit : (n : ℕ) (rest : List ℕ) → n < 2 ^ 64 → is_ascii_digit (get_or (decimal n ++ rest) 0 0) ≡ true
starts_digit n rest small =
    let d = decimal_first n small in ap (λ ds. is_ascii_digit (get_or (ds ++ rest) 0 0)) d.is ∙ d.digit

-- behind the number at the start of a line
pub numbered_shape : (n : ℕ) (rest : List ℕ) → n < 2 ^ 64 → shape_of (decimal n ++ 32 ∷ rest) ≡ numbered rest
numbered_shape n rest small =
    ap (λ b. shape_by b (decimal n ++ 32 ∷ rest)) (starts_digit n (32 ∷ rest) small) ∙ ap numbered (behind_number n 32 rest small refl)
