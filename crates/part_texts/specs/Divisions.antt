-- How the pieces of files are shared out among parts, by bytes (BEP 52, "piece length").
use Rattle.std.specs.Prelude.{ℕ, ◌+◌, ◌-◌, ◌*◌, ◌/◌, ◌^◌, ◌&&◌, ◌||◌, ◌==◌, min, nat_lt, nat_le, Bool, if◌then◌else◌, List, [], ◌∷◌}
use Rattle.part_texts.specs.Listings.{Listed}
use Rattle.part_texts.specs.declared.division.Span.{Span}
use Rattle.pieces.specs.Pieces.{pieces_of}

-- how many bytes of a file of this length are hashed: none of one that is too long for a torrent
abbrev pub hashed : ℕ → ℕ
hashed n = if nat_le n (2 ^ 46) then n else 0

-- a sum, or the largest number of 64 bits
abbrev pub capped : ℕ → ℕ → ℕ
capped m n = min (m + n) (2 ^ 64 - 1)

-- how many bytes the files have, with this many before them
abbrev pub total_after : ℕ → List Listed → ℕ
total_after before [] = before
total_after before (f ∷ fs) = total_after (capped before (hashed f.bytes)) fs

abbrev pub total_of : List Listed → ℕ
total_of files = total_after 0 files

-- where a part begins among the bytes: all parts have as many, and the last one the rest too
abbrev pub start_of : ℕ → ℕ → ℕ → ℕ
start_of total parts part = total / parts * part

module _ (piece_length total parts before n : ℕ) where
  -- the first piece of a file of n bytes, with some before it, that begins in this part or later;
  -- after all parts, how many pieces there are
  abbrev pub first_piece : ℕ → ℕ
  first_piece part =
      if part == parts then pieces_of piece_length (hashed n)
      else min (pieces_of piece_length (hashed n))
      (pieces_of piece_length (start_of total parts part - before))

  -- the part has the file's last piece, or the file is empty and stands where the part has bytes
  abbrev pub has_end : ℕ → Bool
  has_end part =
      if n == 0 then nat_le (start_of total parts part) before
      && ((part + 1 == parts) || nat_lt before (start_of total parts (part + 1)))
      else nat_lt (first_piece part) (first_piece (part + 1))
      && (first_piece (part + 1) == pieces_of piece_length (hashed n))

  -- what this part has of the file
  abbrev pub span_of : ℕ → Span
  span_of part = record {
    from = first_piece part;
    to = first_piece (part + 1);
    ends = has_end part;
  }

-- how many bytes the pieces of a file have
abbrev pub bytes_of : ℕ → ℕ → Span → ℕ
bytes_of piece_length n s = min (s.to * piece_length) (hashed n) - s.from * piece_length

-- where the pieces begin in the file, or the largest number of 64 bits if that is less
abbrev pub offset_of : ℕ → Span → ℕ
offset_of piece_length s = min (s.from * piece_length) (2 ^ 64 - 1)
