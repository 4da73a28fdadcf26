-- The places of a torrent, shared out among parts by bytes. The files' bytes are counted one file
-- after the other, in the torrent's order.
use Rattle.std.specs.Prelude.{ℕ, ◌+◌, ◌-◌, ◌*◌, ◌/◌, List, [], ◌∷◌, nat_lt, nat_eq, if◌then◌else◌, sum_by}
use Rattle.opening.specs.Description.{Description, FileEntry}
use Rattle.parts.specs.Parts.{place_count}
use Rattle.parts.specs.declared.places.Places.{Places}

-- how many bytes the files have
abbrev pub all_bytes : Description → ℕ
all_bytes t = sum_by (λ (f : FileEntry). f.length) t.files

-- the piece that has this byte of the files, or the given place if they have fewer bytes
abbrev pub piece_at_byte : ℕ → ℕ → List FileEntry → ℕ → ℕ
piece_at_byte piece_length past [] byte = past
piece_at_byte piece_length past (f ∷ fs) byte =
    (if nat_lt byte f.length then f.first_piece + byte / piece_length
    else piece_at_byte piece_length past fs (byte - f.length))

-- the first place of the part with this number, from 0 on, of this many: the piece that has the
-- first of its bytes. Each part has as many bytes, but for what whole pieces and the last part add.
-- The one after the last would begin after all places.
abbrev pub start : Description → ℕ → ℕ → ℕ
start t part parts =
    (if nat_eq part 0 then 0
    else if nat_eq part parts then place_count t
    else piece_at_byte t.piece_length (place_count t) t.files (all_bytes t / parts * part))

-- the places of a part: up to where the next one begins
abbrev pub share : Description → ℕ → ℕ → Places
share t part parts = record { from = start t part parts; to = start t (part + 1) parts }
