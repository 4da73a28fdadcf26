-- What a torrent has as a whole.
use Rattle.std.specs.Prelude.{ℕ, sum_by}
use Rattle.opening.specs.Description.{Description, FileEntry}
use Rattle.pieces.specs.Pieces.{pieces_of}

-- how many pieces its files have together: each begins with a piece of its own (BEP 52)
abbrev pub torrent_piece_count : Description → ℕ
torrent_piece_count d = sum_by (λ (f : FileEntry). pieces_of d.piece_length f.length) d.files
