-- Where the pieces of a torrent lie in its files (BEP 52: each file begins with its own piece).
use Rattle.std.specs.Prelude.{◌≡◌, ℕ, ◌+◌, ◌-◌, ◌*◌, ◌/◌, ◌%◌, ◌<◌, ◌≤◌, min, slice_get, Some}
use Rattle.opening.specs.Description.{Description, FileEntry}
use Rattle.pieces.specs.Pieces.{pieces_of}
use Rattle.c_layouts.specs.declared.piece_info.PieceInfo.{PieceInfo}
use Rattle.c_layouts.specs.declared.range_info.RangeInfo.{RangeInfo}

-- ---- a piece

-- the piece is one of this file's
pub record IsPieceOf (d : Description) (f : FileEntry) (piece : ℕ) : Type 0 where
  pub from : f.first_piece ≤ piece
  pub to : piece < f.first_piece + pieces_of d.piece_length f.length

-- a piece with its place in its file, laid out for C; a file's last piece may be shorter
pub record IsPieceInfo (d : Description) (piece : ℕ) (out : PieceInfo) : Type 0 where
  pub file : FileEntry
  pub file_is : slice_get d.files out.file ≡ Some file
  pub in_file : IsPieceOf d file piece
  pub offset_is : out.offset ≡ (piece - file.first_piece) * d.piece_length
  pub block_is : out.offset ≡ 16384 * out.block
  pub length_is : out.length ≡ min d.piece_length (file.length - out.offset)

-- ---- a file

-- the first piece of file n, and how many pieces it has
abbrev pub HasFilePieces : Description → ℕ → ℕ → ℕ → Type 0
HasFilePieces d n first count = (f : FileEntry) × (slice_get d.files n ≡ Some f)
    × (first ≡ f.first_piece) × (count ≡ pieces_of d.piece_length f.length)

-- file n has a byte at this offset
abbrev pub HasByte : Description → ℕ → ℕ → Type 0
HasByte d n offset = (f : FileEntry) × (slice_get d.files n ≡ Some f) × (offset < f.length)

-- the bytes of file n from an offset on, as many as are wanted and there: the piece and the byte in
-- it at which they begin, laid out for C
pub record IsRangeInfo (d : Description) (n offset wanted : ℕ) (out : RangeInfo) : Type 0 where
  pub file : FileEntry
  pub file_is : slice_get d.files n ≡ Some file
  pub there : offset < file.length
  pub piece_is : out.piece ≡ file.first_piece + offset / d.piece_length
  pub begin_is : out.begin ≡ offset % d.piece_length
  pub length_is : out.length ≡ min wanted (file.length - offset)
