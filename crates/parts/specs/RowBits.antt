-- Which pieces of a file are good, as the bits of a row of them tell it.
use Rattle.std.specs.Prelude.{◌≡◌, ◌↔◌, ℕ, ◌+◌, ◌*◌, ◌<◌, ◌≤◌, min, List, length, take}
use Rattle.hashtree.specs.Bits.{bit_of}
use Rattle.opening.specs.Description.{Description, FileEntry}
use Rattle.parts.specs.Parts.{IsPieceGood}

-- these bytes have the whole piece, as far as the file's stated length goes, and it is good; what
-- lies after that length is no piece
pub record HasGoodPiece (t : Description) (f : FileEntry) (bytes : List ℕ) (k : ℕ) : Type 0 where
  pub whole : min (t.piece_length * (k + 1)) f.length ≤ length bytes
  pub good : IsPieceGood t f (take f.length bytes) k

-- a bit is set exactly if it is that of one of these pieces, from one number up to another, which
-- these bytes have whole and good
abbrev pub AreBitsOf : Description → FileEntry → ℕ → ℕ → List ℕ → List ℕ → Type 0
AreBitsOf t f from to bytes bits = (j : ℕ) → j < 8 * length bits
    → (bit_of bits j ≡ 1) ↔ ((from + j < to) × HasGoodPiece t f bytes (from + j))
