-- The place of a block (BEP 52, "piece length" and the piece message of BEP 3): files begin at
-- piece boundaries of one address space.
use Rattle.std.specs.Prelude.{◌≡◌, ℕ, suc, ◌+◌, ◌-◌, ◌*◌, ◌/◌, ◌%◌, ◌^◌, ◌<◌, Bool, ◌==◌, ◌&&◌, nat_le, nat_lt, if◌then◌else◌, List, [], ◌∷◌, take, sum_by}
use Rattle.std.specs.Prelude.{Option, Some, None, slice_get}
use Rattle.hashtree.specs.Tree.{block_count}
use Rattle.opening.specs.Description.{Description, FileEntry}
use Rattle.pieces.specs.Pieces.{pieces_of}

-- block b of the file with this number stands at index and begin; only the address counts, so begin
-- may pass the piece length
pub record IsBlockPlace (t : Description) (index begin file b : ℕ) : Type 0 where
  pub entry : FileEntry
  pub there : slice_get t.files file ≡ Some entry
  pub in_file : b < block_count entry.length
  pub address : index * t.piece_length + begin ≡ entry.first_piece * t.piece_length + 16384 * b

-- a block of the file begins at the address
abbrev pub begins_in : ℕ → ℕ → FileEntry → Bool
begins_in piece_length address f =
    nat_le (f.first_piece * piece_length) address
    && (((address - f.first_piece * piece_length) % 16384) == 0)
    && nat_lt ((address - f.first_piece * piece_length) / 16384) (block_count f.length)

abbrev pub place_from : ℕ → ℕ → ℕ → List FileEntry → Option (ℕ × ℕ)
place_from piece_length address k [] = None
place_from piece_length address k (f ∷ fs) =
    if begins_in piece_length address f
    then Some (k, (address - f.first_piece * piece_length) / 16384)
    else place_from piece_length address (suc k) fs

-- the one file and block at index and begin, computed; by the law `PlaceIsBlockPlace` it is exactly
-- the one of `IsBlockPlace`
abbrev pub place_of : Description → ℕ → ℕ → Option (ℕ × ℕ)
place_of t index begin = place_from t.piece_length (index * t.piece_length + begin) 0 t.files

-- what places stand on: files are laid out one after the other, each at a piece boundary
pub record AreLaidOut (piece_length : ℕ) (files : List FileEntry) : Type 0 where
  pub first_pieces : (k : ℕ) (f : FileEntry) → slice_get files k ≡ Some f
      → f.first_piece ≡ sum_by (λ g. pieces_of piece_length g.length) (take k files)
  pub pieces : sum_by (λ g. pieces_of piece_length g.length) files < 2 ^ 32
