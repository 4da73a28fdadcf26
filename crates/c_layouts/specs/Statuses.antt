-- The numbers that calls answer.
use Rattle.std.specs.Prelude.{◌≡◌, ℕ, ◌+◌, Bool, true, false, Result, Ok, Err}
use Rattle.partial_tree.specs.Names.{hash_refusal_number, block_refusal_number}
use Rattle.partial_tree.specs.declared.refusal.HashRefusal.{HashRefusal}
use Rattle.partial_tree.specs.declared.refusal.BlockRefusal.{BlockRefusal}
use Rattle.partial_tree.specs.declared.refusal.PieceRefusal.{PieceRefusal}
use Rattle.partial_tree.specs.declared.refusal.PieceRefusal.TheVariants as piece

-- 0 and how many places are newly known, or the number of the refusal
abbrev pub HasHashesStatus : Result ℕ HashRefusal → ℕ → ℕ → Type 0
HasHashesStatus (Ok c) status places = (status ≡ 0) × (places ≡ c)
HasHashesStatus (Err r) status places = status ≡ 200 + hash_refusal_number r

-- 0 with the file and its block, or the number of the refusal
abbrev pub HasBlockStatus : Result (ℕ × ℕ) BlockRefusal → ℕ → ℕ → ℕ → Type 0
HasBlockStatus (Ok p) status file block = (status ≡ 0) × ((file ≡ p.0) × (block ≡ p.1))
HasBlockStatus (Err r) status file block = status ≡ 300 + block_refusal_number r

-- the number of the refusal of a whole piece: that of a block for the same reason, or that memory
-- was refused
abbrev pub piece_status : PieceRefusal → ℕ
piece_status piece.BadPlace = 301
piece_status piece.BadSize = 302
piece_status piece.Unproved = 303
piece_status piece.NoMemory = 2
piece_status piece.BadPiece = 304

-- 0 with the file and its first block of the piece, or the number of the refusal
abbrev pub HasPieceStatus : Result (ℕ × ℕ) PieceRefusal → ℕ → ℕ → ℕ → Type 0
HasPieceStatus (Ok p) status file block = (status ≡ 0) × ((file ≡ p.0) × (block ≡ p.1))
HasPieceStatus (Err r) status file block = status ≡ piece_status r

-- 0 if it is so, and 6 if it is not
abbrev pub IsAnswer : Bool → ℕ → Type 0
IsAnswer true status = status ≡ 0
IsAnswer false status = status ≡ 6
