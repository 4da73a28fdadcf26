use Rattle.std.proofs.Common.{◌≡◌, ℕ, ◌<◌, ◌↔◌}
use Rattle.hashtree.specs.Bits.{bit_of}
use Rattle.c_layouts.specs.Marks.{IsWholePiece}
use Rattle.c_layouts.proofs.bitfield.write_bits.Given as goal

-- the bits of the pieces so far
abbrev pub invariant-pieces : goal.invariant-pieces
invariant-pieces l = (k : ℕ) → (bit_of l.bits k ≡ 1) ↔ ((k < l.piece) × IsWholePiece l.session k)
