use Rattle.std.proofs.Common.{◌≤◌, ℕ, inl, refl, arith}
use Rattle.std.proofs.lemmas.Bool.Decides.{nat_tests}
use Rattle.std.specs.Prelude.{IsTrue, nat_le}
use Rattle.wire.specs.Meaning.{IsRightSize, max_body, min_piece, piece_id}
use Rattle.wire.proofs.kind.Kind.takes.Goals as goal

its_size : (len : ℕ) → min_piece ≤ len → (IsTrue (nat_le len max_body) → IsRightSize piece_id len) × (IsRightSize piece_id len → IsTrue (nat_le len max_body))
its_size len long = (λ small. inl (refl, (long, grind (arith, nat_tests))), λ right. grind (arith, nat_tests))

pub returns-then-len-ge-MIN_PIECE : goal.returns-then-len-ge-MIN_PIECE
returns-then-len-ge-MIN_PIECE c = rw c.in-Piece.is (its_size c.args.len c.if-len-ge-MIN_PIECE.true)
