-- Piece lengths, of whole blocks of SHA-1.
use Rattle.std.proofs.Common.{◌≡◌, ◌∙◌, ℕ, ◌+◌, ◌-◌, ◌*◌, ◌%◌, ◌^◌, ap, arith, pow-add}
use Rattle.pieces.specs.Pieces.{IsPieceLength}

-- a piece has whole blocks
pub whole_blocks : (p : ℕ) → IsPieceLength p → p % 64 ≡ 0
whole_blocks p legal =
    let at : legal.0 ≡ legal.0 - 6 + 6 = omega (arith, legal.1) in
    let is : p ≡ 2 ^ (legal.0 - 6) * 2 ^ 6 = legal.3 ∙ ap (λ e. 2 ^ e) at ∙ pow-add 2 (legal.0 - 6) 6 in
    omega (arith, is)
