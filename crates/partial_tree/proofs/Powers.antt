-- Powers of two, and their logarithm.
use Rattle.std.proofs.Common.{◌≡◌, ℕ, ◌+◌, ◌*◌, ◌/◌, ◌^◌, ◌<◌, ◌≤◌, inl, inr, sym, ap, ◌∙◌, arith}
use Rattle.std.proofs.lemmas.Bool.{cases_lt}
use Rattle.std.proofs.lemmas.Nat.{pow_below, div-mul-add}
use Rattle.wire.specs.declared.message.Ask.{Ask}
use Rattle.partial_tree.specs.Claims.{span, GoodRange}

-- the larger power has the larger exponent
pub exponent_le : (j k : ℕ) → 2 ^ j ≤ 2 ^ k → j ≤ k
exponent_le j k h = elim (cases_lt k j) [
  | inl less ↦ let low : 2 ^ k < 2 ^ j = pow_below k j less in absurd (omega arith)
  | inr le ↦ le
]

-- a quotient by a power that is not passed is 0
pub div_small : (n w : ℕ) → n < w → n / w ≡ 0
div_small n w h = let e : n ≡ 0 * w + n = omega arith in ap (λ k. k / w) e ∙ div-mul-add 0 w n h

-- a good range spans a layer at least
pub spans-some : (h : ℕ) (ask : Ask) → GoodRange h ask → 1 ≤ span ask
spans-some h ask range = elim (cases_lt (span ask) 1) [
  | inl none ↦
      let e : span ask ≡ 0 = omega arith in
      let one : ask.length ≡ 1 = sym range.power_of_two ∙ ap (λ k. 2 ^ k) e in
      absurd (omega (arith, range.least))
  | inr some ↦ some
]
