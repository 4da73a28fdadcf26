-- The layer in which one hash covers a piece.
use Rattle.std.proofs.Common.{◌≡◌, ℕ, ◌+◌, ◌-◌, ◌*◌, ◌/◌, ◌^◌, ◌<◌, ◌≤◌, inl, inr, sym, ap, ◌∙◌, arith, pow_mono}
use Rattle.std.proofs.Math.Nat.{div-div-eq-div-mul}
use Rattle.std.proofs.lemmas.Nat.{pow-add}
use Rattle.std.proofs.lemmas.Bool.{cases_lt}
use Rattle.std.proofs.lemmas.Nat.{pow_below}
use Rattle.hashtree.specs.Tree.{block_count, first_pad}
use Rattle.pieces.specs.Pieces.{pieces_of}

-- a piece of 2 ^ (14 + m) bytes has 2 ^ m blocks
pub piece_is : (p m : ℕ) → p ≡ 2 ^ (14 + m) → p ≡ 16384 * 2 ^ m
piece_is p m e = e ∙ pow-add 2 14 m

blocks_are : (p q : ℕ) → p ≡ 16384 * q → block_count p ≡ q
blocks_are p q e = omega (arith, e)

-- the layer is the exponent
pub layer_is : (p m h : ℕ) → p ≡ 16384 * 2 ^ m → block_count p ≤ 2 ^ h → ((i : ℕ) → block_count p ≤ 2 ^ i → h ≤ i) → h ≡ m
layer_is p m h e enough least =
    let count : block_count p ≡ 2 ^ m = blocks_are p (2 ^ m) e in
    let low : h ≤ m = least m (omega (arith, count)) in
    elim (cases_lt h m) [
      | inl less ↦ let below = pow_below h m less in absurd (omega (arith, below, enough, count))
      | inr high ↦ omega (arith, low, high)
    ]

-- rounding up twice is rounding up once
pub pads_are : (p q n : ℕ) → 0 < q → p ≡ 16384 * q → (block_count n + (q - 1)) / q ≡ pieces_of p n
pads_are p q n some e =
    let moved : (n + 16383 + 16384 * (q - 1)) / 16384 ≡ block_count n + (q - 1) = omega arith in
    let whole : n + 16383 + 16384 * (q - 1) ≡ n + (p - 1) = omega (arith, e, some) in
    ap (λ x. x / q) (sym moved) ∙ div-div-eq-div-mul (n + 16383 + 16384 * (q - 1)) 16384 q ∙ ap (λ x. x / (16384 * q)) whole
    ∙ ap (λ x. (n + (p - 1)) / x) (sym e)

-- a file longer than a piece has the layer
pub layer_within : (p m n h : ℕ) → p ≡ 16384 * 2 ^ m → p < n → block_count n ≤ 2 ^ h → m ≤ h
layer_within p m n h e longer enough =
    elim (cases_lt h m) [
      | inl less ↦ let below = pow_below h m less in absurd (omega (arith, below, enough, e, longer))
      | inr high ↦ high
    ]

pub whole_layer : (p k n piece shape layer len : ℕ) → 14 ≤ k → p ≡ 2 ^ k → piece ≡ p → shape ≡ n → block_count piece ≤ 2 ^ layer
    → ((i : ℕ) → block_count piece ≤ 2 ^ i → layer ≤ i) → len ≡ pieces_of p n → len ≡ first_pad (block_count shape) layer
whole_layer p k n piece shape layer len from is same_piece same_shape enough least e =
    let m = k - 14 in
    let all : k ≡ 14 + (k - 14) = omega arith in
    let power : p ≡ 16384 * 2 ^ m = piece_is p m (is ∙ ap (λ x. 2 ^ x) all) in
    let exponent : layer ≡ m = layer_is piece m layer (same_piece ∙ power) enough least in
    let some : 0 < 2 ^ m = pow_mono {i = 0} {j = m} (omega arith) in
    e ∙ sym (pads_are p (2 ^ m) n some power) ∙ ap (λ x. first_pad (block_count x) m) (sym same_shape)
    ∙ ap (λ x. first_pad (block_count shape) x) (sym exponent)
