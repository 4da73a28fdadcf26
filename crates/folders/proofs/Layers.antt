-- The piece layer of a tree: how many hashes it has.
use Rattle.std.proofs.Common.{◌≡◌, ℕ, ◌+◌, ◌-◌, ◌*◌, ◌/◌, ◌^◌, ◌<◌, ◌≤◌, List, [], length, get_or, Option, Some, IfSome, ap, sym, ◌∙◌}
use Rattle.std.proofs.Common.{subst, arith}
use Rattle.std.proofs.Math.Nat.{div-eq_of_lt-le, lt-div-mul-add, div-mul-le_self}
use Rattle.std.proofs.lemmas.Nat.{pow_pos}
use Rattle.std.proofs.Common.{pow-add}
use Rattle.std.proofs.lemmas.List.FromFn.{length-map-range_with_len, get_or-map-range_with_len}
use Rattle.hashtree.specs.Tree.{block_count, first_pad, height, layer_count, layer_of, node}
use Rattle.hashtree.proofs.Heights.{height_enough, height_least, height_pow}

-- ---- the hashes of a layer

pub layer_of_at : (file : List ℕ) (layer j : ℕ) → j < length (layer_of file layer) → get_or (layer_of file layer) j [] ≡ node file layer j
layer_of_at file layer j lt =
    get_or-map-range_with_len (node file layer) 0 (layer_count (block_count (length file)) layer) j j []
    (omega (arith, length-map-range_with_len (node file layer) 0 (layer_count (block_count (length file)) layer))) (omega arith)

-- ---- how many hashes a piece layer has

first_pad_at_root : (n : ℕ) → 0 < n → first_pad n (height n) ≡ 1
first_pad_at_root n some =
    let h : ℕ = height n in
    div-eq_of_lt-le {k = 1} (2 ^ h) {m = n + (2 ^ h - 1)}
    (let a : 1 * 2 ^ h ≤ n + (2 ^ h - 1) = omega (arith, pow_pos h) in a)
    (let b : n + (2 ^ h - 1) < (1 + 1) * 2 ^ h = omega (arith, height_enough n, pow_pos h) in b)

pub one_at_root : (len : ℕ) → 0 < len → first_pad (block_count len) (height (block_count len)) ≡ 1
one_at_root len some = first_pad_at_root (block_count len) (let p : 0 < block_count len = omega arith in p)

-- a piece is a power of two of blocks
pub piece_is_blocks : (m k piece_length : ℕ) → k ≡ m + 14 → piece_length ≡ 2 ^ k → (piece_length ≡ 16384 * 2 ^ m) × (height (block_count piece_length) ≡ m)
piece_is_blocks m k piece_length at is =
    let a : piece_length ≡ 2 ^ m * 2 ^ 14 = is ∙ ap (λ e. 2 ^ e) at ∙ pow-add 2 m 14 in
    let b : piece_length ≡ 16384 * 2 ^ m = omega (arith, a) in
    let c : block_count piece_length ≡ 2 ^ m = omega (arith, b) in
    (b, ap height c ∙ height_pow m)

-- rounding up twice is rounding up once
pub round_up_twice : (len q : ℕ) → 0 < q → (len + (16384 * q - 1)) / (16384 * q) ≡ (block_count len + (q - 1)) / q
round_up_twice len q some =
    let c : ℕ = block_count len in
    let k : ℕ = (c + (q - 1)) / q in
    let above : c + (q - 1) < k * q + q = lt-div-mul-add {a = c + (q - 1)} {b = q} some in
    let below : k * q ≤ c + (q - 1) = div-mul-le_self (c + (q - 1)) q in
    let up : len ≤ 16384 * c = omega arith in
    let down : 16384 * c ≤ len + 16383 = omega arith in
    div-eq_of_lt-le {k = k} (16384 * q) {m = len + (16384 * q - 1)}
    (let a : k * (16384 * q) ≤ len + (16384 * q - 1) = omega (arith, below, down, some) in a)
    (let b : len + (16384 * q - 1) < (k + 1) * (16384 * q) = omega (arith, above, up, some) in b)

pub layer_is_low : (piece_length len : ℕ) → piece_length ≤ len → height (block_count piece_length) ≤ height (block_count len)
layer_is_low piece_length len le =
    height_least (block_count piece_length) (height (block_count len)) (omega (arith, height_enough (block_count len)))

pub unwrapped : (o : Option ℕ) (v n : ℕ) → o ≡ Some v → IfSome o (λ s. s ≡ n) → v ≡ n
unwrapped o v n is at = subst (λ x. IfSome x (λ s. s ≡ n)) is at

pub whole_layer : (len piece_length k at count : ℕ) → 14 ≤ k → piece_length ≡ 2 ^ k → at ≡ height (block_count piece_length)
    → count ≡ (len + (piece_length - 1)) / piece_length → count ≡ first_pad (block_count len) at
whole_layer len piece_length k at count low is at_is count_is =
    let m : ℕ = k - 14 in
    let blocks = piece_is_blocks m k piece_length (omega arith) is in
    let same : at ≡ m = at_is ∙ blocks.1 in
    count_is ∙ ap (λ p. (len + (p - 1)) / p) blocks.0 ∙ round_up_twice len (2 ^ m) (pow_pos m) ∙ ap (first_pad (block_count len)) (sym same)
