-- Base ranges and counts, from the numbers that a body tests.
use Rattle.std.proofs.Common.{◌≡◌, ◌≢◌, ℕ, ◌+◌, ◌-◌, ◌*◌, ◌/◌, ◌%◌, ◌^◌, ◌<◌, ◌≤◌, List, length, sym, ap, ◌∙◌, arith, pow-add, pow_pos, div-add-mod'}
use Rattle.std.proofs.Common.{div-le_self}
use Rattle.std.proofs.lemmas.Nat.{mul-le}
use Rattle.std.proofs.Math.Nat.{pow-le-pow_right}
use Rattle.wire.specs.declared.message.Ask.{Ask}
use Rattle.hashtree.specs.Tree.{height}
use Rattle.hashtree.proofs.Heights.{height_pow}
use Rattle.node_maps.specs.Digest.{Hash}
use Rattle.partial_tree.specs.Claims.{span, sibling, top_layer, GoodRange}
use Rattle.partial_tree.proofs.Powers.{exponent_le, spans-some}

pub pow_more : (j k : ℕ) → j ≤ k → 2 ^ j ≤ 2 ^ k
pow_more j k le = pow-le-pow_right (omega arith) le

pub span_at : (ask : Ask) (k : ℕ) → 2 ^ k ≡ ask.length → span ask ≡ k
span_at ask k e = sym (ap height e) ∙ height_pow k

pub no_range : (h : ℕ) (ask : Ask) → ((k : ℕ) → 1 ≤ k → k ≤ 13 → 2 ^ k ≢ ask.length) → ¬ GoodRange h ask
no_range h ask none g =
    let bound : 2 ^ span ask ≤ 2 ^ 13 = omega (arith, g.power_of_two, g.most) in
    none (span ask) (spans-some h ask g) (exponent_le (span ask) 13 bound) g.power_of_two

pub good_range : (h : ℕ) (ask : Ask) (k : ℕ) → 2 ^ k ≡ ask.length → 1 ≤ k → k ≤ 13 → ask.index % ask.length ≡ 0 → ask.base ≤ h
    → ask.index + ask.length ≤ 2 ^ (h - ask.base) → GoodRange h ask
good_range h ask k e some most aligned base inside = record {
  power_of_two = ap (λ n. 2 ^ n) (span_at ask k e) ∙ e;
  least = let low : 2 ^ 1 ≤ 2 ^ k = pow_more 1 k some in omega arith;
  most = let high : 2 ^ k ≤ 2 ^ 13 = pow_more k 13 most in omega arith;
  aligned = aligned;
  base_inside = base;
  range_inside = inside;
}

pub top_at : (ask : Ask) (hashes : List Hash) (k : ℕ) → 2 ^ k ≡ ask.length → top_layer ask hashes ≡ ask.base + k + (length hashes - ask.length)
top_at ask hashes k e = ap (λ n. ask.base + n + (length hashes - ask.length)) (span_at ask k e)

-- ---- a node above another, and its width

pub above-small : (node cover j : ℕ) → node * 2 ^ cover < 2 ^ 32 → node / 2 ^ j < 2 ^ 32
above-small node cover j h =
    let less : node / 2 ^ j ≤ node = div-le_self node (2 ^ j) in
    let some : 0 < 2 ^ cover = pow_pos cover in
    let wide : node * 1 ≤ node * 2 ^ cover = mul-le node 1 node (2 ^ cover) (omega arith) (omega arith) in
    omega arith

pub sibling-wide : (node cover j : ℕ) → node * 2 ^ cover < 2 ^ 32 → cover + j ≤ 32 → sibling (node / 2 ^ j) * 2 ^ (cover + j) < 2 ^ 64
sibling-wide node cover j h le =
    let q : ℕ = node / 2 ^ j in
    let low : q < 2 ^ 32 = above-small node cover j h in
    let most : sibling q ≤ q + 1 = omega arith in
    let high : 2 ^ (cover + j) ≤ 2 ^ 32 = pow_more (cover + j) 32 le in
    let floor : q * 2 ^ j ≤ node = omega (arith, div-add-mod' node (2 ^ j)) in
    let whole : q * 2 ^ j * 2 ^ cover ≤ node * 2 ^ cover = mul-le (q * 2 ^ j) (2 ^ cover) node (2 ^ cover) floor (omega arith) in
    let split : 2 ^ (cover + j) ≡ 2 ^ cover * 2 ^ j = pow-add 2 cover j in
    let same : q * 2 ^ (cover + j) ≡ q * 2 ^ j * 2 ^ cover = ap (λ n. q * n) split ∙ omega arith in
    let step : sibling q * 2 ^ (cover + j) ≤ (q + 1) * 2 ^ (cover + j) = mul-le (sibling q) (2 ^ (cover + j)) (q + 1) (2 ^ (cover + j)) most (omega arith) in
    omega arith
