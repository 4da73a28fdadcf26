-- The row of a layer in which all claims of evidence lie.
use Rattle.std.proofs.Common.{◌≡◌, ◌⊎◌, ℕ, zero, suc, ◌+◌, ◌-◌, ◌*◌, ◌/◌, ◌%◌, ◌^◌, ◌<◌, ◌≤◌, Some, inl, inr, sym, ap, ap₂, ◌∙◌, subst, arith, shr-shr, pow_pos}
use Rattle.std.proofs.Common.{pow-add, div-one, div-add-mod', mul-le-mul_right}
use Rattle.std.proofs.lemmas.Bool.{cases_lt}
use Rattle.std.proofs.lemmas.Nat.{div-mul-add, mod_below}
use Rattle.partial_tree.specs.declared.message.evidence.Evidence.{Evidence}
use Rattle.node_maps.specs.Digest.{Hash}
use Rattle.node_maps.specs.Places.{IsTreePlace, IsKnown}
use Rattle.partial_tree.specs.Claims.{base_hash, uncle_hash}
use Rattle.partial_tree.specs.Evidence.{range_of, hashes_of, given_by, claimed_by, row_height, row_first, node_over_base, IsOver}
use Rattle.partial_tree.proofs.Given.{cover_is}
use Rattle.partial_tree.proofs.ClaimValues.{either, base-read, uncle-read, claims-read, claims-zero, sibling-half}

-- the place and the node over the base range lie under one node
record IsInRow (e : Evidence) (l i : ℕ) : Type 0 where
  from_base : e.base ≤ l
  under_one : i / 2 ^ row_height e l ≡ node_over_base e l / 2 ^ row_height e l

module _ (e : Evidence) (aligned : e.index % 2 ^ e.span ≡ 0) where
  -- what lies in the base range lies under the node that covers it
  in_range-under : (i : ℕ) → e.index ≤ i → i < e.index + 2 ^ e.span → i / 2 ^ e.span ≡ e.index / 2 ^ e.span
  in_range-under i low high =
      let whole : e.index / 2 ^ e.span * 2 ^ e.span ≡ e.index = omega (arith, div-add-mod' e.index (2 ^ e.span)) in
      let here : i ≡ e.index / 2 ^ e.span * 2 ^ e.span + (i - e.index) = omega arith in
      ap (λ k. k / 2 ^ e.span) here ∙ div-mul-add (e.index / 2 ^ e.span) (2 ^ e.span) (i - e.index) (omega arith)

  base-in_row : (l i : ℕ) (v : Hash) → base_hash (range_of e) (hashes_of e) l i ≡ Some v → IsInRow e l i
  base-in_row l i v is =
      let (at, low, high, got) = base-read (range_of e) (hashes_of e) l i v is in
      record {
        from_base = omega (arith, at);
        under_one = subst (λ k. i / 2 ^ row_height e k ≡ node_over_base e k / 2 ^ row_height e k) (sym at)
            (on_base low high (cases_lt 0 e.span));
      }
    where
      on_base : e.index ≤ i → i < e.index + 2 ^ e.span → (0 < e.span) ⊎ (e.span ≤ 0)
          → i / 2 ^ row_height e e.base ≡ node_over_base e e.base / 2 ^ row_height e e.base
      on_base low high (inl some) =
          let height : row_height e e.base ≡ e.span = omega arith in
          let none : e.base - e.base ≡ 0 = omega arith in
          let node : node_over_base e e.base ≡ e.index = ap (λ k. e.index / 2 ^ k) none ∙ div-one e.index in
          ap (λ k. i / 2 ^ k) height ∙ in_range-under i low high ∙ ap₂ (λ n k. n / 2 ^ k) (sym node) (sym height)
      on_base low high (inr one) =
          let width : 2 ^ e.span ≡ 1 = (let zero_span : e.span ≡ 0 = omega arith in ap (λ k. 2 ^ k) zero_span) in
          let same : i ≡ e.index = omega arith in
          let none : e.base - e.base ≡ 0 = omega arith in
          ap (λ n. n / 2 ^ row_height e e.base) (same ∙ sym (ap (λ k. e.index / 2 ^ k) none ∙ div-one e.index))

  uncle-in_row : (l i : ℕ) (v : Hash) → uncle_hash (range_of e) (hashes_of e) l i ≡ Some v → IsInRow e l i
  uncle-in_row l i v is =
      let (from, at, got) = uncle-read (range_of e) (hashes_of e) l i v is in
      let high : e.base + e.span ≤ l = omega (arith, cover_is e) in
      let one : row_height e l ≡ 1 = omega arith in
      record {
        from_base = omega arith;
        under_one = ap (λ k. i / 2 ^ k) one ∙ ap (λ n. n / 2) at ∙ sibling-half (node_over_base e l) ∙ ap (λ k. node_over_base e l / 2 ^ k) (sym one);
      }

  given-in_row : (l i : ℕ) (v : Hash) → given_by e l i ≡ Some v → IsInRow e l i
  given-in_row l i v is = elim (either (base_hash (range_of e) (hashes_of e) l i) (uncle_hash (range_of e) (hashes_of e) l i) v is) [
    | inl b ↦ base-in_row l i v b
    | inr u ↦ uncle-in_row l i v u.1
  ]

  -- one layer up
  pub node-up : (l : ℕ) → e.base ≤ l → node_over_base e l / 2 ≡ node_over_base e (suc l)
  node-up l from = let k : suc l - e.base ≡ (l - e.base) + 1 = omega arith in shr-shr e.index (l - e.base) 1 ∙ sym (ap (λ j. e.index / 2 ^ j) k)

  parent-in_row : (l i : ℕ) → IsInRow e l (2 * i) → IsInRow e (suc l) i
  parent-in_row l i row = record { from_base = omega (arith, row.from_base); under_one = by_cover (cases_lt (suc l) (e.base + e.span)) }
    where
      half : 2 * i / 2 ≡ i
      half = omega arith

      by_cover : (suc l < e.base + e.span) ⊎ (e.base + e.span ≤ suc l) → i / 2 ^ row_height e (suc l) ≡ node_over_base e (suc l) / 2 ^ row_height e (suc l)
      by_cover (inl below) =
          let k : row_height e l ≡ 1 + row_height e (suc l) = omega arith in
          ap (λ n. n / 2 ^ row_height e (suc l)) (sym half) ∙ shr-shr (2 * i) 1 (row_height e (suc l)) ∙ sym (ap (λ j. 2 * i / 2 ^ j) k)
          ∙ row.under_one
          ∙ ap (λ j. node_over_base e l / 2 ^ j) k ∙ sym (shr-shr (node_over_base e l) 1 (row_height e (suc l)))
          ∙ ap (λ n. n / 2 ^ row_height e (suc l)) (node-up l row.from_base)
      by_cover (inr high) =
          let one : row_height e l ≡ 1 = omega arith in
          ap (λ n. n / 2 ^ row_height e (suc l))
          (sym half ∙ sym (ap (λ j. 2 * i / 2 ^ j) one) ∙ row.under_one ∙ ap (λ j. node_over_base e l / 2 ^ j) one ∙ node-up l row.from_base)

  claimed-in_row : (l i : ℕ) (v : Hash) → claimed_by e l i ≡ Some v → IsInRow e l i
  claimed-in_row zero i v is = given-in_row zero i v (sym (claims-zero (range_of e) (hashes_of e) i) ∙ is)
  claimed-in_row (suc l) i v is = elim (claims-read (range_of e) (hashes_of e) l i v is) [
    | inl g ↦ given-in_row (suc l) i v g
    | inr (n, (a, b, p, q, w)) ↦ parent-in_row l i (claimed-in_row l (2 * i) a p)
  ]

  -- a claim stands on a layer from the base up, in the layer's row
  pub claim-in_row : (l i : ℕ) → IsKnown (claimed_by e) l i → (e.base ≤ l) × (row_first e l ≤ i) × (i < row_first e l + 2 ^ row_height e l)
  claim-in_row l i (v, is) =
      let row = claimed-in_row l i v is in
      let whole : i / 2 ^ row_height e l * 2 ^ row_height e l + i % 2 ^ row_height e l ≡ i = div-add-mod' i (2 ^ row_height e l) in
      let rest : i % 2 ^ row_height e l < 2 ^ row_height e l = mod_below i (2 ^ row_height e l) (pow_pos (row_height e l)) in
      let same : i / 2 ^ row_height e l * 2 ^ row_height e l ≡ row_first e l = ap (λ k. k * 2 ^ row_height e l) row.under_one in
      (row.from_base, omega arith, omega arith)

-- the row of a layer below a place over the base range lies in the tree
pub row-inside : (h : ℕ) (e : Evidence) (layer index l : ℕ) → IsOver e layer index → IsTreePlace h layer index → e.base ≤ l → l < layer
    → row_first e l + 2 ^ row_height e l ≤ 2 ^ (h - l)
row-inside h e layer index l at place from below =
    let w : ℕ = row_height e l in
    let fits : l + w ≤ layer = omega (arith, at.covers) in
    let up : layer - e.base ≡ (l - e.base) + (w + (layer - (l + w))) = omega arith in
    let node : ℕ = node_over_base e l / 2 ^ w in
    let under : node / 2 ^ (layer - (l + w)) ≡ index =
    shr-shr (node_over_base e l) w (layer - (l + w)) ∙ shr-shr e.index (l - e.base) (w + (layer - (l + w))) ∙ sym (ap (λ k. e.index / 2 ^ k) up) ∙ at.over in
    let low : node < 2 ^ (h - (l + w)) = below_power node index (layer - (l + w)) (h - layer) (h - (l + w)) (omega (arith, place.0)) under place.1 in
    let parts : 2 ^ (h - l) ≡ 2 ^ (h - (l + w)) * 2 ^ w = (let k : h - l ≡ (h - (l + w)) + w = omega (arith, place.0) in ap (λ n. 2 ^ n) k
    ∙ pow-add 2 (h - (l + w)) w) in
    let next : node + 1 ≤ 2 ^ (h - (l + w)) = omega arith in
    let rows : (node + 1) * 2 ^ w ≤ 2 ^ (h - (l + w)) * 2 ^ w = mul-le-mul_right (2 ^ w) next in
    omega arith
  where
    below_power : (n m j k t : ℕ) → t ≡ k + j → n / 2 ^ j ≡ m → m < 2 ^ k → n < 2 ^ t
    below_power n m j k t sum under low =
        let whole : n / 2 ^ j * 2 ^ j + n % 2 ^ j ≡ n = div-add-mod' n (2 ^ j) in
        let rest : n % 2 ^ j < 2 ^ j = mod_below n (2 ^ j) (pow_pos j) in
        let parts : 2 ^ t ≡ 2 ^ k * 2 ^ j = ap (λ n. 2 ^ n) sum ∙ pow-add 2 k j in
        let same : n / 2 ^ j * 2 ^ j ≡ m * 2 ^ j = ap (λ x. x * 2 ^ j) under in
        let up : m + 1 ≤ 2 ^ k = omega arith in
        let rows : (m + 1) * 2 ^ j ≤ 2 ^ k * 2 ^ j = mul-le-mul_right (2 ^ j) up in
        omega arith
