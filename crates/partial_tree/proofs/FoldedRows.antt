-- Rows under the node over a base range: each of their places is claimed, and what lies under a row
-- lies under the rows below it.
use Rattle.std.proofs.Common.{◌≡◌, ◌≢◌, ℕ, zero, suc, ◌+◌, ◌-◌, ◌*◌, ◌^◌, ◌<◌, ◌≤◌, List, [], Some, None, inl, inr}
use Rattle.std.proofs.Common.{sym, ap, ap₂, ◌∙◌, subst, arith, mul-le-mul, slice_index_or}
use Rattle.std.proofs.lemmas.Bool.{cases_lt}
use Rattle.std.proofs.lemmas.Option.{none-some}
use Rattle.hashtree.proofs.Pairs.{two-pow}
use Rattle.chains.proofs.Cases.{some_or_none}
use Rattle.node_maps.specs.Digest.{Hash, join}
use Rattle.node_maps.specs.Places.{IsKnown}
use Rattle.partial_tree.specs.declared.message.evidence.Evidence.{Evidence}
use Rattle.partial_tree.specs.declared.message.row.HashRow.{HashRow}
use Rattle.partial_tree.specs.Claims.{base_hash, uncle_hash}
use Rattle.partial_tree.specs.Evidence.{IsClaimedPlace, claimed_by, given_by, hashes_of, range_of}
use Rattle.partial_tree.specs.FoldedRows.{AreClaimedIn, IsClaimedRow, place_in_row}
use Rattle.partial_tree.proofs.ClaimValues.{base-read, claims-read, claims-zero, either}
use Rattle.partial_tree.proofs.Given.{uncle-low}
use Rattle.partial_tree.proofs.LowPlaces.{place-low}
use Rattle.partial_tree.proofs.Tracing.{Opened, join_claimed, left_claimed, rests_on, right_claimed}

-- between the base range and the node over it nothing is given
pub not_given : (e : Evidence) (l i : ℕ) → e.base < l → l < e.base + e.span → given_by e l i ≡ None
not_given e l i above below = elim (some_or_none (given_by e l i)) [
  | inr none ↦ none
  | inl (v, is) ↦ elim (either (base_hash (range_of e) (hashes_of e) l i) (uncle_hash (range_of e) (hashes_of e) l i) v is) [
    | inl b ↦ let at : l ≡ e.base = (base-read (range_of e) (hashes_of e) l i v b).0 in absurd (omega (arith, at, above))
    | inr u ↦ absurd (none-some v (sym (uncle-low e l i below) ∙ u.1))
  ]
]

given-below : (e : Evidence) (l i : ℕ) (v : Hash) → l < e.base → given_by e l i ≡ Some v → ⊥
given-below e l i v less is = elim (either (base_hash (range_of e) (hashes_of e) l i) (uncle_hash (range_of e) (hashes_of e) l i) v is) [
  | inl b ↦ let at : l ≡ e.base = (base-read (range_of e) (hashes_of e) l i v b).0 in absurd (omega (arith, at, less))
  | inr u ↦ absurd (none-some v (sym (uncle-low e l i (omega (arith, less))) ∙ u.1))
]

-- nothing is claimed below the base range
pub claims-below : (e : Evidence) (l i : ℕ) (v : Hash) → l < e.base → claimed_by e l i ≡ Some v → ⊥
claims-below e zero i v less is = given-below e zero i v less (sym (claims-zero (range_of e) (hashes_of e) i) ∙ is)
claims-below e (suc l) i v less is = elim (claims-read (range_of e) (hashes_of e) l i v is) [
  | inl g ↦ given-below e (suc l) i v less g
  | inr (none, (a, b, p, q, w)) ↦ claims-below e l (2 * i) a (omega (arith, less)) p
]

-- a claimed place of the base range is given
pub base-given : (e : Evidence) (i : ℕ) → IsKnown (claimed_by e) e.base i → IsKnown (given_by e) e.base i
base-given e i known = elim (some_or_none (given_by e e.base i)) [
  | inl there ↦ there
  | inr none ↦
      let o : Opened e e.base i = rests_on e e.base i known none in
      let some : 1 ≤ e.base = o.above_leaves in
      absurd (claims-below e (e.base - 1) (2 * i) o.left.0 (omega (arith, some)) o.left.1)
]

left_place : (n p q j : ℕ) → q ≡ p + p → 2 * n * p + j ≡ n * q + j
left_place n p q j e = let same : 2 * n * p + j ≡ n * (p + p) + j = omega arith in same ∙ ap (λ k. n * k + j) (sym e)

right_place : (n p q j : ℕ) → q ≡ p + p → p ≤ j → (2 * n + 1) * p + (j - p) ≡ n * q + j
right_place n p q j e from = let same : (2 * n + 1) * p + (j - p) ≡ n * (p + p) + j = omega (arith, from) in same ∙ ap (λ k. n * k + j) (sym e)

-- each place under a claimed node that is not given is claimed, down to the base range
pub row-place : (e : Evidence) (d l n : ℕ) → IsClaimedPlace e (l + d) n → (1 ≤ d → given_by e (l + d) n ≡ None) → e.base ≤ l
    → l + d ≤ e.base + e.span → (j : ℕ) → j < 2 ^ d → IsClaimedPlace e l (n * 2 ^ d + j)
row-place e zero l n at none_at from to j low =
    let here : n ≡ n * 2 ^ 0 + j = omega (arith, low) in
    let same : l + 0 ≡ l = omega arith in
    subst (λ k. IsClaimedPlace e l k) here (subst (λ k. IsClaimedPlace e k n) same at)
row-place e (suc d) l n at none_at from to j low =
    let none : given_by e (l + suc d) n ≡ None = none_at (omega arith) in
    let down : l + suc d - 1 ≡ l + d = omega arith in
    let left = subst (λ k. IsClaimedPlace e k (2 * n)) down (left_claimed e (l + suc d) n at none) in
    let right = subst (λ k. IsClaimedPlace e k (2 * n + 1)) down (right_claimed e (l + suc d) n at none) in
    let still : (m : ℕ) → 1 ≤ d → given_by e (l + d) m ≡ None = λ m some. not_given e (l + d) m (omega (arith, from, some)) (omega (arith, to)) in
    let inside : l + d ≤ e.base + e.span = omega (arith, to) in
    elim (cases_lt j (2 ^ d)) [
      | inl less ↦
          subst (IsClaimedPlace e l) (left_place n (2 ^ d) (2 ^ suc d) j (two-pow d))
          (row-place e d l (2 * n) left (still (2 * n)) from inside j less)
      | inr past ↦
          subst (IsClaimedPlace e l) (right_place n (2 ^ d) (2 ^ suc d) j (two-pow d) past)
          (row-place e d l (2 * n + 1) right (still (2 * n + 1)) from inside (j - 2 ^ d) (omega (arith, low, past, two-pow d)))
    ]

pub claimed-place : (e : Evidence) (row : HashRow) → IsClaimedRow e row → (j : ℕ) → j < 2 ^ row.depth → IsClaimedPlace e row.layer (place_in_row row j)
claimed-place e row is j low =
    row-place e row.depth row.layer row.node is.at (λ some. is.not_given (omega (arith, is.from_base, some))) is.from_base is.to_cover j low

-- above the base range none of a row's places is given
pub row-not_given : (e : Evidence) (row : HashRow) → IsClaimedRow e row → e.base < row.layer → (j : ℕ) → j < 2 ^ row.depth
    → given_by e row.layer (place_in_row row j) ≡ None
row-not_given e row is above j low = elim (cases_lt 0 row.depth) [
  | inl some ↦ not_given e row.layer (place_in_row row j) above (omega (arith, some, is.to_cover))
  | inr none ↦
      let at_node : row.depth ≡ 0 = omega (arith, none) in
      let one : 2 ^ row.depth ≡ 1 = ap (λ k. 2 ^ k) at_node in
      let first : j ≡ 0 = omega (arith, low, one) in
      let plain : row.node ≡ row.node * 1 + 0 = omega arith in
      let here : row.node ≡ row.node * 2 ^ row.depth + j = plain ∙ sym (ap₂ (λ k i. row.node * k + i) one first) in
      let same : row.layer + row.depth ≡ row.layer = omega (arith, at_node) in
      subst (λ i. given_by e row.layer i ≡ None) here (subst (λ l. given_by e l row.node ≡ None) same (is.not_given (omega (arith, above))))
]

-- the places of the base range in a row are given
pub base-row : (e : Evidence) (row : HashRow) → IsClaimedRow e row → row.layer ≡ e.base → (j : ℕ) → j < 2 ^ row.depth
    → IsKnown (given_by e) row.layer (place_in_row row j)
base-row e row is at j low =
    let known = (claimed-place e row is j low).claimed in
    subst (λ l. IsKnown (given_by e) l (place_in_row row j)) (sym at)
    (base-given e (place_in_row row j) (subst (λ l. IsKnown (claimed_by e) l (place_in_row row j)) at known))

pub children-claimed : (e : Evidence) (row : HashRow) → IsClaimedRow e row → e.base < row.layer → row.depth < 3
    → IsClaimedRow e (record { layer = row.layer - 1; depth = row.depth + 1; node = row.node })
children-claimed e row is above few =
    let same : row.layer + row.depth ≡ row.layer - 1 + (row.depth + 1) = omega (arith, above) in
    record {
      at = subst (λ l. IsClaimedPlace e l row.node) same is.at;
      not_given = λ up. subst (λ l. given_by e l row.node ≡ None) same (is.not_given (omega (arith, above)));
      from_base = omega (arith, above);
      to_cover = omega (arith, above, is.to_cover);
      few = omega (arith, few);
    }

-- the row below a half of a row
half-claimed_row : (e : Evidence) (row : HashRow) → IsClaimedRow e row → e.base < row.layer → 1 ≤ row.depth → (node : ℕ)
    → IsClaimedPlace e (row.layer + row.depth - 1) node → IsClaimedRow e (record { layer = row.layer - 1; depth = row.depth; node = node })
half-claimed_row e row is above some node at =
    let same : row.layer + row.depth - 1 ≡ row.layer - 1 + row.depth = omega (arith, above) in
    record {
      at = subst (λ l. IsClaimedPlace e l node) same at;
      not_given = λ up. not_given e (row.layer - 1 + row.depth) node (omega (arith, above, some)) (omega (arith, above, is.to_cover));
      from_base = omega (arith, above);
      to_cover = omega (arith, above, is.to_cover);
      few = is.few;
    }

pub left-claimed_row : (e : Evidence) (row : HashRow) → IsClaimedRow e row → e.base < row.layer → 1 ≤ row.depth
    → IsClaimedRow e (record { layer = row.layer - 1; depth = row.depth; node = 2 * row.node })
left-claimed_row e row is above some = half-claimed_row e row is above some (2 * row.node)
    (left_claimed e (row.layer + row.depth) row.node is.at (is.not_given (omega (arith, above))))

pub right-claimed_row : (e : Evidence) (row : HashRow) → IsClaimedRow e row → e.base < row.layer → 1 ≤ row.depth
    → IsClaimedRow e (record { layer = row.layer - 1; depth = row.depth; node = 2 * row.node + 1 })
right-claimed_row e row is above some = half-claimed_row e row is above some (2 * row.node + 1)
    (right_claimed e (row.layer + row.depth) row.node is.at (is.not_given (omega (arith, above))))

-- ---- the hashes of a row

child_place : (n p q j : ℕ) → q ≡ p + p → n * q + 2 * j ≡ 2 * (n * p + j)
child_place n p q j e = let same : n * (p + p) + 2 * j ≡ 2 * (n * p + j) = omega arith in ap (λ k. n * k + 2 * j) e ∙ same

next_child_place : (n p q j : ℕ) → q ≡ p + p → n * q + (2 * j + 1) ≡ 2 * (n * p + j) + 1
next_child_place n p q j e = let same : n * (p + p) + (2 * j + 1) ≡ 2 * (n * p + j) + 1 = omega arith in ap (λ k. n * k + (2 * j + 1)) e ∙ same

pub joined-row : (e : Evidence) (row : HashRow) (below hashes : List Hash) → IsClaimedRow e row → e.base < row.layer
    → AreClaimedIn (claimed_by e) (record { layer = row.layer - 1; depth = row.depth + 1; node = row.node }) below
    → ((j : ℕ) → j < 2 ^ row.depth → slice_index_or hashes j [] ≡ join (slice_index_or below (2 * j) []) (slice_index_or below (2 * j + 1) []))
    → AreClaimedIn (claimed_by e) row hashes
joined-row e row below hashes is above claimed joins j low =
    let next : row.depth + 1 ≡ suc row.depth = omega arith in
    let twice : 2 ^ (row.depth + 1) ≡ 2 ^ row.depth + 2 ^ row.depth = ap (λ k. 2 ^ k) next ∙ two-pow row.depth in
    join_claimed e row.layer (place_in_row row j) _ _ (omega (arith, above)) (row-not_given e row is above j low)
    (ap (claimed_by e (row.layer - 1)) (sym (child_place row.node (2 ^ row.depth) (2 ^ (row.depth + 1)) j twice)) ∙ claimed (2 * j) (omega (arith, twice, low)))
    (ap (claimed_by e (row.layer - 1)) (sym (next_child_place row.node (2 ^ row.depth) (2 ^ (row.depth + 1)) j twice))
    ∙ claimed (2 * j + 1) (omega (arith, twice, low)))
    ∙ ap Some (sym (joins j low))

left_half : (n p j : ℕ) → 2 * n * p + 2 * j ≡ 2 * (n * p + j)
left_half n p j = omega arith

left_next : (n p j : ℕ) → 2 * n * p + (2 * j + 1) ≡ 2 * (n * p + j) + 1
left_next n p j = omega arith

right_half : (n p j : ℕ) → p ≡ 8 → 4 ≤ j → (2 * n + 1) * p + 2 * (j - 4) ≡ 2 * (n * p + j)
right_half n p j e from = omega (arith, e, from)

right_next : (n p j : ℕ) → p ≡ 8 → 4 ≤ j → (2 * n + 1) * p + (2 * (j - 4) + 1) ≡ 2 * (n * p + j) + 1
right_next n p j e from = omega (arith, e, from)

pub joined-rows : (e : Evidence) (row : HashRow) (left right hashes : List Hash) → IsClaimedRow e row → e.base < row.layer → row.depth ≡ 3
    → AreClaimedIn (claimed_by e) (record { layer = row.layer - 1; depth = row.depth; node = 2 * row.node }) left
    → AreClaimedIn (claimed_by e) (record { layer = row.layer - 1; depth = row.depth; node = 2 * row.node + 1 }) right
    → ((j : ℕ) → j < 4 → slice_index_or hashes j [] ≡ join (slice_index_or left (2 * j) []) (slice_index_or left (2 * j + 1) []))
    → ((j : ℕ) → j < 4 → slice_index_or hashes (4 + j) [] ≡ join (slice_index_or right (2 * j) []) (slice_index_or right (2 * j + 1) []))
    → AreClaimedIn (claimed_by e) row hashes
joined-rows e row left right hashes is above three claimed_left claimed_right joins_left joins_right j low =
    let eight : 2 ^ row.depth ≡ 8 = ap (λ k. 2 ^ k) three in
    let K = claimed_by e (row.layer - 1) in
    let n = row.node in
    let p = 2 ^ row.depth in
    elim (cases_lt j 4) [
      | inl less ↦
          join_claimed e row.layer (place_in_row row j) _ _ (omega (arith, above)) (row-not_given e row is above j low)
          (ap K (sym (left_half n p j)) ∙ claimed_left (2 * j) (omega (arith, eight, less)))
          (ap K (sym (left_next n p j)) ∙ claimed_left (2 * j + 1) (omega (arith, eight, less)))
          ∙ ap Some (sym (joins_left j less))
      | inr past ↦
          let same : 4 + (j - 4) ≡ j = omega (arith, past) in
          join_claimed e row.layer (place_in_row row j) _ _ (omega (arith, above)) (row-not_given e row is above j low)
          (ap K (sym (right_half n p j eight past)) ∙ claimed_right (2 * (j - 4)) (omega (arith, eight, low)))
          (ap K (sym (right_next n p j eight past)) ∙ claimed_right (2 * (j - 4) + 1) (omega (arith, eight, low)))
          ∙ ap Some (sym (ap (λ k. slice_index_or hashes k []) (sym same) ∙ joins_right (j - 4) (omega (arith, eight, low))))
    ]

-- the number of the node over a row is small
pub row-low : (e : Evidence) (row : HashRow) → IsClaimedRow e row → row.node < 2 ^ 32
row-low e row is = place-low 32 (row.layer + row.depth) row.node (omega arith) is.at.place

-- and so is that of its first place
pub first-low : (e : Evidence) (row : HashRow) (n : ℕ) → IsClaimedRow e row → n ≤ 8 → row.node * n ≤ 2 ^ 32 * 8
first-low e row n is few = mul-le-mul {n₂ = 2 ^ 32} (omega (arith, row-low e row is)) few

-- a row that is not of the base range lies above it
pub row-above : (e : Evidence) (row : HashRow) → IsClaimedRow e row → row.layer ≢ e.base → e.base < row.layer
row-above e row is other = omega (arith, is.from_base, other)

-- each place of a row is claimed, by its number as it is computed
pub place-claimed : (e : Evidence) (row : HashRow) (hashes : List Hash) (n j : ℕ) → n ≡ 2 ^ row.depth → j < n → AreClaimedIn (claimed_by e) row hashes
    → claimed_by e row.layer (row.node * n + j) ≡ Some (slice_index_or hashes j [])
place-claimed e row hashes n j all low claimed = ap (λ k. claimed_by e row.layer (row.node * k + j)) all ∙ claimed j (omega (arith, low, all))
