-- Rows whose claims are visited: the row of all children, two rows, and place by place.
use Rattle.std.proofs.Common.{◌≡◌, ◌⊎◌, ℕ, suc, ◌+◌, ◌-◌, ◌*◌, ◌/◌, ◌%◌, ◌^◌, ◌<◌, ◌≤◌, Some, inl, inr, sym, ap, ◌∙◌, subst, arith}
use Rattle.std.proofs.Common.{eq-or-lt_of_le, div-add-mod', pow_pos, pow_mono}
use Rattle.std.proofs.lemmas.Bool.{cases_lt}
use Rattle.std.proofs.lemmas.Nat.{mod_below}
use Rattle.hashtree.proofs.Pairs.{two-pow}
use Rattle.node_maps.specs.Digest.{Hash}
use Rattle.partial_tree.specs.declared.message.evidence.Evidence.{Evidence}
use Rattle.partial_tree.specs.declared.message.found.Claim.{Claim}
use Rattle.partial_tree.specs.declared.message.row.HashRow.{HashRow}
use Rattle.partial_tree.specs.Evidence.{LiesUnder, claimed_by}
use Rattle.partial_tree.specs.FoldedRows.{place_in_row}
use Rattle.partial_tree.specs.Visits.{LiesBelowRow, LiesUnderRow, Visits, VisitsBelowRow, VisitsRow, places_below, places_under}
use Rattle.partial_tree.proofs.FoldedRows.{claims-below}
use Rattle.partial_tree.proofs.Tracing.{under_child}
use Rattle.partial_tree.proofs.Visits.{visits-both, visits-none, visits-one, visits-weaker}

-- (l, i) lies below the row, or is one of its first n places
abbrev pub IsBegun : HashRow → ℕ → ℕ → ℕ → Type 0
IsBegun r n l i = LiesBelowRow r l i ⊎ ((l ≡ r.layer) × ((k : ℕ) × (k < n) × (i ≡ place_in_row r k)))

module _ {V : Type 0} (Visit : V → Claim → V → Type 0) (e : Evidence) (r : HashRow) where
  -- nothing is claimed below the base range
  pub base-visited : (v : V) → r.layer ≡ e.base → VisitsBelowRow Visit (claimed_by e) r v v
  base-visited v at = visits-none Visit (claimed_by e) (LiesBelowRow r) (places_below r) v (λ l i h there is.
      let low : l < r.layer = there.1 in claims-below e l i h (omega (arith, low, at)) is)

  -- the row of all children
  pub children-visited : (v w : V) → 1 ≤ r.layer
      → VisitsRow Visit (claimed_by e) (record { layer = r.layer - 1; depth = r.depth + 1; node = r.node }) v w
      → VisitsBelowRow Visit (claimed_by e) r v w
  children-visited v w some below =
      let same : r.layer + r.depth ≡ r.layer - 1 + (r.depth + 1) = omega (arith, some) in
      let top : 2 ^ suc (r.layer - 1 + (r.depth + 1)) ≡ 2 ^ suc (r.layer + r.depth) = ap (λ k. 2 ^ suc k) (sym same) in
      let next : 2 ^ (r.depth + 1) ≡ 2 ^ suc r.depth = (let one : r.depth + 1 ≡ suc r.depth = omega arith in ap (λ k. 2 ^ k) one) in
      visits-weaker Visit (claimed_by e) _ (LiesBelowRow r) _ (places_below r) v w below
      (λ l i h is there. let low : l < r.layer = there.1 in (subst (λ k. LiesUnder k r.node l i) same there.0, omega (arith, low)))
      (omega (arith, top, next))

  -- the row of the left children and that of the right ones, one after the other
  pub halves-visited : (v u w : V) → 1 ≤ r.layer
      → VisitsRow Visit (claimed_by e) (record { layer = r.layer - 1; depth = r.depth; node = 2 * r.node }) v u
      → VisitsRow Visit (claimed_by e) (record { layer = r.layer - 1; depth = r.depth; node = 2 * r.node + 1 }) u w
      → VisitsBelowRow Visit (claimed_by e) r v w
  halves-visited v u w some left right =
      let same : r.layer + r.depth - 1 ≡ r.layer - 1 + r.depth = omega (arith, some) in
      let half : 2 ^ suc (r.layer - 1 + r.depth) ≡ 2 ^ (r.layer + r.depth) =
      (let k : suc (r.layer - 1 + r.depth) ≡ r.layer + r.depth = omega (arith, some) in ap (λ k. 2 ^ k) k) in
      visits-both Visit (claimed_by e) _ _ (LiesBelowRow r) _ _ (places_below r) v u w left right
      (λ l i h is there.
      let low : l < r.layer = there.1 in
      elim (under_child (r.layer + r.depth) r.node l i there.0 (omega (arith, low))) [
        | inl under ↦ inl (subst (λ k. LiesUnder k (2 * r.node) l i) same under, omega (arith, low))
        | inr under ↦ inr (subst (λ k. LiesUnder k (2 * r.node + 1) l i) same under, omega (arith, low))
      ])
      (omega (arith, half, two-pow r.depth, two-pow (r.layer + r.depth)))

  -- no place yet
  pub row-begun : (v w : V) → VisitsBelowRow Visit (claimed_by e) r v w → Visits Visit (claimed_by e) (IsBegun r 0) (places_below r + 0) v w
  row-begun v w below = visits-weaker Visit (claimed_by e) (LiesBelowRow r) (IsBegun r 0) _ _ v w below (λ l i h is there. elim there [
    | inl under ↦ under
    | inr (at, (k, low, same)) ↦ absurd (omega (arith, low))
  ]) (omega arith)

  -- one more place
  pub place-visited : (n : ℕ) (v u w : V) (h : Hash) → claimed_by e r.layer (place_in_row r n) ≡ Some h
      → Visits Visit (claimed_by e) (IsBegun r n) (places_below r + n) v u
      → Visit u (record { layer = r.layer; index = place_in_row r n; hash = h }) w
      → Visits Visit (claimed_by e) (IsBegun r (n + 1)) (places_below r + (n + 1)) v w
  place-visited n v u w h is begun step =
      visits-both Visit (claimed_by e) _ (λ l i. (r.layer ≡ l) × (place_in_row r n ≡ i)) _ _ 1 _ v u w begun
      (visits-one Visit (claimed_by e) _ u w (record { layer = r.layer; index = place_in_row r n; hash = h }) is step (λ l i at. at))
      (λ l i h' claim there. split l i there) (omega arith)
    where
      split : (l i : ℕ) → IsBegun r (n + 1) l i → IsBegun r n l i ⊎ ((r.layer ≡ l) × (place_in_row r n ≡ i))
      split l i (inl below) = inl (inl below)
      split l i (inr (at, (k, low, is))) = elim (cases_lt k n) [
        | inl less ↦ inl (inr (at, (k, less, is)))
        | inr past ↦ let last : n ≡ k = omega (arith, low, past) in inr (sym at, ap (place_in_row r) last ∙ sym is)
      ]

  -- all places
  pub row-visited : (v w : V) → Visits Visit (claimed_by e) (IsBegun r (2 ^ r.depth)) (places_below r + 2 ^ r.depth) v w
      → VisitsRow Visit (claimed_by e) r v w
  row-visited v w begun =
      let wide : 2 ^ suc r.depth ≤ 2 ^ suc (r.layer + r.depth) =
      (let more : suc r.depth ≤ suc (r.layer + r.depth) = omega arith in pow_mono {i = suc r.depth} {j = suc (r.layer + r.depth)} more) in
      visits-weaker Visit (claimed_by e) _ (LiesUnderRow r) _ (places_under r) v w begun (λ l i h is there. elim (eq-or-lt_of_le there.1) [
        | inr less ↦ inl (there.0, less)
        | inl same ↦
            let up : r.layer + r.depth - l ≡ r.depth = omega (arith, same) in
            let node : i / 2 ^ r.depth ≡ r.node = sym (ap (λ k. i / 2 ^ k) up) ∙ there.0.1 in
            let at : i ≡ r.node * 2 ^ r.depth + i % 2 ^ r.depth =
            sym (div-add-mod' i (2 ^ r.depth)) ∙ ap (λ k. k * 2 ^ r.depth + i % 2 ^ r.depth) node in
            inr (same, (i % 2 ^ r.depth, mod_below i (2 ^ r.depth) (pow_pos r.depth), at))
      ]) (omega (arith, wide, two-pow r.depth))
