-- A whole layer that is known says nothing new, and one that is not claims a place that is new.
use Rattle.std.proofs.Common.{◌≡◌, ℕ, zero, suc, ◌+◌, ◌-◌, ◌*◌, ◌/◌, ◌^◌, ◌<◌, ◌≤◌, ◌⊎◌, List, length, get_or, [], Option, Some, None, inl, inr, refl, sym}
use Rattle.std.proofs.Common.{ap, ◌∙◌, subst, arith, pow_pos, div-add-mod'}
use Rattle.std.proofs.lemmas.Nat.{mod_below}
use Rattle.std.specs.Borrow.{Bor}
use Rattle.std.proofs.lemmas.Option.{none-some, slice_get-get_or}
use Rattle.std.proofs.lemmas.Bool.{and_from, cond-true, eq-eqb, le-leb, lt-ltb, cases_lt}
use Rattle.hashtree.proofs.Pairs.{two-pow}
use Rattle.chains.proofs.Cases.{some_or_none}
use Rattle.node_maps.specs.Digest.{Hash, join}
use Rattle.node_maps.specs.Known.{Known, look}
use Rattle.node_maps.specs.Places.{tree_height, PartialTree, IsKnown}
use Rattle.node_maps.specs.Runs.{AreKnown}
use Rattle.partial_tree.specs.TreeRoot.{TreeRoot}
use Rattle.partial_tree.specs.Closed.{IsClosed}
use Rattle.partial_tree.specs.Claims.{HasNew, IsAgreed, joined}
use Rattle.partial_tree.specs.Fill.{fill_ask, fill_hashes, fill_claims, pad_from}
use Rattle.partial_tree.specs.Joins.{Joins}
use Rattle.partial_tree.proofs.ClaimValues.{first_of_two, second_of_two, claims-given}
use Rattle.partial_tree.proofs.WholeLayers.{full}
use Rattle.partial_tree.proofs.Layers.{layer_evidence, layer-leads}
use Rattle.partial_tree.proofs.Rows.{claim-in_row}

-- a place that is not known is among the first n, or they are all known
missing : (f : ℕ → Option Hash) (n : ℕ) → AreKnown f 0 n ⊎ ((j : ℕ) × (j < n) × (f j ≡ None))
missing f zero = inl (λ j low. absurd (omega arith))
missing f (suc n) = elim (missing f n) [
  | inr (j, low, none) ↦ inr (j, omega (arith, low), none)
  | inl known ↦ elim (some_or_none (f n)) [
    | inr none ↦ inr (n, omega arith, none)
    | inl (v, there) ↦ inl (λ j low. elim (cases_lt j n) [
      | inl less ↦ known j less
      | inr last ↦ let at : n ≡ 0 + j = omega (arith, last, low) in (v, ap f (sym at) ∙ there)
    ])
  ]
]

module _ (t : TreeRoot) (K : PartialTree) (l : ℕ) (hashes : Bor (List Hash)) (inside : l ≤ tree_height t.length)
    (count : length hashes.now ≡ pad_from t.length l) where
  -- each place of the layer is claimed
  layer-claimed : (j : ℕ) → j < 2 ^ (tree_height t.length - l) → (v : Hash) × (fill_claims t.length l hashes.now l j ≡ Some v)
  layer-claimed j low =
      let long : length (fill_hashes t.length l hashes.now) ≡ 2 ^ (tree_height t.length - l) = full t K l hashes.now inside count in
      let first : j - 0 ≡ j = omega arith in (
        get_or (fill_hashes t.length l hashes.now) (j - 0) [],
        claims-given (fill_ask t.length l) (fill_hashes t.length l hashes.now) l j _
            (first_of_two _ _ _ (cond-true _ _ _ (and_from _ _ (eq-eqb l l refl)
            (and_from _ _ (le-leb 0 j (omega arith)) (lt-ltb j (0 + 2 ^ (tree_height t.length - l)) (omega (arith, low)))))
            ∙ slice_get-get_or (fill_hashes t.length l hashes.now) (j - 0) [] (omega (arith, low, long, first)))),
      )

  pub layer-new : ¬ AreKnown (K l) 0 (2 ^ (tree_height t.length - l)) → HasNew K (fill_claims t.length l hashes.now)
  layer-new not_known = elim (missing (K l) (2 ^ (tree_height t.length - l))) [
    | inl known ↦ absurd (not_known known)
    | inr (j, low, none) ↦ (let v = layer-claimed j low in record { layer = l; index = j; value = v.0; claimed = v.1; absent = none })
  ]

  module _ (up : (k i : ℕ) → k < tree_height t.length → IsKnown K k (2 * i) → IsKnown K (suc k) i) (known : AreKnown (K l) 0 (2 ^ (tree_height t.length - l)))
    where
      -- what stands above a known layer is known
      above-known : (d i : ℕ) → l + d ≤ tree_height t.length → i < 2 ^ (tree_height t.length - (l + d)) → IsKnown K (l + d) i
      above-known zero i low within =
          let here : l + 0 ≡ l = omega arith in
          let first : 0 + i ≡ i = omega arith in
          let v = known i (subst (λ k. i < 2 ^ (tree_height t.length - k)) here within) in
          subst (λ k. IsKnown K k i) (sym here) (subst (λ j. IsKnown K l j) first v)
      above-known (suc d) i low within =
          let next : l + suc d ≡ suc (l + d) = omega arith in
          let height : suc (tree_height t.length - suc (l + d)) ≡ tree_height t.length - (l + d) = omega (arith, low) in
          let half : i < 2 ^ (tree_height t.length - suc (l + d)) = subst (λ k. i < 2 ^ (tree_height t.length - k)) next within in
          let wide : 2 * i < 2 ^ (tree_height t.length - (l + d)) =
          subst (λ k. 2 * i < 2 ^ k) height (omega (arith, half, two-pow (tree_height t.length - suc (l + d)))) in
          subst (λ k. IsKnown K k i) (sym next) (up (l + d) i (omega (arith, low)) (above-known d (2 * i) (omega (arith, low)) wide))

      claimed-known : (k i : ℕ) (v : Hash) → fill_claims t.length l hashes.now k i ≡ Some v → IsKnown K k i
      claimed-known k i v claim =
          let leads = layer-leads t K l hashes inside count in
          let from : l ≤ k = (claim-in_row (layer_evidence t K l hashes inside count) leads.is_over.aligned k i (v, claim)).0 in
          let under = leads.under_top k i v claim in
          let at : l + (k - l) ≡ k = omega (arith, from) in
          let w : ℕ = 2 ^ (tree_height t.length - k) in
          let low : i < 2 ^ (tree_height t.length - k) =
          omega (arith, div-add-mod' i w, mod_below i w (pow_pos (tree_height t.length - k)), ap (λ x. x * w) under.1) in
          subst (λ n. IsKnown K n i) at (above-known (k - l) i (omega (arith, at, under.0)) (subst (λ n. i < 2 ^ (tree_height t.length - n)) (sym at) low))

      pub nothing-new : IsAgreed K (fill_claims t.length l hashes.now) → (k i : ℕ) → K k i ≡ joined K (fill_claims t.length l hashes.now) k i
      nothing-new agreed k i = elim (some_or_none (K k i)) [
        | inl (v, there) ↦ there ∙ sym (first_of_two (K k i) (fill_claims t.length l hashes.now k i) v there)
        | inr none ↦ elim (some_or_none (fill_claims t.length l hashes.now k i)) [
          | inl (v, claim) ↦ (let w = claimed-known k i v claim in absurd (none-some w.0 (sym none ∙ w.1)))
          | inr nothing ↦ none ∙ sym nothing ∙ sym (second_of_two (K k i) (fill_claims t.length l hashes.now k i) none)
        ]
      ]

-- a layer that is known joins nothing
pub known-joins : (t : TreeRoot) (before : Known) (l : ℕ) (hashes : Bor (List Hash)) → l ≤ tree_height t.length → length hashes.now ≡ pad_from t.length l
    → ((k i : ℕ) → k < tree_height t.length → IsKnown (look before) k (2 * i) → IsKnown (look before) (suc k) i)
    → AreKnown (look before l) 0 (2 ^ (tree_height t.length - l)) → IsAgreed (look before) (fill_claims t.length l hashes.now)
    → Joins (fill_claims t.length l hashes.now) before before 0
known-joins t before l hashes inside count up known agreed = record {
  agreed = agreed;
  joined_is = nothing-new t (look before) l hashes inside count up known agreed;
  gained = omega arith;
}

-- what stands above a known place of a closed tree is known
pub closed-upward : (t : TreeRoot) (K : PartialTree) → IsClosed t K → (k i : ℕ) → k < tree_height t.length → IsKnown K k (2 * i) → IsKnown K (suc k) i
closed-upward t K closed k i low (v, at) =
    let family = closed.families k (2 * i) v at low in
    let half : 2 * i / 2 ≡ i = omega arith in
    (join family.left family.right, subst (λ j. K (suc k) j ≡ Some (join family.left family.right)) half family.parent_known)
