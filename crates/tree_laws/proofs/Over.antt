-- What follows from a whole layer: the nodes over it, and nothing else.
use Rattle.std.proofs.Common.{◌≡◌, ◌⊎◌, ℕ, zero, suc, ◌+◌, ◌-◌, ◌*◌, ◌/◌, ◌^◌, ◌<◌, ◌≤◌, List, [], length, take, drop, Some, None, inl, inr, refl, sym, ap, ◌∙◌}
use Rattle.std.proofs.Common.{subst, arith}
use Rattle.std.specs.Prelude.{slice_get}
use Rattle.std.proofs.lemmas.Option.{slice_get_within, slice_get-get_or}
use Rattle.std.proofs.lemmas.Bool.{and_from, eq-eqb, le-leb, lt-ltb, cond-true}
use Rattle.std.proofs.lemmas.List.{append-nil, take_all}
use Rattle.chains.proofs.Cases.{some_or_none}
use Rattle.hashtree.specs.Tree.{filled, node_over, root_over, tree}
use Rattle.hashtree.proofs.Nodes.{leaf_at, node_over-suc}
use Rattle.node_maps.specs.Digest.{Hash}
use Rattle.partial_tree.specs.TreeRoot.{TreeRoot}
use Rattle.node_maps.specs.Places.{tree_height, IsTreePlace}
use Rattle.partial_tree.specs.Claims.{cover, given, base_hash, uncle_hash}
use Rattle.partial_tree.specs.Fill.{fill_ask, fill_hashes, fill_claims, pad_from}
use Rattle.node_maps.proofs.Places.{place_left, place_right, place_parent}
use Rattle.partial_tree.proofs.ClaimValues.{either, first_of_two, base-read, uncle-read, claims-read, claims-zero, claims-given, claims-joined}
use Rattle.partial_tree.proofs.WholeLayers.{full}

module _ (t : TreeRoot) (l : ℕ) (hashes : List Hash) (layer_inside : l ≤ tree_height t.length) (right_count : length hashes ≡ pad_from t.length l) where
  -- the layer with its pads is whole
  whole : length (filled (tree_height t.length) l hashes) ≡ 2 ^ (tree_height t.length - l)
  whole = full t (λ k i. None) l hashes layer_inside right_count

  -- a layer gives no hash but its own
  given-layer : (k i : ℕ) (v : Hash) → given (fill_ask t.length l) (fill_hashes t.length l hashes) k i ≡ Some v → (k ≡ l) × (i < 2 ^ (tree_height t.length - l))
  given-layer k i v e = elim (either (base_hash (fill_ask t.length l) (fill_hashes t.length l hashes) k i)
      (uncle_hash (fill_ask t.length l) (fill_hashes t.length l hashes) k i) v e) [
        | inl b ↦
            let (at, low, high, got) = base-read (fill_ask t.length l) (fill_hashes t.length l hashes) k i v b in
            (at, omega arith)
        | inr (none, u) ↦
            let (from, at, got) = uncle-read (fill_ask t.length l) (fill_hashes t.length l hashes) k i v u in
            let within' : (fill_ask t.length l).length + (k - cover (fill_ask t.length l)) < length (fill_hashes t.length l hashes) =
            slice_get_within (fill_hashes t.length l hashes) ((fill_ask t.length l).length + (k - cover (fill_ask t.length l))) v got in
            let len : length (fill_hashes t.length l hashes) ≡ 2 ^ (tree_height t.length - l) = whole in
            absurd (omega arith)
      ]

  not_given : (k i : ℕ) → l ≤ k → given (fill_ask t.length l) (fill_hashes t.length l hashes) (suc k) i ≡ None
  not_given k i low = elim (some_or_none (given (fill_ask t.length l) (fill_hashes t.length l hashes) (suc k) i)) [
    | inl (v, e) ↦ let at = given-layer (suc k) i v e in absurd (omega (arith, at.0))
    | inr none ↦ none
  ]

  leaf-claimed : (i : ℕ) → i < 2 ^ (tree_height t.length - l)
      → fill_claims t.length l hashes l i ≡ Some (node_over (filled (tree_height t.length) l hashes) 0 i)
  leaf-claimed i low =
      let len : length (fill_hashes t.length l hashes) ≡ 2 ^ (tree_height t.length - l) = whole in
      let at : i - 0 ≡ i = omega arith in
      claims-given (fill_ask t.length l) (fill_hashes t.length l hashes) l i _
      (first_of_two _ _ _ (cond-true _ _ _ (and_from _ _ (eq-eqb l l refl)
      (and_from _ _ (le-leb 0 i (omega arith)) (lt-ltb i (0 + 2 ^ (tree_height t.length - l)) (omega arith))))
      ∙ ap (slice_get (fill_hashes t.length l hashes)) at ∙ slice_get-get_or (fill_hashes t.length l hashes) i [] (omega arith)))
      ∙ ap Some (sym (leaf_at (fill_hashes t.length l hashes) [] i (omega arith)) ∙ ap (λ xs. node_over xs 0 i) (append-nil (fill_hashes t.length l hashes)))

  -- each place from the layer up is claimed, with the node over the layer
  claimed-over : (k i : ℕ) → IsTreePlace (tree_height t.length) (k + l) i
      → fill_claims t.length l hashes (k + l) i ≡ Some (node_over (filled (tree_height t.length) l hashes) k i)
  claimed-over zero i at =
      let e : zero + l ≡ l = omega arith in
      ap (λ j. fill_claims t.length l hashes j i) e ∙ leaf-claimed i (subst (λ j. i < 2 ^ (tree_height t.length - j)) e at.1)
  claimed-over (suc k) i at =
      let e : suc k + l ≡ suc (k + l) = omega arith in
      let here : IsTreePlace (tree_height t.length) (suc (k + l)) i = subst (λ j. IsTreePlace (tree_height t.length) j i) e at in
      ap (λ j. fill_claims t.length l hashes j i) e
      ∙ claims-joined (fill_ask t.length l) (fill_hashes t.length l hashes) (k + l) i _ _ (not_given (k + l) i (omega arith))
      (claimed-over k (2 * i) (place_left (tree_height t.length) (k + l) i here.0 here))
      (claimed-over k (2 * i + 1) (place_right (tree_height t.length) (k + l) i here.0 here))
      ∙ ap Some (sym (node_over-suc (filled (tree_height t.length) l hashes) k i))

  pub claims-node : (k i : ℕ) → l ≤ k → IsTreePlace (tree_height t.length) k i
      → fill_claims t.length l hashes k i ≡ Some (node_over (filled (tree_height t.length) l hashes) (k - l) i)
  claims-node k i low at =
      let e : k ≡ (k - l) + l = omega arith in
      ap (λ j. fill_claims t.length l hashes j i) e ∙ claimed-over (k - l) i (subst (λ j. IsTreePlace (tree_height t.length) j i) e at)

  above_pair : (k i : ℕ) → (l ≤ k) × IsTreePlace (tree_height t.length) k (2 * i + 1) → (l ≤ suc k) × IsTreePlace (tree_height t.length) (suc k) i
  above_pair k i at = elim (cases_top k) [
    | inl top ↦
        let none : tree_height t.length - k ≡ 0 = omega arith in
        absurd (omega (arith, subst (λ j. 2 * i + 1 < 2 ^ j) none at.1.1))
    | inr below ↦
        let half : (2 * i + 1) / 2 ≡ i = omega arith in
        (omega (arith, at.0), subst (IsTreePlace (tree_height t.length) (suc k)) half (place_parent (tree_height t.length) k (2 * i + 1) below at.1))
  ]
    where
      cases_top : (k : ℕ) → (tree_height t.length ≤ k) ⊎ (k < tree_height t.length)
      cases_top k = grind arith

  at_layer : (k i : ℕ) (v : Hash) → given (fill_ask t.length l) (fill_hashes t.length l hashes) k i ≡ Some v → (l ≤ k) × IsTreePlace (tree_height t.length) k i
  at_layer k i v e =
      let at = given-layer k i v e in
      (omega (arith, at.0), (omega (arith, at.0, layer_inside), subst (λ j. i < 2 ^ (tree_height t.length - j)) (sym at.0) at.1))

  -- and no other place
  pub claims-no_more : (k i : ℕ) (v : Hash) → fill_claims t.length l hashes k i ≡ Some v → (l ≤ k) × IsTreePlace (tree_height t.length) k i
  claims-no_more zero i v e = at_layer zero i v (sym (claims-zero (fill_ask t.length l) (fill_hashes t.length l hashes) i) ∙ e)
  claims-no_more (suc k) i v e = elim (claims-read (fill_ask t.length l) (fill_hashes t.length l hashes) k i v e) [
    | inl g ↦ at_layer (suc k) i v g
    | inr (none, (a, b, p, q, w)) ↦ above_pair k i (claims-no_more k (2 * i + 1) b q)
  ]

  -- the node at the top is the root over the layer
  pub claims-root_over : fill_claims t.length l hashes (tree_height t.length) 0 ≡ Some (root_over (tree_height t.length) l hashes)
  claims-root_over =
      let h : ℕ = tree_height t.length in
      let none : h - h ≡ 0 = omega arith in
      let first : 0 * 2 ^ (h - l) ≡ 0 = omega arith in
      let len : length (filled h l hashes) ≡ 2 ^ (h - l) = whole in
      let here : 0 < 2 ^ (h - h) = subst (λ j. 0 < 2 ^ j) (sym none) (omega arith) in
      let low : h ≤ h = omega arith in
      claims-node h 0 layer_inside (low, here)
      ∙ ap (λ k. Some (tree (h - l) (take (2 ^ (h - l)) (drop k (filled h l hashes))))) first
      ∙ ap (λ xs. Some (tree (h - l) xs)) (take_all (2 ^ (h - l)) (filled h l hashes) (omega (arith, len)))
