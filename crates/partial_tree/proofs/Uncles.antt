-- The nodes over a base range, up to the place to which evidence leads, and the uncles beside them.
use Rattle.std.proofs.Common.{◌≡◌, ◌⊎◌, ℕ, zero, suc, ◌+◌, ◌-◌, ◌*◌, ◌/◌, ◌%◌, ◌^◌, ◌<◌, ◌≤◌, Some, None, inl, inr, sym, ap, ap₂, ◌∙◌}
use Rattle.std.proofs.Common.{subst, arith, div-one, eq-or-lt_of_le, shr-shr}
use Rattle.std.specs.Prelude.{⊤}
use Rattle.hashtree.proofs.Pairs.{two-pow}
use Rattle.chains.proofs.Cases.{some_or_none}
use Rattle.node_maps.specs.Digest.{Hash, join}
use Rattle.node_maps.specs.Places.{IsKnown, IsTreePlace}
use Rattle.partial_tree.specs.declared.message.evidence.Evidence.{Evidence}
use Rattle.partial_tree.specs.declared.message.found.Claim.{Claim}
use Rattle.partial_tree.specs.declared.message.row.HashRow.{HashRow}
use Rattle.partial_tree.specs.Claims.{base_hash, sibling, uncle_hash}
use Rattle.partial_tree.specs.Evidence.{IsClaimedPlace, IsInside, LeadsTo, LeadsUp, claimed_by, given_by, hashes_of, node_over_base, range_of}
use Rattle.partial_tree.specs.Evidence.{row_height}
use Rattle.partial_tree.specs.FoldedRows.{IsClaimedRow, IsUnderUncle}
use Rattle.partial_tree.specs.Visits.{IsOfPair, LiesUnderRow, VisitsAll, VisitsPair, VisitsRow, places_under}
use Rattle.partial_tree.proofs.ClaimValues.{base-read, either, pair_of, sibling-apart, uncle-read}
use Rattle.partial_tree.proofs.Ranges.{pow_more}
use Rattle.partial_tree.proofs.Rows.{claim-in_row, node-up}
use Rattle.partial_tree.proofs.Tracing.{Opened, join_claimed, left_claimed, left_or_right, rests_on, right_claimed}
use Rattle.partial_tree.proofs.Visits.{visits-both, visits-one, visits-weaker}

-- evidence that leads to a place of a low tree
pub leads-up : (h : ℕ) (e : Evidence) (layer index : ℕ) → h ≤ 32 → IsInside e → IsTreePlace h layer index → LeadsTo e layer index → LeadsUp e layer
leads-up h e layer index low inside place leads =
    let over : index ≡ node_over_base e layer = sym leads.is_over.over in
    let wide : 2 ^ (h - layer) ≤ 2 ^ (32 - layer) = pow_more (h - layer) (32 - layer) (omega (arith, low)) in
    record {
      inside = inside;
      place = subst (IsTreePlace 32 layer) over (omega (arith, place.0, low), omega (arith, place.1, wide));
      leads = subst (LeadsTo e layer) over leads;
    }

-- the node over a base range, as a row
abbrev pub row_over : Evidence → ℕ → HashRow
row_over e layer = record { layer = layer; depth = 0; node = node_over_base e layer }

module _ (e : Evidence) where
  pub over-cover : node_over_base e (e.base + e.span) ≡ e.index / 2 ^ e.span
  over-cover = let same : e.base + e.span - e.base ≡ e.span = omega arith in ap (λ k. e.index / 2 ^ k) same

  -- above the base range no node over it is given
  pub over-not_given : (l : ℕ) → e.base < l → given_by e l (node_over_base e l) ≡ None
  over-not_given l above = elim (some_or_none (given_by e l (node_over_base e l))) [
    | inr none ↦ none
    | inl (v, is) ↦
        elim (either (base_hash (range_of e) (hashes_of e) l (node_over_base e l)) (uncle_hash (range_of e) (hashes_of e) l (node_over_base e l)) v is) [
          | inl b ↦ let at : l ≡ e.base = (base-read (range_of e) (hashes_of e) l (node_over_base e l) v b).0 in absurd (omega (arith, at, above))
          | inr u ↦ absurd (sibling-apart (node_over_base e l) (uncle-read (range_of e) (hashes_of e) l (node_over_base e l) v u.1).1)
        ]
  ]

  module _ (aligned : e.index % 2 ^ e.span ≡ 0) where
    -- what is claimed beside a node over the base range is given: nothing is claimed below it
    beside-given : (l : ℕ) → e.base + e.span ≤ l → IsKnown (claimed_by e) l (sibling (node_over_base e l))
        → IsKnown (given_by e) l (sibling (node_over_base e l))
    beside-given l from known = elim (some_or_none (given_by e l (sibling (node_over_base e l)))) [
      | inl there ↦ there
      | inr none ↦
          let o : Opened e l (sibling (node_over_base e l)) = rests_on e l (sibling (node_over_base e l)) known none in
          let row = claim-in_row e aligned (l - 1) (2 * sibling (node_over_base e l)) o.left in
          let one : row_height e (l - 1) ≡ 1 = omega (arith, from, o.above_leaves) in
          let two : 2 ^ row_height e (l - 1) ≡ 2 = ap (λ k. 2 ^ k) one in
          let up : node_over_base e (l - 1) / 2 ≡ node_over_base e l =
          node-up e aligned (l - 1) row.0 ∙ ap (node_over_base e) (let back : suc (l - 1) ≡ l = omega (arith, o.above_leaves) in back) in
          let low : node_over_base e (l - 1) / 2 * 2 ≤ 2 * sibling (node_over_base e l) =
          subst (λ w. node_over_base e (l - 1) / w * w ≤ 2 * sibling (node_over_base e l)) two row.1 in
          let high : 2 * sibling (node_over_base e l) < node_over_base e (l - 1) / 2 * 2 + 2 =
          subst (λ w. 2 * sibling (node_over_base e l) < node_over_base e (l - 1) / w * w + w) two row.2 in
          let same : node_over_base e l ≡ sibling (node_over_base e l) = omega (arith, up, low, high) in
          absurd (sibling-apart (node_over_base e l) same)
    ]

    -- both children of a claimed node over the base range, down to the cover
    children-over : (l : ℕ) → e.base + e.span ≤ l → IsClaimedPlace e (suc l) (node_over_base e (suc l))
        → IsClaimedPlace e l (node_over_base e l) × IsKnown (given_by e) l (sibling (node_over_base e l))
    children-over l from at =
        let none = over-not_given (suc l) (omega (arith, from)) in
        let down : suc l - 1 ≡ l = omega arith in
        let left : IsClaimedPlace e l (2 * node_over_base e (suc l)) =
        subst (λ k. IsClaimedPlace e k (2 * node_over_base e (suc l))) down (left_claimed e (suc l) (node_over_base e (suc l)) at none) in
        let right : IsClaimedPlace e l (2 * node_over_base e (suc l) + 1) =
        subst (λ k. IsClaimedPlace e k (2 * node_over_base e (suc l) + 1)) down (right_claimed e (suc l) (node_over_base e (suc l)) at none) in
        let half : node_over_base e l / 2 ≡ node_over_base e (suc l) = node-up e aligned l (omega (arith, from)) in
        elim (left_or_right (node_over_base e l)) [
          | inl is ↦
              let here : 2 * node_over_base e (suc l) ≡ node_over_base e l = omega (arith, is, half) in
              let there : 2 * node_over_base e (suc l) + 1 ≡ sibling (node_over_base e l) = omega (arith, is, half) in
              (subst (IsClaimedPlace e l) here left, beside-given l from (subst (IsKnown (claimed_by e) l) there right.claimed))
          | inr is ↦
              let here : 2 * node_over_base e (suc l) + 1 ≡ node_over_base e l = omega (arith, is, half) in
              let there : 2 * node_over_base e (suc l) ≡ sibling (node_over_base e l) = omega (arith, is, half) in
              (subst (IsClaimedPlace e l) here right, beside-given l from (subst (IsKnown (claimed_by e) l) there left.claimed))
        ]

module _ (e : Evidence) (top : ℕ) (up : LeadsUp e top) where
  -- each node over the base range is claimed, up to the top; by the number d of layers below it
  claimed-over : (d l : ℕ) → l + d ≡ top → e.base + e.span ≤ l → IsClaimedPlace e l (node_over_base e l)
  claimed-over zero l at from =
      let here : top ≡ l = omega (arith, at) in
      subst (λ k. IsClaimedPlace e k (node_over_base e k)) here
      (record { inside = up.inside; place = up.place; pruned = up.leads.pruned; claimed = up.leads.at_top })
  claimed-over (suc d) l at from = (children-over e up.leads.is_over.aligned l from (claimed-over d (suc l) (omega (arith, at)) (omega (arith, from)))).0

  pub cover-row : IsClaimedRow e (record { layer = e.base + e.span; depth = 0; node = e.index / 2 ^ e.span })
  cover-row =
      let covers : e.base + e.span ≤ top = up.leads.is_over.covers in
      let same : e.base + e.span ≡ e.base + e.span + 0 = omega arith in
      subst (λ n. IsClaimedRow e (record { layer = e.base + e.span; depth = 0; node = n })) (over-cover e) (record {
        at = subst (λ l. IsClaimedPlace e l (node_over_base e (e.base + e.span))) same
            (claimed-over (top - (e.base + e.span)) (e.base + e.span) (omega (arith, covers)) (omega arith));
        not_given =
            λ above. subst (λ l. given_by e l (node_over_base e (e.base + e.span)) ≡ None) same (over-not_given e (e.base + e.span) (omega (arith, above)));
        from_base = omega arith;
        to_cover = omega arith;
        few = omega arith;
      })

  pub under-uncle : (l : ℕ) (h : Hash) → e.base + e.span ≤ l → l < top → claimed_by e l (node_over_base e l) ≡ Some h → IsUnderUncle e l h
  under-uncle l h from below value = record {
    inside = up.inside;
    from_cover = from;
    low = omega (arith, below, up.place.0);
    aligned = up.leads.is_over.aligned;
    value = value;
    uncle = (children-over e up.leads.is_over.aligned l from (claimed-over (top - suc l) (suc l) (omega (arith, below)) (omega (arith, from)))).1;
  }

  module _ {V : Type 0} (Visit : V → Claim → V → Type 0) where
    -- the uncle and the parent, after all that lies under the node
    pub pair-visited : (l : ℕ) (v u w : V) → e.base + e.span ≤ l → IsKnown (given_by e) l (sibling (node_over_base e l))
        → VisitsRow Visit (claimed_by e) (row_over e l) v u → VisitsPair Visit e l u w → VisitsRow Visit (claimed_by e) (row_over e (l + 1)) v w
    pair-visited l v u w from uncle under pair =
        let next : suc (l + 1 + 0) ≡ suc (suc (l + 0)) = omega arith in
        let wide : 2 ^ suc (l + 1 + 0) ≡ 2 ^ suc (l + 0) + 2 ^ suc (l + 0) = ap (λ k. 2 ^ k) next ∙ two-pow (suc (l + 0)) in
        let some : 2 ^ 1 ≤ 2 ^ suc (l + 0) = pow_more 1 (suc (l + 0)) (omega arith) in
        visits-both Visit (claimed_by e) _ _ (LiesUnderRow (row_over e (l + 1))) _ 2 (places_under (row_over e (l + 1))) v u w under pair
        (λ m i h is there. split m i h is there.0.1 (eq-or-lt_of_le there.1)) (omega (arith, wide, some))
      where
        split : (m i : ℕ) (h : Hash) → claimed_by e m i ≡ Some h → i / 2 ^ (l + 1 + 0 - m) ≡ node_over_base e (l + 1) → (m ≡ l + 1) ⊎ (m < l + 1)
            → LiesUnderRow (row_over e l) m i ⊎ IsOfPair e l m i
        split m i h is at (inl same) =
            let none : l + 1 + 0 - m ≡ 0 = omega (arith, same) in
            inr (inr (same, sym (div-one i) ∙ sym (ap (λ k. i / 2 ^ k) none) ∙ at))
        split m i h is at (inr less) =
            let step : l + 1 + 0 - m ≡ (l - m) + 1 = omega (arith, less) in
            let half : i / 2 ^ (l - m) / 2 ≡ node_over_base e l / 2 =
            shr-shr i (l - m) 1 ∙ sym (ap (λ k. i / 2 ^ k) step) ∙ at ∙ ap (node_over_base e) (let one : l + 1 ≡ suc l = omega arith in one)
            ∙ sym (node-up e up.leads.is_over.aligned l (omega (arith, from))) in
            let plain : l + 0 ≡ l = omega arith in
            elim (pair_of (node_over_base e l) (i / 2 ^ (l - m)) half) [
              | inl over ↦ inl ((omega (arith, less), ap (λ k. i / 2 ^ (k - m)) plain ∙ over), omega (arith, less))
              | inr beside ↦ elim (eq-or-lt_of_le (let low : m ≤ l = omega (arith, less) in low)) [
                | inl same ↦
                    let none : l - m ≡ 0 = omega (arith, same) in
                    inr (inl (same, sym (div-one i) ∙ sym (ap (λ k. i / 2 ^ k) none) ∙ beside))
                | inr below ↦
                    absurd (up.leads.pruned.below l (sibling (node_over_base e l)) m i uncle.0 h uncle.1 (omega (arith, below), beside) below is)
              ]
            ]

    -- all claims lie under the top
    pub all-visited : (l : ℕ) (v w : V) → l ≡ top → VisitsRow Visit (claimed_by e) (row_over e l) v w → VisitsAll Visit (claimed_by e) v w
    all-visited l v w at row =
        let plain : top + 0 ≡ top = omega arith in
        let high : suc (top + 0) ≤ 40 = omega (arith, up.place.0) in
        let wide : 2 ^ suc (top + 0) ≤ 2 ^ 40 = pow_more (suc (top + 0)) 40 high in
        visits-weaker Visit (claimed_by e) _ (λ l i. ⊤) _ (2 ^ 40) v w (subst (λ k. VisitsRow Visit (claimed_by e) (row_over e k) v w) at row)
        (λ l i h is there.
        let under = up.leads.under_top l i h is in
        ((omega (arith, under.0), ap (λ k. i / 2 ^ (k - l)) plain ∙ under.1), under.0)) (omega (arith, wide))

-- ---- an uncle and the parent

module _ (e : Evidence) (l : ℕ) (h : Hash) (at : IsUnderUncle e l h) where
  pub half-over : node_over_base e l / 2 ≡ node_over_base e (l + 1)
  half-over = node-up e at.aligned l (omega (arith, at.from_cover)) ∙ ap (node_over_base e) (let one : suc l ≡ l + 1 = omega arith in one)

  -- the join of the two is claimed above them
  pub parent-claimed : (u p : Hash) → claimed_by e l (sibling (node_over_base e l)) ≡ Some u → (node_over_base e l % 2 ≡ 0 → p ≡ join h u)
      → (node_over_base e l % 2 ≡ 1 → p ≡ join u h) → claimed_by e (l + 1) (node_over_base e (l + 1)) ≡ Some p
  parent-claimed u p uncle left right =
      let none = over-not_given e (l + 1) (omega (arith, at.from_cover)) in
      let down : l + 1 - 1 ≡ l = omega arith in
      elim (left_or_right (node_over_base e l)) [
        | inl is ↦
            let here : 2 * node_over_base e (l + 1) ≡ node_over_base e l = omega (arith, is, half-over) in
            let there : 2 * node_over_base e (l + 1) + 1 ≡ sibling (node_over_base e l) = omega (arith, is, half-over) in
            join_claimed e (l + 1) (node_over_base e (l + 1)) h u (omega arith) none (ap₂ (claimed_by e) down here ∙ at.value)
            (ap₂ (claimed_by e) down there ∙ uncle)
            ∙ ap Some (sym (left (omega (arith, is))))
        | inr is ↦
            let here : 2 * node_over_base e (l + 1) + 1 ≡ node_over_base e l = omega (arith, is, half-over) in
            let there : 2 * node_over_base e (l + 1) ≡ sibling (node_over_base e l) = omega (arith, is, half-over) in
            join_claimed e (l + 1) (node_over_base e (l + 1)) u h (omega arith) none (ap₂ (claimed_by e) down there ∙ uncle)
            (ap₂ (claimed_by e) down here ∙ at.value)
            ∙ ap Some (sym (right (omega (arith, is))))
      ]

  pub uncle-and-parent : {V : Type 0} (Visit : V → Claim → V → Type 0) (u p : Hash) (v mid w : V) → claimed_by e l (sibling (node_over_base e l)) ≡ Some u
      → claimed_by e (l + 1) (node_over_base e l / 2) ≡ Some p → Visit v (record { layer = l; index = sibling (node_over_base e l); hash = u }) mid
      → Visit mid (record { layer = l + 1; index = node_over_base e l / 2; hash = p }) w → VisitsPair Visit e l v w
  uncle-and-parent Visit u p v mid w uncle parent first second =
      visits-both Visit (claimed_by e) (λ m i. (l ≡ m) × (sibling (node_over_base e l) ≡ i)) (λ m i. (l + 1 ≡ m) × (node_over_base e l / 2 ≡ i)) (IsOfPair e l)
      1 1 2
      v mid w
      (visits-one Visit (claimed_by e) _ v mid _ uncle first (λ m i is. is)) (visits-one Visit (claimed_by e) _ mid w _ parent second (λ m i is. is))
      (λ m i h' is there. elim there [
        | inl (layer, index) ↦ inl (sym layer, sym index)
        | inr (layer, index) ↦ inr (sym layer, half-over ∙ sym index)
      ]) (omega arith)
