-- A closed partial tree stays closed when the leaves under a known node are joined to it, and what they claim leads to that node.
use Rattle.std.proofs.Common.{◌≡◌, ℕ, zero, suc, ◌+◌, ◌-◌, ◌*◌, ◌/◌, ◌^◌, ◌<◌, ◌≤◌, List, [], length, get_or, replicate, Some, inl, inr, refl, sym, ap}
use Rattle.std.proofs.Common.{ap₂, ◌∙◌, subst, arith, length-append, div-one}
use Rattle.std.specs.Borrow.{Bor}
use Rattle.std.specs.List.{All}
use Rattle.std.proofs.lemmas.Option.{none-some, slice_get_within, slice_get-get_or, get_or_from_slice_get}
use Rattle.std.proofs.lemmas.Bool.{and_from, eq-eqb, le-leb, lt-ltb, cond-true, cases_lt}
use Rattle.std.proofs.lemmas.List.{length-replicate, get_or-append_right, get_or-replicate}
use Rattle.std.proofs.lemmas.List.Elements.{All-append, All-replicate}
use Rattle.chains.proofs.Cases.{some_or_none}
use Rattle.partial_tree.specs.declared.message.evidence.Evidence.{Evidence}
use Rattle.partial_tree.specs.TreeRoot.{TreeRoot}
use Rattle.node_maps.specs.Places.{tree_height, PartialTree}
use Rattle.node_maps.specs.Digest.{Hash, IsHash}
use Rattle.hashtree.specs.Tree.{pad_leaf, block_count, zero_hash}
use Rattle.hashtree.proofs.Heights.{height_enough, height_pow}
use Rattle.partial_tree.specs.Closed.{IsClosed}
use Rattle.partial_tree.specs.Claims.{span, cover, given, base_hash, uncle_hash, joined, top_layer, top_index}
use Rattle.partial_tree.specs.LeafRows.{row_ask, padded_leaves, row_claims, IsLeafRow, IsRowAccepted}
use Rattle.partial_tree.specs.Evidence.{LeadsTo, IsInside}
use Rattle.partial_tree.proofs.Ranges.{pow_more}
use Rattle.partial_tree.proofs.ClaimValues.{either, first_of_two, second_of_two, base-read, uncle-read, claims-read, claims-zero, claims-given}
use Rattle.partial_tree.proofs.Joining.{joined-closed_by_parts}
use Rattle.partial_tree.proofs.Leading.{message-leads}
use Rattle.partial_tree.proofs.WholeLayers.{zero_hash-is_hash}

module _ (t : TreeRoot) (first k : ℕ) (given_hashes : Bor (List Hash)) (row : IsLeafRow t.length first k (length given_hashes.now)) where
  -- the evidence of the leaves
  abbrev pub row_evidence : Evidence
  row_evidence = record { base = 0; index = first; span = k; hashes = given_hashes; pad = zero_hash 0 }

  pub short : length given_hashes.now ≤ 2 ^ k
  short = omega (arith, row.count_is)

  -- a place past the file's end has no hash of its own
  past-end : (i : ℕ) → block_count t.length ≤ i → length given_hashes.now ≤ i - first
  past-end i past = omega (arith, row.count_is)

  pub full : length (padded_leaves k given_hashes.now) ≡ 2 ^ k
  full =
      length-append given_hashes.now (replicate (2 ^ k - length given_hashes.now) (zero_hash 0))
      ∙ ap (λ n. length given_hashes.now + n) (length-replicate (2 ^ k - length given_hashes.now) (zero_hash 0)) ∙ omega (arith, short)

  pub spanned : span (row_ask first k) ≡ k
  spanned = height_pow k

  -- the fields are small
  pub row-inside : tree_height t.length ≤ 32 → IsInside row_evidence
  row-inside low =
      let enough : block_count t.length ≤ 2 ^ tree_height t.length = height_enough (block_count t.length) in
      let wide : 2 ^ tree_height t.length ≤ 2 ^ 32 = pow_more (tree_height t.length) 32 low in
      record { base = omega arith; index = omega (arith, enough, wide, row.some); span = omega (arith, low, row.span_inside) }

  right_pads : (l i : ℕ) (v : Hash) → given (row_ask first k) (padded_leaves k given_hashes.now) l i ≡ Some v → block_count t.length ≤ i * 2 ^ l
      → v ≡ zero_hash l
  right_pads l i v e past = elim (either (base_hash (row_ask first k) (padded_leaves k given_hashes.now) l i)
      (uncle_hash (row_ask first k) (padded_leaves k given_hashes.now) l i) v e) [
        | inl b ↦
            let (at, low, high, got) = base-read (row_ask first k) (padded_leaves k given_hashes.now) l i v b in
            let one : i * 2 ^ l ≡ i = (let w : 2 ^ l ≡ 1 = ap (λ j. 2 ^ j) at in ap (λ w. i * w) w ∙ omega arith) in
            let past' : length given_hashes.now ≤ i - first = past-end i (subst (λ n. block_count t.length ≤ n) one past) in
            let inside : i - first - length given_hashes.now < 2 ^ k - length given_hashes.now = omega (arith, past', low, high) in
            sym (get_or_from_slice_get (padded_leaves k given_hashes.now) (i - first) v pad_leaf got)
            ∙ get_or-append_right given_hashes.now (replicate (2 ^ k - length given_hashes.now) (zero_hash 0)) (length given_hashes.now) (i - first) pad_leaf
            refl past'
            ∙ get_or-replicate (2 ^ k - length given_hashes.now) (i - first - length given_hashes.now) (zero_hash 0) pad_leaf inside
            ∙ ap zero_hash (sym at)
        | inr (none, u) ↦
            let (from, at, got) = uncle-read (row_ask first k) (padded_leaves k given_hashes.now) l i v u in
            let within' : (row_ask first k).length + (l - cover (row_ask first k)) < length (padded_leaves k given_hashes.now) =
            slice_get_within (padded_leaves k given_hashes.now) ((row_ask first k).length + (l - cover (row_ask first k))) v got in
            absurd (omega (arith, within', full))
      ]

  -- the top is the node over the leaves
  pub at_node : top_layer (row_ask first k) (padded_leaves k given_hashes.now) ≡ k
  at_node = omega (arith, full, spanned)

  node-is : top_index (row_ask first k) (padded_leaves k given_hashes.now) ≡ first / 2 ^ k
  node-is =
      let z : top_layer (row_ask first k) (padded_leaves k given_hashes.now) - 0 ≡ k = omega (arith, at_node) in
      ap (λ n. first / 2 ^ n) z

  -- one leaf alone claims nothing else
  given-one : k ≡ 0 → (l i : ℕ) (v : Hash) → given (row_ask first k) (padded_leaves k given_hashes.now) l i ≡ Some v → (l ≡ 0) × (i ≡ first)
  given-one none l i v e =
      let one : 2 ^ k ≡ 1 = ap (λ j. 2 ^ j) none in
      elim (either (base_hash (row_ask first k) (padded_leaves k given_hashes.now) l i) (uncle_hash (row_ask first k) (padded_leaves k given_hashes.now) l i) v
      e) [
        | inl b ↦
            let (at, low, high, got) = base-read (row_ask first k) (padded_leaves k given_hashes.now) l i v b in
            (at, omega (arith, low, high, one))
        | inr (absent, u) ↦
            let (from, at, got) = uncle-read (row_ask first k) (padded_leaves k given_hashes.now) l i v u in
            let within' : (row_ask first k).length + (l - cover (row_ask first k)) < length (padded_leaves k given_hashes.now) =
            slice_get_within (padded_leaves k given_hashes.now) ((row_ask first k).length + (l - cover (row_ask first k))) v got in
            absurd (omega (arith, within', full))
      ]

  claims-one : k ≡ 0 → (l i : ℕ) (v : Hash) → row_claims first k given_hashes.now l i ≡ Some v → (l ≡ 0) × (i ≡ first)
  claims-one none zero i v e = given-one none zero i v (sym (claims-zero (row_ask first k) (padded_leaves k given_hashes.now) i) ∙ e)
  claims-one none (suc l) i v e = elim (claims-read (row_ask first k) (padded_leaves k given_hashes.now) l i v e) [
    | inl g ↦ given-one none (suc l) i v g
    | inr (absent, (a, b, p, q, w)) ↦
        let left = claims-one none l (2 * i) a p in
        let right = claims-one none l (2 * i + 1) b q in
        absurd (omega (arith, left.1, right.1))
  ]

  -- each leaf of the row is claimed
  pub row-claimed : (j : ℕ) → j < 2 ^ k → (v : Hash) × (row_claims first k given_hashes.now 0 (first + j) ≡ Some v)
  row-claimed j low =
      let back : first + j - first ≡ j = omega arith in (
        get_or (padded_leaves k given_hashes.now) (first + j - first) [],
        claims-given (row_ask first k) (padded_leaves k given_hashes.now) 0 (first + j) _
            (first_of_two _ _ _ (cond-true _ _ _ (and_from _ _ (eq-eqb 0 0 refl)
            (and_from _ _ (le-leb first (first + j) (omega arith)) (lt-ltb (first + j) (first + 2 ^ k) (omega (arith, low)))))
            ∙ slice_get-get_or (padded_leaves k given_hashes.now) (first + j - first) [] (omega (arith, low, full, back)))),
      )

  leads-many : 1 ≤ k → LeadsTo row_evidence k (first / 2 ^ k)
  leads-many some =
      let at : LeadsTo row_evidence (top_layer (row_ask first k) (padded_leaves k given_hashes.now))
      (top_index (row_ask first k) (padded_leaves k given_hashes.now)) = message-leads row_evidence some row.aligned in
      subst (λ l. LeadsTo row_evidence l (first / 2 ^ k)) at_node
      (subst (λ i. LeadsTo row_evidence (top_layer (row_ask first k) (padded_leaves k given_hashes.now)) i) node-is at)

  leads-one : k ≡ 0 → LeadsTo row_evidence k (first / 2 ^ k)
  leads-one none =
      let z : k - 0 ≡ k = omega arith in
      let width : 2 ^ k ≡ 1 = ap (λ j. 2 ^ j) none in
      let node : first / 2 ^ k ≡ first = ap (λ w. first / w) width ∙ div-one first in
      record {
        is_over = record { aligned = row.aligned; covers = omega arith; over = ap (λ n. first / 2 ^ n) z };
        pruned = record {
          below = λ layer index l i v x given' under less claim.
              let high = given-one none layer index v given' in
              omega (arith, high.0, less);
        };
        at_top =
            let v = row-claimed 0 (omega (arith, width)) in
            (v.0, ap₂ (row_claims first k given_hashes.now) none (node ∙ omega arith) ∙ v.1);
        under_top = λ l i v claim.
            let at = claims-one none l i v claim in
            let zero_layers : k - l ≡ k = omega (arith, at.0) in
            (omega (arith, at.0), ap₂ (λ n j. n / 2 ^ j) at.1 zero_layers);
      }

  -- they lead to the node over them
  pub row-leads : LeadsTo row_evidence k (first / 2 ^ k)
  row-leads = elim (cases_lt 0 k) [ inl some ↦ leads-many some | inr none ↦ leads-one (omega (arith, none)) ]

module _ (t : TreeRoot) (K : PartialTree) (first k : ℕ) (given_hashes : Bor (List Hash)) (row : IsLeafRow t.length first k (length given_hashes.now))
    (closed : IsClosed t K) (all : All IsHash given_hashes.now) (ok : IsRowAccepted K first k given_hashes.now) where
  many-closed : 1 ≤ k → IsClosed t (joined K (row_claims first k given_hashes.now))
  many-closed some =
      let at = at_node t first k given_hashes row in
      let length' = full t first k given_hashes row in
      let width = spanned t first k given_hashes row in
      joined-closed_by_parts t K (row_ask first k) (padded_leaves k given_hashes.now) closed
      (All-append IsHash given_hashes.now _ all (All-replicate IsHash (2 ^ k - length given_hashes.now) (zero_hash 0) (zero_hash-is_hash 0)))
      (subst (λ n. 1 ≤ n) (sym width) some) (ap (λ n. 2 ^ n) width) row.aligned
      (subst (λ n. 2 ^ k ≤ n) (sym length') (omega arith))
      (subst (λ n. n ≤ tree_height t.length) (sym at) row.span_inside) (right_pads t first k given_hashes row) ok.top_known.0
      (ap₂ K at (node-is t first k given_hashes row) ∙ ok.top_known.1)
      ok.agrees

  one-closed : k ≡ 0 → IsClosed t (joined K (row_claims first k given_hashes.now))
  one-closed none = subst (IsClosed t) (λ j l i. same l i j) closed
    where
      width : 2 ^ k ≡ 1
      width = ap (λ j. 2 ^ j) none

      node : first / 2 ^ k ≡ first
      node = ap (λ w. first / w) width ∙ div-one first

      same : (l i : ℕ) → K l i ≡ joined K (row_claims first k given_hashes.now) l i
      same l i = elim (some_or_none (K l i)) [
        | inl (v, known) ↦ known ∙ sym (first_of_two (K l i) (row_claims first k given_hashes.now l i) v known)
        | inr nothing ↦ elim (some_or_none (row_claims first k given_hashes.now l i)) [
          | inl (v, claim) ↦
              let at = claims-one t first k given_hashes row none l i v claim in
              absurd (none-some ok.top_known.0 (sym nothing ∙ ap₂ K (at.0 ∙ sym none) (at.1 ∙ sym node) ∙ ok.top_known.1))
          | inr empty ↦ nothing ∙ sym empty ∙ sym (second_of_two (K l i) (row_claims first k given_hashes.now l i) nothing)
        ]
      ]

  -- leaves that are accepted keep the tree closed
  pub row-closed : IsClosed t (joined K (row_claims first k given_hashes.now))
  row-closed = elim (cases_lt 0 k) [ inl some ↦ many-closed some | inr none ↦ one-closed (omega (arith, none)) ]
