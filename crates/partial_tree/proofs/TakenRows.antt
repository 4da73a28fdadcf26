-- What follows of leaves under a known node that were taken or refused.
use Rattle.std.proofs.Common.{◌≡◌, ℕ, suc, ◌+◌, ◌-◌, ◌/◌, ◌^◌, ◌<◌, ◌≤◌, List, [], length, get_or, replicate, Some, inl, inr, refl, sym, ap}
use Rattle.std.proofs.Common.{Result, Ok, Err, ◌∙◌, subst, arith}
use Rattle.std.specs.Borrow.{Bor}
use Rattle.std.specs.FinMap.{len}
use Rattle.std.specs.List.{All}
use Rattle.std.proofs.lemmas.Option.{slice_get-get_or}
use Rattle.std.proofs.lemmas.Bool.{and_from, eq-eqb, le-leb, lt-ltb, cond-true}
use Rattle.std.proofs.lemmas.List.{get_or_append_left}
use Rattle.chains.proofs.Cases.{some_or_none}
use Rattle.partial_tree.specs.declared.message.evidence.Evidence.{Evidence}
use Rattle.partial_tree.specs.TreeRoot.{TreeRoot}
use Rattle.node_maps.specs.Places.{tree_height, PartialTree, IsKnown}
use Rattle.node_maps.specs.Digest.{Hash, IsHash}
use Rattle.node_maps.specs.Known.{Known, look}
use Rattle.node_maps.proofs.Known.{len-known}
use Rattle.hashtree.specs.Tree.{block_count, zero_hash}
use Rattle.hashtree.proofs.Heights.{height_enough}
use Rattle.partial_tree.specs.Closed.{IsClosed}
use Rattle.partial_tree.specs.LeafRows.{row_ask, padded_leaves, row_claims, row_pads, row_joins, IsLeafRow, IsRowAccepted, RowRefuses, TakesRow, piece_refusal}
use Rattle.partial_tree.specs.Joins.{Joins}
use Rattle.std.specs.Prelude.{slice_get}
use Rattle.partial_tree.specs.Evidence.{claimed_by, EndFault}
use Rattle.partial_tree.specs.Claims.{joined}
use Rattle.partial_tree.proofs.PaddedRows.{row_joins-closed}
use Rattle.partial_tree.specs.declared.refusal.HashRefusal.{HashRefusal}
use Rattle.partial_tree.specs.declared.refusal.HashRefusal.TheVariants.{UnknownRoot, BadRange, BadCount, BadPad, Unanchored, Mismatch, NoMemory, Unasked}
use Rattle.std.specs.Result.{IfOk}
use Rattle.partial_tree.proofs.Ranges.{pow_more}
use Rattle.partial_tree.proofs.ClaimValues.{first_of_two, second_of_two, claims-given}
use Rattle.partial_tree.proofs.Keeping.{good_joined}
use Rattle.partial_tree.specs.Kept.{KeptTree, info_of, IsGoodTree}
use Rattle.partial_tree.specs.LeafRows.{TreeTakesRow, tree_with_leaf_marked}
use Rattle.std.specs.FinSet as set
use Rattle.std.specs.Ordering.{nat_cmp, eq_by_cmp}
use Rattle.std.specs.Cmp.{nat_cmp_total}
use Rattle.std.proofs.lemmas.Bool.{or_cases, eqb-true}
use Rattle.std.proofs.Common.{true}
use Rattle.node_maps.proofs.Known.{nat_equal}
use Rattle.partial_tree.proofs.LeafRows.{row-claimed, short, full}

-- what is known after leaves that are accepted is bounded by the tree
pub row-len : (t : TreeRoot) (before after : Known) (first k : ℕ) (hashes : Bor (List Hash)) (c : ℕ) → IsLeafRow t.length first k (length hashes.now)
    → IsClosed t (look before) → All IsHash hashes.now → IsRowAccepted (look before) first k hashes.now
    → Joins (row_joins t.length first k hashes.now) before after c → len before + c < 2 ^ suc (tree_height t.length)
row-len t before after first k hashes c row closed all ok joins =
    subst (λ n. n < 2 ^ suc (tree_height t.length)) joins.gained
    (len-known (tree_height t.length) after (λ l i v e. (row_joins-closed t (look before) first k hashes row closed all ok).in_tree l i v
    (sym (joins.joined_is l i) ∙ e)))

-- ---- what storing leaves, from the evidence to the row

abbrev pub evidence_with : ℕ → ℕ → Bor (List Hash) → Hash → Evidence
evidence_with first k hashes pad = record { base = 0; index = first; span = k; hashes = hashes; pad = pad }

module _ (len first k : ℕ) (hashes : Bor (List Hash)) (pad : Hash) (is_pad : pad ≡ zero_hash 0) (before : Known)
    (top : IsKnown (look before) k (first / 2 ^ k)) where
  claims_row : claimed_by (evidence_with first k hashes pad) ≡ row_claims first k hashes.now
  claims_row = ap (λ p. claimed_by (evidence_with first k hashes p)) is_pad

  pub row-taken : (after : Known) (r : Result ℕ HashRefusal)
      → IfOk r (λ c. Joins (joined (claimed_by (evidence_with first k hashes pad)) (row_pads len first k)) before after c)
      → IfOk r (λ c. TakesRow len first k hashes.now before c after)
  row-taken after (Ok c) joins =
      let moved : Joins (row_joins len first k hashes.now) before after c =
      subst (λ (C : PartialTree). Joins (joined C (row_pads len first k)) before after c) claims_row joins in (
        record {
          top_known = top;
          agrees = λ l i u v known claim. moved.agreed l i u v known (first_of_two (row_claims first k hashes.now l i) (row_pads len first k l i) v claim);
        },
        moved,
      )
  row-taken after (Err r) joins = tt

  pub row-refused : (r : HashRefusal) → EndFault (look before) (claimed_by (evidence_with first k hashes pad)) (row_pads len first k) r
      → RowRefuses len (look before) first k hashes.now (piece_refusal r)
  row-refused NoMemory f =
      let moved : EndFault (look before) (row_claims first k hashes.now) (row_pads len first k) NoMemory =
      subst (λ (C : PartialTree). EndFault (look before) C (row_pads len first k) NoMemory) claims_row f in
      (record { top_known = top; agrees = moved.0 }, moved.1)
  row-refused Mismatch f = (top, subst (λ (C : PartialTree). EndFault (look before) C (row_pads len first k) Mismatch) claims_row f)
  row-refused UnknownRoot f = absurd f
  row-refused BadRange f = absurd f
  row-refused BadCount f = absurd f
  row-refused BadPad f = absurd f
  row-refused Unanchored f = absurd f
  row-refused Unasked f = absurd f

-- ---- a tree that takes a row, or has a leaf marked, stays good

pub good_row : (a b : KeptTree) (first k : ℕ) (hashes : Bor (List Hash)) (c : ℕ) → IsLeafRow a.length first k (length hashes.now) → IsGoodTree a
    → All IsHash hashes.now → TreeTakesRow a first k hashes.now c b → IsGoodTree b
good_row a b first k hashes c row good all ((ok, joins), rest) =
    good_joined a b (row_joins a.length first k hashes.now) c good
    (row_joins-closed (info_of a) (look a.state.known) first k hashes row good.closed all ok) (joins, rest)

leaf-stays : (t : KeptTree) (b i : ℕ) → IsGoodTree t → IsKnown (look t.state.known) 0 b → set.contains (set.insert t.state.marked b) i ≡ true
    → IsKnown (look t.state.known) 0 i
leaf-stays t b i good known e =
    elim (or_cases (eq_by_cmp nat_cmp i b) (set.contains t.state.marked i) (sym (set.contains-insert nat_cmp_total t.state.marked b i) ∙ e)) [
      | inl here ↦ let same : i ≡ b = eqb-true i b (sym (nat_equal i b) ∙ here) in (known.0, ap (look t.state.known 0) same ∙ known.1)
      | inr before ↦ good.marks i before
    ]

pub good_leaf : (t : KeptTree) (b : ℕ) → IsGoodTree t → IsKnown (look t.state.known) 0 b → IsGoodTree (tree_with_leaf_marked t b)
good_leaf t b good known = record { closed = good.closed; marks = λ i e. leaf-stays t b i good known e }

-- the leaves of a row that was taken are known
pub row-knows : (t : TreeRoot) (first k : ℕ) (hashes : Bor (List Hash)) → IsLeafRow t.length first k (length hashes.now) → (before after : Known) (c : ℕ)
    → TakesRow t.length first k hashes.now before c after → (j : ℕ) → j < 2 ^ k → IsKnown (look after) 0 (first + j)
row-knows t first k hashes row before after c (ok, joins) j low =
    let claim = row-claimed t first k hashes row j low in
    elim (some_or_none (look before 0 (first + j))) [
      | inl (u, known) ↦ (
        u,
        joins.joined_is 0 (first + j)
            ∙ first_of_two (look before 0 (first + j)) (row_joins t.length first k hashes.now 0 (first + j)) u known,
      )
      | inr none ↦ (
        claim.0,
        joins.joined_is 0 (first + j) ∙ second_of_two (look before 0 (first + j)) (row_joins t.length first k hashes.now 0 (first + j)) none
            ∙ first_of_two (row_claims first k hashes.now 0 (first + j)) (row_pads t.length first k 0 (first + j)) claim.0 claim.1,
      )
    ]

-- the blocks of a row can be counted
pub row-small : (len first k : ℕ) (hashes : List Hash) → IsLeafRow len first k (length hashes) → tree_height len ≤ 32 → first + length hashes ≤ 2 ^ 32
row-small len first k hashes row low =
    let enough : block_count len ≤ 2 ^ tree_height len = height_enough (block_count len) in
    let wide : 2 ^ tree_height len ≤ 2 ^ 32 = pow_more (tree_height len) 32 low in
    omega (arith, enough, wide, row.some, row.count_is)

-- the claim of a block's leaf
pub claimed-leaf : (t : TreeRoot) (first k : ℕ) (hashes : Bor (List Hash)) → IsLeafRow t.length first k (length hashes.now) → (j : ℕ) → j < length hashes.now
    → row_claims first k hashes.now 0 (first + j) ≡ Some (get_or hashes.now j [])
claimed-leaf t first k hashes row j low =
    let wide : j < 2 ^ k = omega (arith, low, short t first k hashes row) in
    let back : first + j - first ≡ j = omega arith in
    let there : slice_get (padded_leaves k hashes.now) (first + j - first) ≡ Some (get_or hashes.now j []) =
    ap (slice_get (padded_leaves k hashes.now)) back
    ∙ slice_get-get_or (padded_leaves k hashes.now) j [] (omega (arith, wide, full t first k hashes row))
    ∙ ap Some (get_or_append_left hashes.now (replicate (2 ^ k - length hashes.now) (zero_hash 0)) [] j low) in
    claims-given (row_ask first k) (padded_leaves k hashes.now) 0 (first + j) (get_or hashes.now j [])
    (first_of_two _ _ _ (cond-true _ _ _ (and_from _ _ (eq-eqb 0 0 refl)
    (and_from _ _ (le-leb first (first + j) (omega arith)) (lt-ltb (first + j) (first + 2 ^ k) (omega (arith, wide)))))
    ∙ there))
