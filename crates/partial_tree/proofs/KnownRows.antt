-- Leaves under a known node that are all known, and what is new where they are not.
use Rattle.std.proofs.Common.{◌≡◌, ℕ, zero, suc, ◌+◌, ◌-◌, ◌*◌, ◌/◌, ◌^◌, ◌<◌, ◌≤◌, List, [], length, get_or, replicate, Some, inl, inr, refl, sym, ap}
use Rattle.std.proofs.Common.{ap₂, ◌∙◌, subst, arith}
use Rattle.std.specs.Borrow.{Bor}
use Rattle.std.proofs.lemmas.Option.{same_Some, none-some, slice_get_within, get_or_from_slice_get}
use Rattle.std.proofs.lemmas.Bool.{cases_lt}
use Rattle.std.proofs.lemmas.List.{get_or_append_left, get_or-append_right, get_or-replicate}
use Rattle.chains.proofs.Cases.{some_or_none}
use Rattle.partial_tree.specs.TreeRoot.{TreeRoot}
use Rattle.node_maps.specs.Places.{PartialTree, IsKnown}
use Rattle.node_maps.specs.Digest.{Hash, join}
use Rattle.node_maps.specs.Known.{Known, look}
use Rattle.hashtree.specs.Tree.{block_count, zero_hash}
use Rattle.partial_tree.specs.Closed.{IsClosed, IsFamily}
use Rattle.partial_tree.specs.Claims.{cover, given, base_hash, uncle_hash, joined}
use Rattle.partial_tree.specs.LeafRows.{row_ask, padded_leaves, row_claims, row_pads, row_joins, AreRowPadsKnown, IsLeafRow, TakesRow}
use Rattle.partial_tree.specs.Joins.{Joins}
use Rattle.partial_tree.specs.Claims.{IsAgreed, HasNew}
use Rattle.node_maps.specs.Runs.{AreKnown}
use Rattle.std.proofs.Common.{◌⊎◌, Option, None}
use Rattle.partial_tree.proofs.ClaimValues.{either, first_of_two, second_of_two, base-read, uncle-read, claims-read, claims-zero}
use Rattle.partial_tree.proofs.LeafRows.{row-leads, row-claimed, full}
use Rattle.partial_tree.proofs.PadRows.{missing, joins-twice, known-joined, new-first}
use Rattle.partial_tree.proofs.RowPads.{row_pads-agree}

-- ---- a row whose leaves are all known, with their values, says nothing new

module _ (t : TreeRoot) (K : PartialTree) (closed : IsClosed t K) (first k : ℕ) (hashes : Bor (List Hash))
    (row : IsLeafRow t.length first k (length hashes.now))
    (same : (i : ℕ) (v : Hash) → row_claims first k hashes.now 0 i ≡ Some v → K 0 i ≡ Some v) where
  -- each claim is known
  pub claim-known : (l i : ℕ) (v : Hash) → row_claims first k hashes.now l i ≡ Some v → K l i ≡ Some v
  claim-known zero i v e = same i v e
  claim-known (suc l) i v e = elim (claims-read (row_ask first k) (padded_leaves k hashes.now) l i v e) [
    | inl g ↦ absurd (given-low l i v g)
    | inr (absent, (a, b, p, q, w)) ↦
        let left : K l (2 * i) ≡ Some a = claim-known l (2 * i) a p in
        let right : K l (2 * i + 1) ≡ Some b = claim-known l (2 * i + 1) b q in
        let up : suc l ≤ k = ((row-leads t first k hashes row).under_top (suc l) i v e).0 in
        let half : 2 * i / 2 ≡ i = omega arith in
        let fam : IsFamily K l i = subst (IsFamily K l) half (closed.families l (2 * i) a left (omega (arith, up, row.span_inside))) in
        fam.parent_known
        ∙ ap Some (ap₂ join (same_Some fam.left a (sym fam.left_known ∙ left)) (same_Some fam.right b (sym fam.right_known ∙ right)) ∙ sym w)
  ]
    where
      given-low : (l i : ℕ) (v : Hash) → given (row_ask first k) (padded_leaves k hashes.now) (suc l) i ≡ Some v → ⊥
      given-low l i v g = elim (either (base_hash (row_ask first k) (padded_leaves k hashes.now) (suc l) i)
          (uncle_hash (row_ask first k) (padded_leaves k hashes.now) (suc l) i) v g) [
            | inl b ↦ (let (at, low, high, got) = base-read (row_ask first k) (padded_leaves k hashes.now) (suc l) i v b in omega (arith, at))
            | inr (absent, u) ↦
                let (from, at, got) = uncle-read (row_ask first k) (padded_leaves k hashes.now) (suc l) i v u in
                let within' : (row_ask first k).length + (suc l - cover (row_ask first k)) < length (padded_leaves k hashes.now) =
                slice_get_within (padded_leaves k hashes.now) ((row_ask first k).length + (suc l - cover (row_ask first k))) v got in
                omega (arith, within', full t first k hashes row)
          ]

  pub known-agrees : IsAgreed K (row_claims first k hashes.now)
  known-agrees l i u v p q = same_Some u v (sym p ∙ claim-known l i v q)

  known-stays : (l i : ℕ) → K l i ≡ joined K (row_claims first k hashes.now) l i
  known-stays l i = elim (some_or_none (K l i)) [
    | inl (v, known) ↦ known ∙ sym (first_of_two (K l i) (row_claims first k hashes.now l i) v known)
    | inr nothing ↦ elim (some_or_none (row_claims first k hashes.now l i)) [
      | inl (v, claim) ↦ absurd (none-some v (sym nothing ∙ claim-known l i v claim))
      | inr empty ↦ nothing ∙ sym empty ∙ sym (second_of_two (K l i) (row_claims first k hashes.now l i) nothing)
    ]
  ]

-- so it is taken with nothing more
pub known-row : (t : TreeRoot) (m : Known) → IsClosed t (look m) → (first k : ℕ) (hashes : Bor (List Hash))
    (row : IsLeafRow t.length first k (length hashes.now))
    → IsKnown (look m) k (first / 2 ^ k) → AreRowPadsKnown t.length (look m) first k
    → ((i : ℕ) (v : Hash) → row_claims first k hashes.now 0 i ≡ Some v → look m 0 i ≡ Some v)
    → TakesRow t.length first k hashes.now m 0 m
known-row t m closed first k hashes row top pads same =
    let agrees : IsAgreed (look m) (row_claims first k hashes.now) = known-agrees t (look m) closed first k hashes row same in
    let claims : Joins (row_claims first k hashes.now) m m 0 =
    record { agreed = agrees; joined_is = known-stays t (look m) closed first k hashes row same; gained = omega arith } in (
      record { top_known = top; agrees = agrees },
      joins-twice (row_claims first k hashes.now) (row_pads t.length first k) m m m 0 0 claims (row_pads-agree t (look m) closed first k)
          (known-joined (look m) (row_pads t.length first k) pads) (omega arith),
    )

-- what a leaf claim of a row is: a given leaf, or a pad
pub leaf-claim : (t : TreeRoot) (first k : ℕ) (hashes : Bor (List Hash)) → IsLeafRow t.length first k (length hashes.now) → (i : ℕ) (v : Hash)
    → row_claims first k hashes.now 0 i ≡ Some v → (j : ℕ) × (first + j ≡ i) × (j < 2 ^ k)
    × (((j < length hashes.now) × (get_or hashes.now j [] ≡ v)) ⊎ ((block_count t.length ≤ i) × (v ≡ zero_hash 0)))
leaf-claim t first k hashes row i v e =
    elim (either (base_hash (row_ask first k) (padded_leaves k hashes.now) 0 i) (uncle_hash (row_ask first k) (padded_leaves k hashes.now) 0 i) v
    (sym (claims-zero (row_ask first k) (padded_leaves k hashes.now) i) ∙ e)) [
      | inl b ↦
          let (at, from, low, got) = base-read (row_ask first k) (padded_leaves k hashes.now) 0 i v b in
          let is : get_or (padded_leaves k hashes.now) (i - first) [] ≡ v = get_or_from_slice_get (padded_leaves k hashes.now) (i - first) v [] got in (
            i - first,
            omega (arith, from),
            omega (arith, from, low),
            elim (cases_lt (i - first) (length hashes.now)) [
              | inl there ↦ inl (there, sym (get_or_append_left hashes.now (replicate (2 ^ k - length hashes.now) (zero_hash 0)) [] (i - first) there) ∙ is)
              | inr past ↦
                  let inside : i - first - length hashes.now < 2 ^ k - length hashes.now = omega (arith, past, low, from) in
                  inr (
                    omega (arith, past, row.count_is, from, low),
                    sym is ∙ get_or-append_right hashes.now (replicate (2 ^ k - length hashes.now) (zero_hash 0)) (length hashes.now) (i - first) [] refl past
                        ∙ get_or-replicate (2 ^ k - length hashes.now) (i - first - length hashes.now) (zero_hash 0) [] inside,
                  )
            ],
          )
      | inr (absent, u) ↦
          let (from, at, got) = uncle-read (row_ask first k) (padded_leaves k hashes.now) 0 i v u in
          let within' : (row_ask first k).length + (0 - cover (row_ask first k)) < length (padded_leaves k hashes.now) =
          slice_get_within (padded_leaves k hashes.now) ((row_ask first k).length + (0 - cover (row_ask first k))) v got in
          absurd (omega (arith, within', full t first k hashes row))
    ]

pub row-new : (t : TreeRoot) (K : PartialTree) (first k : ℕ) (hashes : Bor (List Hash)) → IsLeafRow t.length first k (length hashes.now)
    → ¬ AreKnown (K 0) first (2 ^ k) → HasNew K (row_joins t.length first k hashes.now)
row-new t K first k hashes row unknown = elim (missing (K 0) first (2 ^ k)) [
  | inl known ↦ absurd (unknown known)
  | inr (j, low, none) ↦
      let v = row-claimed t first k hashes row j low in
      new-first K (row_claims first k hashes.now) (row_pads t.length first k)
      (record { layer = 0; index = first + j; value = v.0; claimed = v.1; absent = none })
]
