-- The pads beside a file's end as they are put, row by row.
use Rattle.std.proofs.Common.{◌≡◌, ◌≢◌, ◌⊎◌, ℕ, zero, suc, ◌+◌, ◌-◌, ◌*◌, ◌/◌, ◌^◌, ◌<◌, ◌≤◌, Option, Some, None, inl, inr, refl, sym, ap, ap₂, ◌∙◌}
use Rattle.std.proofs.Common.{subst, arith, eq-or-lt_of_le}
use Rattle.std.specs.FinMap.{len as map_len}
use Rattle.std.specs.Option.{option_or}
use Rattle.std.proofs.lemmas.Bool.{cases_lt}
use Rattle.std.proofs.lemmas.Option.{none-some}
use Rattle.chains.proofs.Cases.{some_or_none}
use Rattle.hashtree.specs.Tree.{zero_hash}
use Rattle.node_maps.specs.Digest.{Hash}
use Rattle.node_maps.specs.Known.{Known, look}
use Rattle.node_maps.specs.Places.{tree_height, PartialTree, IsKnown}
use Rattle.node_maps.specs.Room.{Room, HasRoomFor, HasRoomInRow}
use Rattle.node_maps.specs.Runs.{AreKnown}
use Rattle.node_maps.proofs.Known.{or_none}
use Rattle.partial_tree.specs.declared.message.found.Claim.{Claim}
use Rattle.partial_tree.specs.Claims.{joined, HasNew, IsAgreed}
use Rattle.partial_tree.specs.Joins.{with_new, Joins}
use Rattle.partial_tree.proofs.ClaimValues.{either, first_of_two, second_of_two}
use Rattle.partial_tree.specs.EndPads.{last_node, pads_end, end_pads, AreEndPadsKnown}
use Rattle.partial_tree.specs.PadRows.{IsRowPut, AreLayersPut, ArePadsPut}
use Rattle.partial_tree.proofs.EndPads.{pad-read, pad-here}
use Rattle.partial_tree.proofs.Noting.{here_or_not, new-at, new-other}

-- ---- one row

pub row-begun : (layer first : ℕ) (hash : Hash) (K : PartialTree) → IsRowPut layer first 0 hash K K
row-begun layer first hash K = record {
  inside = λ i from to. absurd (omega (arith, from, to));
  elsewhere = λ l i out. refl;
}

module _ (layer first j : ℕ) (hash : Hash) (K : PartialTree) (m after : Known) (put : IsRowPut layer first j hash K (look m))
    (is : after ≡ with_new m (record { layer = layer; index = first + j; hash = hash })) where
  abbrev claim : Claim
  claim = record { layer = layer; index = first + j; hash = hash }

  here : (i : ℕ) → i ≡ first + j → look after layer i ≡ option_or (K layer i) (Some hash)
  here i at =
      let old : look m layer (first + j) ≡ K layer (first + j) = put.elsewhere layer (first + j) (λ same from to. omega (arith, to)) in
      ap (look after layer) at ∙ ap (λ k. look k layer (first + j)) is ∙ new-at m claim ∙ ap (λ o. option_or o (Some hash)) old
      ∙ ap (λ n. option_or (K layer n) (Some hash)) (sym at)

  beside : (l i : ℕ) → (l ≢ layer) ⊎ (i ≢ first + j) → look after l i ≡ look m l i
  beside l i other = ap (λ k. look k l i) is ∙ new-other m claim l i other

  pub row-more : IsRowPut layer first (j + 1) hash K (look after)
  row-more = record {
    inside = λ i from to. elim (cases_lt i (first + j)) [
      | inl low ↦ beside layer i (inr (λ at. omega (arith, at, low))) ∙ put.inside i from low
      | inr high ↦ here i (omega (arith, high, to))
    ];
    elsewhere = λ l i out. elim (here_or_not claim l i) [
      | inl (same, at) ↦ absurd (out same (omega (arith, at)) (omega (arith, at)))
      | inr other ↦ beside l i other ∙ put.elsewhere l i (λ same from to. out same from (omega (arith, to)))
    ];
  }

-- a place of a row is not known, or all are
pub missing : (f : ℕ → Option Hash) (first n : ℕ) → AreKnown f first n ⊎ ((j : ℕ) × (j < n) × (f (first + j) ≡ None))
missing f first zero = inl (λ j low. absurd (omega (arith, low)))
missing f first (suc n) = elim (missing f first n) [
  | inr (j, low, none) ↦ inr (j, omega (arith, low), none)
  | inl known ↦ elim (some_or_none (f (first + n))) [
    | inr none ↦ inr (n, omega arith, none)
    | inl (v, there) ↦ inl (λ j low. elim (cases_lt j n) [
      | inl less ↦ known j less
      | inr last ↦ let at : first + n ≡ first + j = omega (arith, last, low) in (v, ap f (sym at) ∙ there)
    ])
  ]
]

-- ---- all rows

module _ (len : ℕ) where
  pub pad-none : (l i : ℕ) → (l < tree_height len → last_node len l < i → i < pads_end len l → ⊥) → end_pads len l i ≡ None
  pad-none l i out = elim (some_or_none (end_pads len l i)) [
    | inl (v, is) ↦ (let (low, from, to, what) = pad-read len l i v is in absurd (out low from to))
    | inr none ↦ none
  ]

  -- a row in which all pads of a layer lie
  pub row-room : (room : Room) (l first count : ℕ) → l < tree_height len → first ≡ last_node len l + 1 → first + count ≡ pads_end len l
      → HasRoomFor (end_pads len) room → HasRoomInRow room l first count
  row-room room l first count low begin end' has i from to =
      has l i (zero_hash l, pad-here len l i low (omega (arith, begin, from)) (omega (arith, end', to)))

  pub row-unknown : (K : PartialTree) (l first count : ℕ) → l < tree_height len → first ≡ last_node len l + 1 → first + count ≡ pads_end len l
      → ¬ AreKnown (K l) first count → HasNew K (end_pads len)
  row-unknown K l first count low begin end' unknown = elim (missing (K l) first count) [
    | inl known ↦ absurd (unknown known)
    | inr (j, few, none) ↦ record {
      layer = l;
      index = first + j;
      value = zero_hash l;
      claimed = pad-here len l (first + j) low (omega (arith, begin)) (omega (arith, end', few));
      absent = none;
    }
  ]

  pub pad-in_row : (l i first count : ℕ) (v : Hash) → end_pads len l i ≡ Some v → first ≡ last_node len l + 1 → first + count ≡ pads_end len l
      → (first ≤ i) × (i < first + count)
  pad-in_row l i first count v is begin end' =
      let (low, from, to, what) = pad-read len l i v is in (omega (arith, begin, from), omega (arith, end', to))

  pub layers-begun : (K : PartialTree) → AreLayersPut len 0 K K
  layers-begun K = record { below = λ l i low. absurd (omega (arith, low)); elsewhere = λ l i from. refl }

  module _ (l first count : ℕ) (K A B : PartialTree) (low : l < tree_height len) (begin : first ≡ last_node len l + 1)
      (end' : first + count ≡ pads_end len l) (before : AreLayersPut len l K A) (put : IsRowPut l first count (zero_hash l) A B) where
    same-layer : (i : ℕ) → B l i ≡ joined K (end_pads len) l i
    same-layer i =
        let old : A l i ≡ K l i = before.elsewhere l i (omega arith) in
        elim (some_or_none (end_pads len l i)) [
          | inl (v, is) ↦
              let (low', from, to, what) = pad-read len l i v is in
              put.inside i (omega (arith, begin, from)) (omega (arith, end', to)) ∙ ap₂ option_or old (ap Some (sym what) ∙ sym is)
          | inr none ↦
              let out : l ≡ l → first ≤ i → i < first + count → ⊥ = λ same from to.
              none-some (zero_hash l) (sym none ∙ pad-here len l i low (omega (arith, begin, from)) (omega (arith, end', to))) in
              put.elsewhere l i out ∙ old ∙ sym (or_none (K l i) (end_pads len l i) none)
        ]

    pub layers-more : AreLayersPut len (l + 1) K B
    layers-more = record {
      below = λ k i less. elim (eq-or-lt_of_le (let to : k ≤ l = omega (arith, less) in to)) [
        | inl same ↦ ap (λ n. B n i) same ∙ same-layer i ∙ ap (λ n. joined K (end_pads len) n i) (sym same)
        | inr under ↦ put.elsewhere k i (λ same from to. omega (arith, same, under)) ∙ before.below k i under
      ];
      elsewhere = λ k i from. put.elsewhere k i (λ same _ _. omega (arith, same, from)) ∙ before.elsewhere k i (omega (arith, from));
    }

  pub layers-done : (top : ℕ) (K A : PartialTree) → tree_height len ≤ top → AreLayersPut len top K A → ArePadsPut len K A
  layers-done top K A all put l i = elim (cases_lt l top) [
    | inl low ↦ put.below l i low
    | inr high ↦
        let none : end_pads len l i ≡ None = pad-none l i (λ low from to. omega (arith, low, high, all)) in
        put.elsewhere l i high ∙ sym (or_none (K l i) (end_pads len l i) none)
  ]

-- ---- claims and then pads

or-or : (a b c : Option Hash) → option_or (option_or a b) c ≡ option_or a (option_or b c)
or-or None b c = refl
or-or (Some x) b c = refl

pub joined-twice : (K C P : PartialTree) (l i : ℕ) → joined (joined K C) P l i ≡ joined K (joined C P) l i
joined-twice K C P l i = or-or (K l i) (C l i) (P l i)

pub agreed-twice : (K C P : PartialTree) → IsAgreed K C → IsAgreed K P → IsAgreed K (joined C P)
agreed-twice K C P first second l i u v known claim = elim (either (C l i) (P l i) v claim) [
  | inl c ↦ first l i u v known c
  | inr p ↦ second l i u v known p.1
]

pub new-first : (K C P : PartialTree) → HasNew K C → HasNew K (joined C P)
new-first K C P new = record {
  layer = new.layer;
  index = new.index;
  value = new.value;
  claimed = first_of_two (C new.layer new.index) (P new.layer new.index) new.value new.claimed;
  absent = new.absent;
}

pub new-second : (K C P : PartialTree) → HasNew K P → HasNew K (joined C P)
new-second K C P new = elim (some_or_none (C new.layer new.index)) [
  | inl (v, claim) ↦ record {
    layer = new.layer;
    index = new.index;
    value = v;
    claimed = first_of_two (C new.layer new.index) (P new.layer new.index) v claim;
    absent = new.absent;
  }
  | inr none ↦ record {
    layer = new.layer;
    index = new.index;
    value = new.value;
    claimed = second_of_two (C new.layer new.index) (P new.layer new.index) none ∙ new.claimed;
    absent = new.absent;
  }
]

-- what is known already changes nothing
pub known-joined : (K P : PartialTree) → ((l i : ℕ) (v : Hash) → P l i ≡ Some v → IsKnown K l i) → (l i : ℕ) → K l i ≡ joined K P l i
known-joined K P known l i = elim (some_or_none (P l i)) [
  | inl (v, pad) ↦ (let u = known l i v pad in u.1 ∙ sym (first_of_two (K l i) (P l i) u.0 u.1))
  | inr none ↦ sym (or_none (K l i) (P l i) none)
]

pub joins-twice : (C P : PartialTree) (m between after : Known) (a b : ℕ) → Joins C m between a → IsAgreed (look m) P
    → ((l i : ℕ) → look after l i ≡ joined (look between) P l i) → map_len after ≡ map_len between + b → Joins (joined C P) m after (a + b)
joins-twice C P m between after a b first agreed put gained = record {
  agreed = agreed-twice (look m) C P first.agreed agreed;
  joined_is = λ l i. put l i ∙ ap (λ o. option_or o (P l i)) (first.joined_is l i) ∙ joined-twice (look m) C P l i;
  gained = omega (arith, gained, first.gained);
}
