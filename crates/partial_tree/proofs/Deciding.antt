-- Each message is accepted, or refused by one first refusal.
use Rattle.std.proofs.Common.{◌≡◌, ◌⊎◌, ℕ, zero, suc, ◌+◌, ◌-◌, ◌*◌, ◌/◌, ◌%◌, ◌^◌, ◌<◌, ◌≤◌, List, length, Some, inl, inr, sym, ◌∙◌, subst, arith, div-le_self}
use Rattle.std.proofs.lemmas.Option.{same_Some, none-some, slice_get_within}
use Rattle.std.proofs.lemmas.Bool.{cases_eq, cases_lt}
use Rattle.wire.specs.declared.message.Ask.{Ask}
use Rattle.partial_tree.specs.TreeRoot.{TreeRoot}
use Rattle.node_maps.specs.Places.{tree_height, PartialTree, IsKnown, IsTreePlace}
use Rattle.partial_tree.specs.declared.refusal.HashRefusal.{HashRefusal}
use Rattle.partial_tree.specs.declared.refusal.HashRefusal.TheVariants.{UnknownRoot, BadRange, BadCount, BadPad, Unanchored, Mismatch, NoMemory, Unasked}
use Rattle.node_maps.specs.Digest.{Hash}
use Rattle.hashtree.specs.Tree.{block_count, zero_hash}
use Rattle.partial_tree.specs.Claims.{span, cover, above, uncles, base_hash, uncle_hash, given, claims, top_layer, top_index, GoodRange, GoodCount, IsBadPad}
use Rattle.partial_tree.specs.Claims.{IsMismatch, IsAgreed, IsAccepted, Fault, Refuses}
use Rattle.partial_tree.specs.Names.{hash_refusal_number}
use Rattle.chains.proofs.Cases.{same_or_not, some_or_none}
use Rattle.partial_tree.proofs.ClaimValues.{either, base-read, uncle-read}

-- what holds of each number below n, or else a Q is found
pub each_below : (Q : Type 0) (P : ℕ → Type 0) (n : ℕ) → ((k : ℕ) → k < n → P k ⊎ Q) → ((k : ℕ) → k < n → P k) ⊎ Q
each_below Q P zero at = inl (λ k h. absurd (omega arith))
each_below Q P (suc n) at = both (each_below Q P n (λ k h. at k (omega arith))) (at n (omega arith))
  where
    both : ((k : ℕ) → k < n → P k) ⊎ Q → P n ⊎ Q → ((k : ℕ) → k < suc n → P k) ⊎ Q
    both (inr q) here = inr q
    both (inl below) (inr q) = inr q
    both (inl below) (inl last) = inl (λ k h. elim (cases_lt k n) [
      | inl less ↦ below k less
      | inr more ↦ let e : n ≡ k = omega arith in subst P e last
    ])

range_or_not : (h : ℕ) (ask : Ask) → GoodRange h ask ⊎ (¬ GoodRange h ask)
range_or_not h ask = elim (cases_eq (2 ^ span ask) ask.length) [
  | inr e ↦ inr (λ g. e g.power_of_two)
  | inl a ↦ elim (cases_lt ask.length 2) [
    | inl e ↦ inr (λ g. omega (arith, g.least))
    | inr b ↦ elim (cases_lt 8192 ask.length) [
      | inl e ↦ inr (λ g. omega (arith, g.most))
      | inr c ↦ elim (cases_eq (ask.index % ask.length) 0) [
        | inr e ↦ inr (λ g. e g.aligned)
        | inl d ↦ elim (cases_lt h ask.base) [
          | inl e ↦ inr (λ g. omega (arith, g.base_inside))
          | inr f ↦ elim (cases_lt (2 ^ (h - ask.base)) (ask.index + ask.length)) [
            | inl e ↦ inr (λ g. omega (arith, g.range_inside))
            | inr g ↦ inl (record { power_of_two = a; least = b; most = c; aligned = d; base_inside = f; range_inside = g })
          ]
        ]
      ]
    ]
  ]
]

count_or_not : (h : ℕ) (ask : Ask) (hashes : List Hash) → GoodCount h ask hashes ⊎ (¬ GoodCount h ask hashes)
count_or_not h ask hashes = elim (cases_lt (length hashes) ask.length) [
  | inl e ↦ inr (λ g. omega (arith, g.enough))
  | inr a ↦ elim (cases_lt ask.proof (uncles ask hashes)) [
    | inl e ↦ inr (λ g. omega (arith, g.asked))
    | inr b ↦ elim (cases_lt h (top_layer ask hashes)) [
      | inl e ↦ inr (λ g. omega (arith, g.top_inside))
      | inr c ↦ inl (record { enough = a; asked = b; top_inside = c })
    ]
  ]
]

-- given places stand below these bounds
given-bounded : (ask : Ask) (hashes : List Hash) (l i : ℕ) (v : Hash) → given ask hashes l i ≡ Some v
    → (l < suc (top_layer ask hashes)) × (i < ask.index + ask.length + 2)
given-bounded ask hashes l i v e = elim (either (base_hash ask hashes l i) (uncle_hash ask hashes l i) v e) [
  | inl b ↦ let (at, low, high, got) = base-read ask hashes l i v b in (omega arith, omega arith)
  | inr (none, u) ↦
      let (from, at, got) = uncle-read ask hashes l i v u in
      let inside : ask.length + (l - cover ask) < length hashes = slice_get_within hashes (ask.length + (l - cover ask)) v got in
      let small : above ask l ≤ ask.index = quotient_le ask.index (2 ^ (l - ask.base)) in
      (omega arith, omega arith)
]
  where
    quotient_le : (n w : ℕ) → n / w ≤ n
    quotient_le n w = div-le_self n w

module _ (len : ℕ) (ask : Ask) (hashes : List Hash) where
  RightPad : ℕ → ℕ → Type 0
  RightPad l i = (v : Hash) → given ask hashes l i ≡ Some v → block_count len ≤ i * 2 ^ l → v ≡ zero_hash l

  pad_at : (l i : ℕ) → RightPad l i ⊎ IsBadPad len ask hashes
  unfolding RightPad
  pad_at l i = elim (some_or_none (given ask hashes l i)) [
    | inr none ↦ inl (λ v e past. absurd (none-some v (sym none ∙ e)))
    | inl (w, is) ↦ elim (cases_lt (i * 2 ^ l) (block_count len)) [
      | inl inside ↦ inl (λ v e past. absurd (omega arith))
      | inr past ↦ elim (same_or_not w (zero_hash l)) [
        | inl right ↦ inl (λ v e past. same_Some v w (sym e ∙ is) ∙ right)
        | inr wrong ↦ inr (record { layer = l; index = i; value = w; is_given = is; past = past; differ = wrong })
      ]
    ]
  ]

  pub pads_or_not : ((l i : ℕ) (v : Hash) → given ask hashes l i ≡ Some v → block_count len ≤ i * 2 ^ l → v ≡ zero_hash l) ⊎ IsBadPad len ask hashes
  unfolding RightPad
  pads_or_not =
      elim (each_below (IsBadPad len ask hashes) (λ l. (i : ℕ) → i < ask.index + ask.length + 2 → RightPad l i) (suc (top_layer ask hashes))
      (λ l low. each_below (IsBadPad len ask hashes) (RightPad l) (ask.index + ask.length + 2) (λ i low'. pad_at l i))) [
        | inl all ↦ inl (λ l i v e past. let bound = given-bounded ask hashes l i v e in all l bound.0 i bound.1 v e past)
        | inr bad ↦ inr bad
      ]

module _ (h : ℕ) (K C : PartialTree) (inside : (l i : ℕ) (v : Hash) → K l i ≡ Some v → IsTreePlace h l i) where
  SameValue : ℕ → ℕ → Type 0
  SameValue l i = (u v : Hash) → K l i ≡ Some u → C l i ≡ Some v → u ≡ v

  same_value_at : (l i : ℕ) → SameValue l i ⊎ IsMismatch K C
  unfolding SameValue
  same_value_at l i = elim (some_or_none (K l i)) [
    | inr none ↦ inl (λ u v p q. absurd (none-some u (sym none ∙ p)))
    | inl (a, in_K) ↦ elim (some_or_none (C l i)) [
      | inr none ↦ inl (λ u v p q. absurd (none-some v (sym none ∙ q)))
      | inl (b, in_C) ↦ elim (same_or_not a b) [
        | inl same ↦ inl (λ u v p q. same_Some u a (sym p ∙ in_K) ∙ same ∙ same_Some b v (sym in_C ∙ q))
        | inr other ↦ inr (record { layer = l; index = i; in_J = a; in_K = b; J_known = in_K; K_known = in_C; differ = other })
      ]
    ]
  ]

  agreed_or_not : IsAgreed K C ⊎ IsMismatch K C
  unfolding SameValue
  agreed_or_not =
      elim (each_below (IsMismatch K C) (λ l. (i : ℕ) → i < 2 ^ (h - l) → SameValue l i) (suc h)
      (λ l low. each_below (IsMismatch K C) (SameValue l) (2 ^ (h - l)) (λ i low'. same_value_at l i))) [
        | inl all ↦ inl (λ l i u v p q. let at : IsTreePlace h l i = inside l i u p in all l (omega (arith, at.0)) i at.1 u v p q)
        | inr bad ↦ inr bad
      ]

module _ (t : TreeRoot) (K : PartialTree) (ask : Ask) (hashes : List Hash) where
  abbrev pub Before : HashRefusal → Type 0
  Before r = (s : HashRefusal) → hash_refusal_number s < hash_refusal_number r → ¬ Fault t.length K ask hashes s

  abbrev pub Pads : Type 0
  Pads = (l i : ℕ) (v : Hash) → given ask hashes l i ≡ Some v → block_count t.length ≤ i * 2 ^ l → v ≡ zero_hash l

  -- no test before the n-th finds a fault, where what these tests ask for is so
  no_fault : (n : ℕ) → n ≤ hash_refusal_number Mismatch → (hash_refusal_number BadRange < n → GoodRange (tree_height t.length) ask)
      → (hash_refusal_number BadCount < n → GoodCount (tree_height t.length) ask hashes) → (hash_refusal_number BadPad < n → Pads)
      → (hash_refusal_number Unanchored < n → IsKnown K (top_layer ask hashes) (top_index ask hashes))
      → (s : HashRefusal) → hash_refusal_number s < n → ¬ Fault t.length K ask hashes s
  no_fault n last range count pads top UnknownRoot low f = f
  no_fault n last range count pads top BadRange low f = f (range low)
  no_fault n last range count pads top BadCount low f = f (count low)
  no_fault n last range count pads top BadPad low f = f.differ (pads low f.layer f.index f.value f.is_given f.past)
  no_fault n last range count pads top Unanchored low f = let known = top low in none-some known.0 (sym f ∙ known.1)
  no_fault n last range count pads top NoMemory low f = f
  no_fault n last range count pads top Unasked low f = f
  no_fault n last range count pads top Mismatch low f = omega (arith, low, last)

  first_range : Before BadRange
  first_range = no_fault (hash_refusal_number BadRange) (omega arith) (λ low. absurd (omega (arith, low))) (λ low. absurd (omega (arith, low)))
      (λ low. absurd (omega (arith, low))) (λ low. absurd (omega (arith, low)))

  first_count : GoodRange (tree_height t.length) ask → Before BadCount
  first_count range = no_fault (hash_refusal_number BadCount) (omega arith) (λ _. range) (λ low. absurd (omega (arith, low)))
      (λ low. absurd (omega (arith, low))) (λ low. absurd (omega (arith, low)))

  first_pad : GoodRange (tree_height t.length) ask → GoodCount (tree_height t.length) ask hashes → Before BadPad
  first_pad range count = no_fault (hash_refusal_number BadPad) (omega arith) (λ _. range) (λ _. count) (λ low. absurd (omega (arith, low)))
      (λ low. absurd (omega (arith, low)))

  first_anchor : GoodRange (tree_height t.length) ask → GoodCount (tree_height t.length) ask hashes → Pads → Before Unanchored
  first_anchor range count pads = no_fault (hash_refusal_number Unanchored) (omega arith) (λ _. range) (λ _. count) (λ _. pads)
      (λ low. absurd (omega (arith, low)))

  pub first_mismatch : GoodRange (tree_height t.length) ask → GoodCount (tree_height t.length) ask hashes → Pads
      → IsKnown K (top_layer ask hashes) (top_index ask hashes) → Before Mismatch
  first_mismatch range count pads top =
      no_fault (hash_refusal_number Mismatch) (omega arith) (λ _. range) (λ _. count) (λ _. pads) (λ _. top)

  -- a message for a tree whose known places are finite is accepted, or one refusal is the first
  pub accepted_or_refused : ((l i : ℕ) (v : Hash) → K l i ≡ Some v → IsTreePlace (tree_height t.length) l i) → IsAccepted t.length K ask hashes
      ⊎ ((r : HashRefusal) × Refuses t.length K ask hashes r)
  accepted_or_refused inside = elim (range_or_not (tree_height t.length) ask) [
    | inr no_range ↦ inr (BadRange, record { fault = no_range; first = first_range })
    | inl range ↦ elim (count_or_not (tree_height t.length) ask hashes) [
      | inr no_count ↦ inr (BadCount, record { fault = no_count; first = first_count range })
      | inl count ↦ elim (pads_or_not t.length ask hashes) [
        | inr bad ↦ inr (BadPad, record { fault = bad; first = first_pad range count })
        | inl pads ↦ elim (some_or_none (K (top_layer ask hashes) (top_index ask hashes))) [
          | inr none ↦ inr (Unanchored, record { fault = none; first = first_anchor range count pads })
          | inl top ↦ elim (agreed_or_not (tree_height t.length) K (claims ask hashes) inside) [
            | inr bad ↦ inr (Mismatch, record { fault = bad; first = first_mismatch range count pads top })
            | inl agreed ↦ inl (record { range = range; count = count; pads = pads; top_known = top; agrees = agreed })
          ]
        ]
      ]
    ]
  ]
