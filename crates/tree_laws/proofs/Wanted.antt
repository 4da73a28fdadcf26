-- What a client asks for next, and how the gaps fall.
use Rattle.std.proofs.Common.{◌≡◌, ◌≢◌, ◌⊎◌, ℕ, suc, ◌+◌, ◌-◌, ◌*◌, ◌/◌, ◌%◌, ◌^◌, ◌<◌, ◌≤◌, min, true, false, ltb, ◌&&◌, is_none, List, length, Option, Some}
use Rattle.std.proofs.Common.{None, inl, inr, refl, sym, ap, ◌∙◌, subst, arith, pow_pos, pow_mono, div-add-mod', mul-le-mul_right}
use Rattle.std.proofs.lemmas.Option.{none-some}
use Rattle.std.proofs.lemmas.Bool.{cases_lt, cases_Bool, false≢true, and_parts, and_from, and_right, ltb-true, lt-ltb}
use Rattle.std.proofs.lemmas.Nat.{shl-shr, mod_below, div_below, div-mul-add, mod-mul-add, le-div}
use Rattle.chains.proofs.Cases.{some_or_none}
use Rattle.wire.specs.declared.message.Ask.{Ask}
use Rattle.partial_tree.specs.TreeRoot.{TreeRoot, Fits}
use Rattle.node_maps.specs.Places.{tree_height, PartialTree, IsKnown, IsTreePlace}
use Rattle.node_maps.specs.Digest.{Hash}
use Rattle.hashtree.specs.Tree.{block_count, height, node}
use Rattle.partial_tree.specs.Closed.{Keeps, IsClosed, Collision, whole}
use Rattle.partial_tree.specs.Claims.{span, claims, joined, GoodRange, CanAnswer, IsAccepted, answer_of}
use Rattle.partial_tree.specs.Gaps.{window, is_missing, is_gap, gaps, want_ask}
use Rattle.hashtree.proofs.Heights.{height_enough, pow_split, height_pow}
use Rattle.partial_tree.proofs.Powers.{spans-some}
use Rattle.tree_laws.proofs.Whole.{whole-at, whole-closed}
use Rattle.partial_tree.proofs.ClaimValues.{first_of_two, second_of_two}
use Rattle.partial_tree.proofs.Claimed.{claimed-base, base-claims}
use Rattle.tree_laws.proofs.Answers.{answer-stored}
use Rattle.tree_laws.proofs.Gaps.{count-le, count-lt, count-one, count-none, count-zero, count-upto, some-from, some-where, some-none, some-same}

-- ---- the window

-- the window is a power of two, and the windows fill the leaves
pub window-pow : (len : ℕ) → window len ≡ 2 ^ min 9 (tree_height len)
window-pow len = elim (cases_lt (tree_height len) 9) [
  | inl low ↦
      let e : min 9 (tree_height len) ≡ tree_height len = omega arith in
      let le : 2 ^ tree_height len ≤ 2 ^ 9 = (let le' : tree_height len ≤ 9 = omega arith in pow_mono le') in
      let small : min 512 (2 ^ tree_height len) ≡ 2 ^ tree_height len = omega arith in
      small ∙ sym (ap (λ k. 2 ^ k) e)
  | inr high ↦
      let e : min 9 (tree_height len) ≡ 9 = omega arith in
      let le : 2 ^ 9 ≤ 2 ^ tree_height len = pow_mono high in
      let large : min 512 (2 ^ tree_height len) ≡ 2 ^ 9 = omega arith in
      large ∙ sym (ap (λ k. 2 ^ k) e)
]

pub windows-fill : (len : ℕ) → 2 ^ tree_height len / window len * window len ≡ 2 ^ tree_height len
windows-fill len =
    let m : ℕ = min 9 (tree_height len) in
    let le : min 9 (tree_height len) ≤ tree_height len = omega arith in
    let split : 2 ^ (tree_height len - m) * 2 ^ m ≡ 2 ^ tree_height len = pow_split (tree_height len) m le in
    let quotient : 2 ^ tree_height len / 2 ^ m ≡ 2 ^ (tree_height len - m) = ap (λ k. k / 2 ^ m) (sym split) ∙ shl-shr (2 ^ (tree_height len - m)) m in
    ap (λ w. 2 ^ tree_height len / w * w) (window-pow len) ∙ ap (λ q. q * 2 ^ m) quotient ∙ split

pub window-some : (len : ℕ) → 0 < window len
window-some len = subst (λ w. 0 < w) (sym (window-pow len)) (pow_pos (min 9 (tree_height len)))

-- a block's window is one of them
pub window-of : (len b : ℕ) → b < block_count len → b / window len < 2 ^ tree_height len / window len
window-of len b in' =
    let enough : block_count len ≤ 2 ^ tree_height len = height_enough (block_count len) in
    let fill : 2 ^ tree_height len / window len * window len ≡ 2 ^ tree_height len = windows-fill len in
    div_below b (window len) (2 ^ tree_height len / window len) (window-some len) (omega arith)

-- ---- missing leaves

pub missing-read : (len : ℕ) (K : PartialTree) (i : ℕ) → is_missing len K i ≡ true → (i < block_count len) × (K 0 i ≡ None)
missing-read len K i e =
    let both = and_parts (ltb i (block_count len)) (is_none (K 0 i)) e in
    (ltb-true i (block_count len) both.0, none_here (K 0 i) both.1)
  where
    none_here : (o : Option Hash) → is_none o ≡ true → o ≡ None
    none_here None e = refl
    none_here (Some x) e = absurd (false≢true e)

pub missing-from : (len : ℕ) (K : PartialTree) (i : ℕ) → i < block_count len → K 0 i ≡ None → is_missing len K i ≡ true
missing-from len K i in' e = and_from _ _ (lt-ltb i (block_count len) in') (ap (λ (o : Option Hash). is_none o) e)

pub known-not_missing : (len : ℕ) (K : PartialTree) (i : ℕ) → IsKnown K 0 i → is_missing len K i ≡ false
known-not_missing len K i (v, e) = and_right _ _ (ap (λ (o : Option Hash). is_none o) e)

-- ---- gaps

pub gap-of : (len : ℕ) (K : PartialTree) (b : ℕ) → b < block_count len → K 0 b ≡ None → is_gap len K (b / window len) ≡ true
gap-of len K b in' none =
    let w : 0 < window len = window-some len in
    let rest : b % window len < window len = mod_below b (window len) w in
    some-from (λ j. is_missing len K (b / window len * window len + j)) (window len) (b % window len) rest
    (ap (is_missing len K) (div-add-mod' b (window len)) ∙ missing-from len K b in' none)

pub gap-closed : (len : ℕ) (K : PartialTree) (r : ℕ) → ((j : ℕ) → j < window len → IsKnown K 0 (r * window len + j)) → is_gap len K r ≡ false
gap-closed len K r all = some-none _ (window len) (λ j in'. known-not_missing len K (r * window len + j) (all j in'))

-- what is lacking later was lacking before
missing-keeps : (len : ℕ) (K L : PartialTree) → Keeps K L → (i : ℕ) → is_missing len L i ≡ true → is_missing len K i ≡ true
missing-keeps len K L keeps i e =
    let (in', none) = missing-read len L i e in
    elim (some_or_none (K 0 i)) [
      | inl (v, known) ↦ absurd (none-some v (sym none ∙ keeps 0 i v known))
      | inr missing ↦ missing-from len K i in' missing
    ]

gap-keeps : (len : ℕ) (K L : PartialTree) → Keeps K L → (r : ℕ) → is_gap len L r ≡ true → is_gap len K r ≡ true
gap-keeps len K L keeps r e =
    let (j, in', at) = some-where (λ j. is_missing len L (r * window len + j)) (window len) e in
    some-from (λ j. is_missing len K (r * window len + j)) (window len) j in' (missing-keeps len K L keeps (r * window len + j) at)

-- the gaps never rise
pub gaps-fall : (len : ℕ) (K L : PartialTree) → Keeps K L → gaps len L ≤ gaps len K
unfolding gaps
gaps-fall len K L keeps = count-le (is_gap len L) (is_gap len K) (2 ^ tree_height len / window len) (λ r in' e. gap-keeps len K L keeps r e)

-- and are fewer where the window of a block with no known leaf is wholly known
pub gaps-fewer : (len : ℕ) (K L : PartialTree) (b : ℕ) → Keeps K L → b < block_count len → K 0 b ≡ None
    → ((j : ℕ) → j < window len → IsKnown L 0 (b / window len * window len + j)) → gaps len L < gaps len K
unfolding gaps
gaps-fewer len K L b keeps in' none all =
    count-lt (is_gap len L) (is_gap len K) (2 ^ tree_height len / window len) (b / window len) (λ r low e. gap-keeps len K L keeps r e)
    (window-of len b in') (gap-closed len L (b / window len) all) (gap-of len K b in' none)

-- by one, where nothing else is new among the leaves
pub gaps-one_fewer : (len : ℕ) (K L : PartialTree) (b : ℕ) → b < block_count len → K 0 b ≡ None
    → ((j : ℕ) → j < window len → IsKnown L 0 (b / window len * window len + j))
    → ((i : ℕ) → i / window len ≢ b / window len → L 0 i ≡ K 0 i) → gaps len L + 1 ≡ gaps len K
unfolding gaps
gaps-one_fewer len K L b in' none all same =
    count-one (is_gap len L) (is_gap len K) (2 ^ tree_height len / window len) (b / window len)
    (λ r low other. some-same _ _ (window len) (λ j j_low.
    ap (λ (o : Option Hash). ltb (r * window len + j) (block_count len) && is_none o)
    (same (r * window len + j) (λ e. other (sym (div-mul-add r (window len) j j_low) ∙ e)))))
    (window-of len b in') (gap-closed len L (b / window len) all) (gap-of len K b in' none)

-- there are at most as many as windows with a block
pub gaps-at_most : (len : ℕ) (K : PartialTree) → gaps len K ≤ (block_count len + window len - 1) / window len
unfolding gaps
gaps-at_most len K = count-upto (is_gap len K) (2 ^ tree_height len / window len) _ (λ r e.
    let (j, in', at) = some-where (λ j. is_missing len K (r * window len + j)) (window len) e in
    let (low, none) = missing-read len K (r * window len + j) at in
    let w : 0 < window len = window-some len in
    let more : suc r * window len ≡ r * window len + window len = omega arith in
    le-div (suc r) (block_count len + window len - 1) (window len) w (omega arith))

-- none is left exactly where every block's leaf is known
pub gaps-none : (len : ℕ) (K : PartialTree) → gaps len K ≡ 0 → (b : ℕ) → b < block_count len → IsKnown K 0 b
unfolding gaps
gaps-none len K e b in' = elim (some_or_none (K 0 b)) [
  | inl known ↦ known
  | inr none ↦ absurd (false≢true (sym (count-none (is_gap len K) (2 ^ tree_height len / window len) e (b / window len) (window-of len b in'))
      ∙ gap-of len K b in' none))
]

pub gaps-all_known : (len : ℕ) (K : PartialTree) → ((b : ℕ) → b < block_count len → IsKnown K 0 b) → gaps len K ≡ 0
unfolding gaps
gaps-all_known len K all = count-zero (is_gap len K) (2 ^ tree_height len / window len) (λ r low. elim (cases_Bool (is_gap len K r)) [
  | inl e ↦
      let (j, in', at) = some-where (λ j. is_missing len K (r * window len + j)) (window len) e in
      let (inside, none) = missing-read len K (r * window len + j) at in
      let (v, known) = all (r * window len + j) inside in
      absurd (none-some v (sym none ∙ known))
  | inr e ↦ e
])

-- ---- the true answer to what is wanted

-- a file that fits can answer each ask in range
pub whole-can_answer : (t : TreeRoot) (f : List ℕ) (ask : Ask) → Fits f t.length t.root → GoodRange (tree_height t.length) ask
    → CanAnswer (tree_height t.length) (whole f) ask
whole-can_answer t f ask fits range = record {
  range = range;
  base_known = λ j low.
      let same : tree_height t.length ≡ tree_height (length f) = ap tree_height (sym fits.same_length) in
      let at : IsTreePlace (tree_height t.length) ask.base (ask.index + j) = (range.base_inside, omega (arith, range.range_inside)) in
      (node f ask.base (ask.index + j), whole-at f ask.base (ask.index + j) (subst (λ h. IsTreePlace h ask.base (ask.index + j)) same at));
}

module _ (t : TreeRoot) (b : ℕ) (tall : 1 ≤ tree_height t.length) (in' : b < block_count t.length) where
  want-span : span (want_ask t b) ≡ min 9 (tree_height t.length)
  want-span = ap height (window-pow t.length) ∙ height_pow (min 9 (tree_height t.length))

  pub want-range : GoodRange (tree_height t.length) (want_ask t b)
  want-range =
      let w : ℕ = window t.length in
      let some' : 0 < window t.length = window-some t.length in
      let of' : b / window t.length < 2 ^ tree_height t.length / window t.length = window-of t.length b in' in
      let fill : 2 ^ tree_height t.length / window t.length * window t.length ≡ 2 ^ tree_height t.length = windows-fill t.length in
      let two : 2 ^ 1 ≤ 2 ^ tree_height t.length = pow_mono tall in
      let none : 2 ^ (tree_height t.length - 0) ≡ 2 ^ tree_height t.length = (let e : tree_height t.length - 0 ≡ tree_height t.length = omega arith in
      ap (λ k. 2 ^ k) e) in
      let rows : suc (b / window t.length) * window t.length ≤ 2 ^ tree_height t.length / window t.length * window t.length =
      mul-le-mul_right (window t.length) of' in
      record {
        power_of_two = ap (λ k. 2 ^ k) want-span ∙ sym (window-pow t.length);
        least = omega arith;
        most = omega arith;
        aligned = aligned_at (b / window t.length) (window t.length) some';
        base_inside = omega arith;
        range_inside = omega arith;
      }
    where
      aligned_at : (a w : ℕ) → 0 < w → a * w % w ≡ 0
      aligned_at a w h = let e : a * w ≡ a * w + 0 = omega arith in ap (λ k. k % w) e ∙ mod-mul-add a w 0 h

  -- the leaves of the window are known once the answer is accepted, and no other leaf is new
  module _ (K : PartialTree) (hashes : List Hash) (ok : IsAccepted t.length K (want_ask t b) hashes) where
    pub window-known : (j : ℕ) → j < window t.length → IsKnown (joined K (claims (want_ask t b) hashes)) 0 (b / window t.length * window t.length + j)
    window-known j low =
        let i : ℕ = b / window t.length * window t.length + j in
        let c = base-claims (want_ask t b) hashes (spans-some (tree_height t.length) (want_ask t b) ok.range) ok.range.power_of_two ok.range.aligned
        ok.count.enough i (omega arith) (omega arith) in
        elim (some_or_none (K 0 i)) [
          | inl (v, known) ↦ (v, first_of_two (K 0 i) _ v known)
          | inr none ↦ (c.0, second_of_two (K 0 i) _ none ∙ c.1)
        ]

    pub window-only : (i : ℕ) → i / window t.length ≢ b / window t.length → joined K (claims (want_ask t b) hashes) 0 i ≡ K 0 i
    window-only i other = elim (some_or_none (K 0 i)) [
      | inl (v, known) ↦ first_of_two (K 0 i) _ v known ∙ sym known
      | inr none ↦ elim (some_or_none (claims (want_ask t b) hashes 0 i)) [
        | inr nothing ↦ second_of_two (K 0 i) _ none ∙ nothing ∙ sym none
        | inl (v, claim) ↦
            let (low, high) = claimed-base (want_ask t b) hashes (spans-some (tree_height t.length) (want_ask t b) ok.range) ok.range.power_of_two
            ok.range.aligned ok.count.enough i v claim in
            let rest : i - b / window t.length * window t.length < window t.length = omega arith in
            let e : i ≡ b / window t.length * window t.length + (i - b / window t.length * window t.length) = omega arith in
            absurd (other (ap (λ k. k / window t.length) e ∙ div-mul-add (b / window t.length) (window t.length) (i - b / window t.length * window t.length)
            rest))
      ]
    ]

    -- one gap fewer
    pub want-one_fewer : K 0 b ≡ None → gaps t.length (joined K (claims (want_ask t b) hashes)) + 1 ≡ gaps t.length K
    want-one_fewer none = gaps-one_fewer t.length K (joined K (claims (want_ask t b) hashes)) b in' none window-known window-only

    -- fewer than at the ask, whatever was learnt since
    pub want-fewer : (before : PartialTree) → Keeps before K → before 0 b ≡ None
        → gaps t.length (joined K (claims (want_ask t b) hashes)) < gaps t.length before
    want-fewer before keeps none =
        gaps-fewer t.length before (joined K (claims (want_ask t b) hashes)) b
        (λ l i v e. first_of_two (K l i) _ v (keeps l i v e)) in' none window-known

  -- the true answer of a file that fits is accepted at any time, or a collision is named
  pub true_answer-accepted : (K : PartialTree) (f : List ℕ) → IsClosed t K → Fits f t.length t.root
      → IsAccepted t.length K (want_ask t b) (answer_of (tree_height t.length) (whole f) (want_ask t b)) ⊎ Collision (whole f) K
  true_answer-accepted K f closed fits =
      answer-stored t (whole f) K (want_ask t b) (whole-closed f t fits) closed
      (whole-can_answer t f (want_ask t b) fits want-range)
      (omega arith)
