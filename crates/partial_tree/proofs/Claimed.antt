-- Which places a message claims: those under the node that covers its base range, the nodes above
-- it up to the top, and their siblings below the top. Each but the top stands with its sibling, and
-- the parent has the join of the two.
use Rattle.std.proofs.Common.{◌≡◌, ◌⊎◌, ℕ, zero, suc, ◌+◌, ◌-◌, ◌*◌, ◌/◌, ◌%◌, ◌^◌, ◌<◌, ◌≤◌, false, eqb, leb, ◌&&◌, List, length}
use Rattle.std.proofs.Common.{get_or, Some, None, inl, inr, sym, ap, ◌∙◌, subst, arith, shr-shr, pow_pos, div-one, div-add-mod'}
use Rattle.std.proofs.lemmas.Option.{slice_get_within, slice_get-get_or}
use Rattle.std.proofs.lemmas.Bool.{cases_lt, and_from, and_left, and_right, eq-eqb, ne_eqb, le-leb, lt-leb, lt-ltb}
use Rattle.std.proofs.lemmas.Bool.{cond-true, cond-false}
use Rattle.std.proofs.lemmas.Nat.{div-mul-add, mod_below}
use Rattle.chains.proofs.Cases.{some_or_none}
use Rattle.wire.specs.declared.message.Ask.{Ask}
use Rattle.node_maps.specs.Digest.{Hash, join}
use Rattle.hashtree.specs.Tree.{pad_leaf}
use Rattle.partial_tree.specs.Closed.{IsFamily}
use Rattle.partial_tree.specs.Claims.{span, cover, above, sibling, base_hash, uncle_hash, given, claims, top_layer, top_index}
use Rattle.partial_tree.proofs.ClaimValues.{either, first_of_two, second_of_two, base-read, uncle-read, claims-read}
use Rattle.partial_tree.proofs.ClaimValues.{claims-zero, claims-given, claims-joined, sibling-apart, sibling-half, pair_of}

-- ---- the places of a claim

-- l is a layer of the base range below the cover, and (l, i) lies under the cover
pub record IsUnder (ask : Ask) (l i : ℕ) : Type 0 where
  pub from_base : ask.base ≤ l
  pub below_cover : l < cover ask
  pub under : i / 2 ^ (cover ask - l) ≡ ask.index / 2 ^ span ask

-- (l, i) is the cover or lies above it, not past the top
pub record IsOnPath (ask : Ask) (hashes : List Hash) (l i : ℕ) : Type 0 where
  pub from_cover : cover ask ≤ l
  pub to_top : l ≤ top_layer ask hashes
  pub is_above : i ≡ above ask l

-- (l, i) is the sibling of such a node below the top
pub record IsBeside (ask : Ask) (hashes : List Hash) (l i : ℕ) : Type 0 where
  pub from_cover : cover ask ≤ l
  pub below_top : l < top_layer ask hashes
  pub is_beside : i ≡ sibling (above ask l)

pub data IsClaimed (ask : Ask) (hashes : List Hash) (l i : ℕ) : Type 0 where
  under : IsUnder ask l i → IsClaimed ask hashes l i
  on_path : IsOnPath ask hashes l i → IsClaimed ask hashes l i
  beside : IsBeside ask hashes l i → IsClaimed ask hashes l i

module _ (ask : Ask) (hashes : List Hash) (spans : 1 ≤ span ask) (power : 2 ^ span ask ≡ ask.length)
    (aligned : ask.index % ask.length ≡ 0) (enough : ask.length ≤ length hashes) where
  -- the path goes up by halves
  above-suc : (l : ℕ) → cover ask ≤ l → above ask (suc l) ≡ above ask l / 2
  above-suc l from =
      let e : suc l - ask.base ≡ (l - ask.base) + 1 = omega arith in
      ap (λ k. ask.index / 2 ^ k) e ∙ sym (shr-shr ask.index (l - ask.base) 1)

  above-cover : above ask (cover ask) ≡ ask.index / 2 ^ span ask
  above-cover = let e : cover ask - ask.base ≡ span ask = omega arith in ap (λ k. ask.index / 2 ^ k) e

  -- a halving below the cover
  under-half : (l i : ℕ) → l < cover ask → i / 2 ^ (cover ask - l) ≡ i / 2 / 2 ^ (cover ask - suc l)
  under-half l i below =
      let e : cover ask - l ≡ 1 + (cover ask - suc l) = omega arith in
      ap (λ k. i / 2 ^ k) e ∙ sym (shr-shr i 1 (cover ask - suc l))

  -- the base range is what lies under the cover
  in_range-under : (i : ℕ) → ask.index ≤ i → i < ask.index + ask.length → i / 2 ^ span ask ≡ ask.index / 2 ^ span ask
  in_range-under i low high =
      let c : ℕ = ask.index / ask.length in
      let whole : c * ask.length ≡ ask.index = omega (arith, div-add-mod' ask.index ask.length) in
      let e : i ≡ c * ask.length + (i - ask.index) = omega arith in
      let small : i - ask.index < ask.length = omega arith in
      ap (λ w. i / w) power ∙ ap (λ k. k / ask.length) e ∙ div-mul-add c ask.length (i - ask.index) small
      ∙ sym (ap (λ w. ask.index / w) power)

  under-in_range : (i : ℕ) → i / 2 ^ span ask ≡ ask.index / 2 ^ span ask → (ask.index ≤ i) × (i < ask.index + ask.length)
  under-in_range i e =
      let same : i / ask.length ≡ ask.index / ask.length = sym (ap (λ w. i / w) power) ∙ e ∙ ap (λ w. ask.index / w) power in
      let rows : i / ask.length * ask.length ≡ ask.index / ask.length * ask.length = ap (λ k. k * ask.length) same in
      let some_length : 0 < ask.length = subst (λ k. 0 < k) power (pow_pos (span ask)) in
      let rest : i % ask.length < ask.length = mod_below i ask.length some_length in
      let a : i / ask.length * ask.length + i % ask.length ≡ i = div-add-mod' i ask.length in
      let b : ask.index / ask.length * ask.length + ask.index % ask.length ≡ ask.index = div-add-mod' ask.index ask.length in
      (omega arith, omega arith)

  base-claimed : (l i : ℕ) (v : Hash) → base_hash ask hashes l i ≡ Some v → IsClaimed ask hashes l i
  base-claimed l i v e =
      let r = base-read ask hashes l i v e in
      let k : cover ask - l ≡ span ask = omega (arith, r.0) in
      under (record {
        from_base = omega (arith, r.0);
        below_cover = omega (arith, r.0);
        under = ap (λ j. i / 2 ^ j) k ∙ in_range-under i r.1 r.2;
      })

  uncle-claimed : (l i : ℕ) (v : Hash) → uncle_hash ask hashes l i ≡ Some v → IsClaimed ask hashes l i
  uncle-claimed l i v e =
      let r = uncle-read ask hashes l i v e in
      let inside = slice_get_within hashes (ask.length + (l - cover ask)) v r.2 in
      beside (record { from_cover = r.0; below_top = omega (arith, r.0, inside); is_beside = r.1 })

  given-claimed : (l i : ℕ) (v : Hash) → given ask hashes l i ≡ Some v → IsClaimed ask hashes l i
  given-claimed l i v e = elim (either (base_hash ask hashes l i) (uncle_hash ask hashes l i) v e) [
    | inl b ↦ base-claimed l i v b
    | inr u ↦ uncle-claimed l i v u.1
  ]

  -- the parent of a claimed place below the top lies under the cover, or is on the path
  pub data IsParent (l j : ℕ) : Type 0 where
    still_under : ask.base ≤ l → suc l < cover ask → j / 2 ^ (cover ask - suc l) ≡ ask.index / 2 ^ span ask → IsParent l j
    the_path : ask.base ≤ l → cover ask ≤ suc l → j ≡ above ask (suc l) → IsParent l j

  parent-of_under : (l i : ℕ) → IsUnder ask l i → (suc l < cover ask) ⊎ (cover ask ≤ suc l) → IsParent l (i / 2)
  parent-of_under l i u (inl low) = still_under u.from_base low (sym (under-half l i u.below_cover) ∙ u.under)
  parent-of_under l i u (inr high) =
      let at_cover : suc l ≡ cover ask = omega (arith, u.below_cover) in
      let e : cover ask - suc l ≡ 0 = omega arith in
      the_path u.from_base high
      (sym (div-one (i / 2)) ∙ sym (ap (λ k. i / 2 / 2 ^ k) e) ∙ sym (under-half l i u.below_cover) ∙ u.under ∙ sym above-cover ∙ sym (ap (above ask) at_cover))

  pub parent-of : (l i : ℕ) → IsClaimed ask hashes l i → IsParent l (i / 2)
  parent-of l i (under u) = parent-of_under l i u (cases_lt (suc l) (cover ask))
  parent-of l i (on_path p) = the_path (omega (arith, p.from_cover)) (omega (arith, p.from_cover))
      (ap (λ k. k / 2) p.is_above ∙ sym (above-suc l p.from_cover))
  parent-of l i (beside b) = the_path (omega (arith, b.from_cover)) (omega (arith, b.from_cover))
      (ap (λ k. k / 2) b.is_beside ∙ sibling-half (above ask l) ∙ sym (above-suc l b.from_cover))

  -- a place with a claimed child is none that the message gives a hash for
  no_base : (l j : ℕ) → ask.base ≤ l → base_hash ask hashes (suc l) j ≡ None
  no_base l j from = cond-false _ _ _ (and_left (eqb (suc l) ask.base) _ (ne_eqb (suc l) ask.base (λ e. omega arith)))

  no_uncle : (l j : ℕ) → (leb (cover ask) (suc l) && eqb j (sibling (above ask (suc l)))) ≡ false → uncle_hash ask hashes (suc l) j ≡ None
  no_uncle l j e = cond-false _ _ _ e

  pub parent-not_given : (l j : ℕ) → IsParent l j → given ask hashes (suc l) j ≡ None
  parent-not_given l j (still_under from low e) =
      second_of_two _ _ (no_base l j from) ∙ no_uncle l j (and_left _ _ (lt-leb (cover ask) (suc l) low))
  parent-not_given l j (the_path from high e) =
      second_of_two _ _ (no_base l j from)
      ∙ no_uncle l j (and_right _ _ (ne_eqb j (sibling (above ask (suc l))) (λ d. sibling-apart (above ask (suc l)) (sym e ∙ d))))

  -- from two claimed children to their parent
  pair-below_top : (l i : ℕ) → IsClaimed ask hashes l (2 * i) → IsClaimed ask hashes l (2 * i + 1) → l < top_layer ask hashes
  pair-below_top l i (under u) q = omega (arith, u.below_cover)
  pair-below_top l i (beside b) q = b.below_top
  pair-below_top l i (on_path p) (under u) = omega (arith, u.below_cover)
  pair-below_top l i (on_path p) (beside b) = b.below_top
  pair-below_top l i (on_path p) (on_path q) = absurd (omega (arith, p.is_above, q.is_above))

  parent-claimed_at : (l j : ℕ) → l < top_layer ask hashes → IsParent l j → IsClaimed ask hashes (suc l) j
  parent-claimed_at l j below (still_under from low e) = under (record { from_base = omega arith; below_cover = low; under = e })
  parent-claimed_at l j below (the_path from high e) = on_path (record { from_cover = high; to_top = below; is_above = e })

  parent-claimed : (l i : ℕ) → IsClaimed ask hashes l (2 * i) → IsClaimed ask hashes l (2 * i + 1) → IsClaimed ask hashes (suc l) i
  parent-claimed l i p q =
      let e : 2 * i / 2 ≡ i = omega arith in
      subst (IsClaimed ask hashes (suc l)) e (parent-claimed_at l (2 * i / 2) (pair-below_top l i p q) (parent-of l (2 * i) p))

  -- a claim stands at such a place
  pub claimed-at : (l i : ℕ) (v : Hash) → claims ask hashes l i ≡ Some v → IsClaimed ask hashes l i
  claimed-at zero i v e = given-claimed zero i v (sym (claims-zero ask hashes i) ∙ e)
  claimed-at (suc l) i v e = elim (claims-read ask hashes l i v e) [
    | inl g ↦ given-claimed (suc l) i v g
    | inr (n, (a, b, p, q, w)) ↦ parent-claimed l i (claimed-at l (2 * i) a p) (claimed-at l (2 * i + 1) b q)
  ]

  -- both children of such a parent are claimed
  child-under : (l j x : ℕ) → x / 2 ≡ j → ask.base ≤ l → suc l ≤ cover ask → j / 2 ^ (cover ask - suc l) ≡ ask.index / 2 ^ span ask → IsClaimed ask hashes l x
  child-under l j x half from low e = under (record {
    from_base = from;
    below_cover = low;
    under = under-half l x low ∙ ap (λ k. k / 2 ^ (cover ask - suc l)) half ∙ e;
  })

  child-path : (l j x : ℕ) → x / 2 ≡ j → cover ask ≤ l → l < top_layer ask hashes → j ≡ above ask (suc l) → IsClaimed ask hashes l x
  child-path l j x half from below e = elim (pair_of (above ask l) x (half ∙ e ∙ above-suc l from)) [
    | inl same ↦ on_path (record { from_cover = from; to_top = omega arith; is_above = same })
    | inr other ↦ beside (record { from_cover = from; below_top = below; is_beside = other })
  ]

  child-claimed : (l j x : ℕ) → x / 2 ≡ j → l < top_layer ask hashes → IsParent l j → IsClaimed ask hashes l x
  child-claimed l j x half below (still_under from low e) = child-under l j x half from (omega arith) e
  child-claimed l j x half below (the_path from high e) = elim (cases_lt l (cover ask)) [
    | inl low ↦
        let at_cover : suc l ≡ cover ask = omega arith in
        let none_left : cover ask - suc l ≡ 0 = omega arith in
        child-under l j x half from low (ap (λ k. j / 2 ^ k) none_left ∙ div-one j ∙ e ∙ ap (above ask) at_cover ∙ above-cover)
    | inr past ↦ child-path l j x half past below e
  ]

  -- the message gives a hash for each leaf place of its claim
  base-value : (l i : ℕ) → l ≡ ask.base → IsUnder ask l i → (v : Hash) × (given ask hashes l i ≡ Some v)
  base-value l i e u =
      let k : cover ask - l ≡ span ask = omega arith in
      let r = under-in_range i (sym (ap (λ j. i / 2 ^ j) k) ∙ u.under) in
      let inside : i - ask.index < length hashes = omega (arith, r.0, r.1) in (
        get_or hashes (i - ask.index) pad_leaf,
        first_of_two _ _ _ (cond-true _ _ _ (and_from _ _ (eq-eqb _ _ e) (and_from _ _ (le-leb _ _ r.0) (lt-ltb _ _ r.1)))
            ∙ slice_get-get_or hashes (i - ask.index) pad_leaf inside),
      )

  uncle-value : (l i : ℕ) → IsBeside ask hashes l i → (v : Hash) × (given ask hashes l i ≡ Some v)
  uncle-value l i b =
      let inside : ask.length + (l - cover ask) < length hashes = omega (arith, b.below_top, b.from_cover) in
      let u : uncle_hash ask hashes l i ≡ Some (get_or hashes (ask.length + (l - cover ask)) pad_leaf) =
      cond-true _ _ _ (and_from _ _ (le-leb _ _ b.from_cover) (eq-eqb _ _ b.is_beside))
      ∙ slice_get-get_or hashes (ask.length + (l - cover ask)) pad_leaf inside in
      elim (some_or_none (base_hash ask hashes l i)) [
        | inl (v, e) ↦ (v, first_of_two _ _ v e)
        | inr none ↦ (get_or hashes (ask.length + (l - cover ask)) pad_leaf, second_of_two _ _ none ∙ u)
      ]

  -- and at each such place stands a claim
  HasValue : ℕ → ℕ → Type 0
  HasValue l i = (v : Hash) × (claims ask hashes l i ≡ Some v)

  value-given : (l i : ℕ) → (v : Hash) × (given ask hashes l i ≡ Some v) → HasValue l i
  unfolding HasValue
  value-given l i (v, e) = (v, claims-given ask hashes l i v e)

  value-parent : (l i : ℕ) → HasValue l (2 * i) → HasValue l (2 * i + 1) → HasValue (suc l) i
  unfolding HasValue
  value-parent l i (a, p) (b, q) = elim (some_or_none (given ask hashes (suc l) i)) [
    | inl (v, e) ↦ (v, claims-given ask hashes (suc l) i v e)
    | inr none ↦ (join a b, claims-joined ask hashes l i a b none p q)
  ]

  value-under : (l i : ℕ) → IsUnder ask (suc l) i → (l < ask.base) ⊎ (ask.base ≤ l) → (ask.base ≤ l → HasValue (suc l) i) → HasValue (suc l) i
  value-under l i u (inl low) later =
      let e : suc l ≡ ask.base = omega (arith, u.from_base) in
      value-given (suc l) i (base-value (suc l) i e u)
  value-under l i u (inr from) later = later from

  value-at : (l i : ℕ) → IsClaimed ask hashes l i → HasValue l i
  value-at zero i (under u) =
      let e : zero ≡ ask.base = omega (arith, u.from_base) in
      value-given zero i (base-value zero i e u)
  value-at zero i (on_path p) = absurd (omega (arith, p.from_cover))
  value-at zero i (beside b) = absurd (omega (arith, b.from_cover))
  value-at (suc l) i (under u) =
      value-under l i u (cases_lt l ask.base) (λ from. value-parent l i
      (value-at l (2 * i) (child-under l i (2 * i) (omega arith) from (omega (arith, u.below_cover)) u.under))
      (value-at l (2 * i + 1) (child-under l i (2 * i + 1) (omega arith) from (omega (arith, u.below_cover)) u.under)))
  value-at (suc l) i (on_path p) =
      let from : ask.base ≤ l = omega (arith, p.from_cover) in
      let up : IsParent l i = the_path from p.from_cover p.is_above in
      value-parent l i
      (value-at l (2 * i) (child-claimed l i (2 * i) (omega arith) p.to_top up))
      (value-at l (2 * i + 1) (child-claimed l i (2 * i + 1) (omega arith) p.to_top up))
  value-at (suc l) i (beside b) = value-given (suc l) i (uncle-value (suc l) i b)

  pub claimed-value : (l i : ℕ) → IsClaimed ask hashes l i → (v : Hash) × (claims ask hashes l i ≡ Some v)
  unfolding HasValue
  claimed-value l i at = value-at l i at

  -- each claim below the top has its family
  pub claimed-family : (l i : ℕ) (v : Hash) → claims ask hashes l i ≡ Some v → l < top_layer ask hashes → IsFamily (claims ask hashes) l (i / 2)
  claimed-family l i v e below =
      let up : IsParent l (i / 2) = parent-of l i (claimed-at l i v e) in
      let a = claimed-value l (2 * (i / 2)) (child-claimed l (i / 2) (2 * (i / 2)) (omega arith) below up) in
      let b = claimed-value l (2 * (i / 2) + 1) (child-claimed l (i / 2) (2 * (i / 2) + 1) (omega arith) below up) in
      record {
        left = a.0;
        right = b.0;
        left_known = a.1;
        right_known = b.1;
        parent_known = claims-joined ask hashes l (i / 2) a.0 b.0 (parent-not_given l (i / 2) up) a.1 b.1;
      }

  -- the top
  pub claimed-to_top : (l i : ℕ) (v : Hash) → claims ask hashes l i ≡ Some v → l ≤ top_layer ask hashes
  claimed-to_top l i v e = elim (claimed-at l i v e) [
    | under u ↦ omega arith
    | on_path p ↦ p.to_top
    | beside b ↦ omega arith
  ]

  pub claimed-top : (i : ℕ) (v : Hash) → claims ask hashes (top_layer ask hashes) i ≡ Some v → i ≡ top_index ask hashes
  claimed-top i v e = elim (claimed-at (top_layer ask hashes) i v e) [
    | under u ↦ absurd (omega (arith, u.below_cover))
    | on_path p ↦ p.is_above
    | beside b ↦ absurd (omega (arith, b.below_top))
  ]

  -- on the base layer the claims are the base range
  pub claimed-base : (i : ℕ) (v : Hash) → claims ask hashes ask.base i ≡ Some v → (ask.index ≤ i) × (i < ask.index + ask.length)
  claimed-base i v e = elim (claimed-at ask.base i v e) [
    | under u ↦ let k : cover ask - ask.base ≡ span ask = omega arith in under-in_range i (sym (ap (λ j. i / 2 ^ j) k) ∙ u.under)
    | on_path p ↦ absurd (omega (arith, p.from_cover))
    | beside b ↦ absurd (omega (arith, b.from_cover))
  ]

  pub base-claims : (i : ℕ) → ask.index ≤ i → i < ask.index + ask.length → (v : Hash) × (claims ask hashes ask.base i ≡ Some v)
  base-claims i low high =
      let k : cover ask - ask.base ≡ span ask = omega arith in
      claimed-value ask.base i (under (record {
        from_base = omega arith;
        below_cover = omega arith;
        under = ap (λ j. i / 2 ^ j) k ∙ in_range-under i low high;
      }))
