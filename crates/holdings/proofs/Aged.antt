-- The ages of pieces stay right when a piece comes or goes.
use Rattle.std.proofs.Common.{◌≡◌, ◌≢◌, ◌⊎◌, ℕ, ◌+◌, ◌^◌, ◌<◌, ◌≤◌, Bool, true, false, cond, length, Option, Some, None, inl, inr, refl, sym, ap, ◌∙◌, subst}
use Rattle.std.proofs.Common.{arith}
use Rattle.std.specs.Ordering.{nat_cmp, eq_by_cmp}
use Rattle.std.specs.Cmp.{IsTotalOrder, nat_cmp_total, eq_by_cmp_equiv}
use Rattle.std.proofs.lemmas.Bool.{false≢true}
use Rattle.std.proofs.lemmas.Option.{none-some, same_Some}
use Rattle.std.proofs.lemmas.Map.Lookups.{CmpEqualImpliesEq, exact_unsigned}
use Rattle.std.proofs.lemmas.Map.Views.{tells_apart}
use Rattle.std.specs.declared.cmp.Ordering.{Ordering}
use Rattle.node_maps.specs.Known.{place_cmp}
use Rattle.node_maps.proofs.Known.{place_total, place_exact}
use Rattle.holdings.specs.Holdings.{PieceSeen, IsAged, IsLowPiece}

module _ {K : Type 0} {R : K → K → Ordering} (o : IsTotalOrder R) (exact : CmpEqualImpliesEq R) where
  -- a key is another one, or the same
  pub same_or_other : (q r : K) → ((eq_by_cmp R q r ≡ true) × (q ≡ r)) ⊎ (eq_by_cmp R q r ≡ false)
  same_or_other q r = by (eq_by_cmp R q r) refl
    where
      by : (b : Bool) → eq_by_cmp R q r ≡ b → ((eq_by_cmp R q r ≡ true) × (q ≡ r)) ⊎ (eq_by_cmp R q r ≡ false)
      by true e = inl (e, tells_apart exact q r e)
      by false e = inr e

  -- two different keys
  pub other_key : (q r : K) → q ≢ r → eq_by_cmp R q r ≡ false
  other_key q r apart = by (same_or_other q r)
    where
      by : ((eq_by_cmp R q r ≡ true) × (q ≡ r)) ⊎ (eq_by_cmp R q r ≡ false) → eq_by_cmp R q r ≡ false
      by (inl h) = absurd (apart h.1)
      by (inr h) = h

  pub own_key : (q : K) → eq_by_cmp R q q ≡ true
  own_key q = (eq_by_cmp_equiv o).refl q

  pub not_own : (q r : K) → eq_by_cmp R q r ≡ false → q ≢ r
  not_own q r apart e = false≢true (sym apart ∙ ap (eq_by_cmp R q) (sym e) ∙ own_key q)

abbrev same-piece : (q r : ℕ × ℕ) → ((eq_by_cmp place_cmp q r ≡ true) × (q ≡ r)) ⊎ (eq_by_cmp place_cmp q r ≡ false)
same-piece = same_or_other place_total place_exact

abbrev same-time : (t u : ℕ) → ((eq_by_cmp nat_cmp t u ≡ true) × (t ≡ u)) ⊎ (eq_by_cmp nat_cmp t u ≡ false)
same-time = same_or_other nat_cmp_total exact_unsigned

chosen : {X : Type 0} (b c : Bool) (x y : X) → b ≡ c → cond b x y ≡ cond c x y
chosen b c x y e = ap (λ t. cond t x y) e

module _ (piece piece' : ℕ × ℕ → Option PieceSeen) (age age' : ℕ → Option (ℕ × ℕ)) (clock : ℕ) (aged : IsAged piece age clock)
    (q : ℕ × ℕ) where
  -- a piece goes, with its age
  module _ (x : PieceSeen) (there : piece q ≡ Some x) (gone : (r : ℕ × ℕ) → piece' r ≡ cond (eq_by_cmp place_cmp q r) None (piece r))
      (went : (t : ℕ) → age' t ≡ cond (eq_by_cmp nat_cmp x.newest t) None (age t)) where
    left : (r : ℕ × ℕ) (y : PieceSeen) → piece' r ≡ Some y → (q ≢ r) × (piece r ≡ Some y)
    left r y at = by (same-piece q r)
      where
        by : ((eq_by_cmp place_cmp q r ≡ true) × (q ≡ r)) ⊎ (eq_by_cmp place_cmp q r ≡ false) → (q ≢ r) × (piece r ≡ Some y)
        by (inl h) = absurd (none-some y (sym (gone r ∙ chosen _ _ _ _ h.0) ∙ at))
        by (inr h) = (not_own place_total place_exact q r h, sym (gone r ∙ chosen _ _ _ _ h) ∙ at)

    old-age : (t : ℕ) (r : ℕ × ℕ) → age' t ≡ Some r → (x.newest ≢ t) × (age t ≡ Some r)
    old-age t r at = by (same-time x.newest t)
      where
        by : ((eq_by_cmp nat_cmp x.newest t ≡ true) × (x.newest ≡ t)) ⊎ (eq_by_cmp nat_cmp x.newest t ≡ false) → (x.newest ≢ t) × (age t ≡ Some r)
        by (inl h) = absurd (none-some r (sym (went t ∙ chosen _ _ _ _ h.0) ∙ at))
        by (inr h) = (not_own nat_cmp_total exact_unsigned x.newest t h, sym (went t ∙ chosen _ _ _ _ h) ∙ at)

    pub aged-gone : IsAged piece' age' clock
    aged-gone = record {
      at = λ r y here.
          let (apart, old) = left r y here in
          let stood = aged.at r y old in
          let other : x.newest ≢ y.newest = λ e. apart (same_Some q r (sym (aged.at q x there) ∙ ap age e ∙ stood)) in
          went y.newest ∙ chosen _ _ _ _ (other_key nat_cmp_total exact_unsigned x.newest y.newest other) ∙ stood;
      of = λ t r here.
          let (apart, old) = old-age t r here in
          let (y, at, newest) = aged.of t r old in
          let other : q ≢ r = λ e. apart (ap (λ (z : PieceSeen). z.newest) (same_Some x y (sym there ∙ ap piece e ∙ at)) ∙ newest) in
          (y, gone r ∙ chosen _ _ _ _ (other_key place_total place_exact q r other) ∙ at, newest);
      past = λ t r here. aged.past t r (old-age t r here).1;
      low = λ r y here. aged.low r y (left r y here).1;
    }

  -- a piece comes now, that was not there
  module _ (x : PieceSeen) (absent : piece q ≡ None) (now : x.newest ≡ clock) (small : IsLowPiece q x)
      (came : (r : ℕ × ℕ) → piece' r ≡ cond (eq_by_cmp place_cmp q r) (Some x) (piece r))
      (new : (t : ℕ) → age' t ≡ cond (eq_by_cmp nat_cmp clock t) (Some q) (age t)) where
    new-age : age' clock ≡ Some q
    new-age = new clock ∙ chosen _ _ _ _ (own_key nat_cmp_total exact_unsigned clock)

    is-piece : (r : ℕ × ℕ) (y : PieceSeen) → piece' r ≡ Some y → ((q ≡ r) × (x ≡ y)) ⊎ ((q ≢ r) × (piece r ≡ Some y))
    is-piece r y at = by (same-piece q r)
      where
        by : ((eq_by_cmp place_cmp q r ≡ true) × (q ≡ r)) ⊎ (eq_by_cmp place_cmp q r ≡ false)
            → ((q ≡ r) × (x ≡ y)) ⊎ ((q ≢ r) × (piece r ≡ Some y))
        by (inl h) = inl (h.1, same_Some x y (sym (came r ∙ chosen _ _ _ _ h.0) ∙ at))
        by (inr h) = inr (not_own place_total place_exact q r h, sym (came r ∙ chosen _ _ _ _ h) ∙ at)

    is-age : (t : ℕ) (r : ℕ × ℕ) → age' t ≡ Some r → ((clock ≡ t) × (q ≡ r)) ⊎ (age t ≡ Some r)
    is-age t r at = by (same-time clock t)
      where
        by : ((eq_by_cmp nat_cmp clock t ≡ true) × (clock ≡ t)) ⊎ (eq_by_cmp nat_cmp clock t ≡ false) → ((clock ≡ t) × (q ≡ r)) ⊎ (age t ≡ Some r)
        by (inl h) = inl (h.1, same_Some q r (sym (new t ∙ chosen _ _ _ _ h.0) ∙ at))
        by (inr h) = inr (sym (new t ∙ chosen _ _ _ _ h) ∙ at)

    at-come : (r : ℕ × ℕ) (y : PieceSeen) → ((q ≡ r) × (x ≡ y)) ⊎ ((q ≢ r) × (piece r ≡ Some y)) → age' y.newest ≡ Some r
    at-come r y (inl (here, is)) = ap age' (sym (ap (λ (z : PieceSeen). z.newest) is) ∙ now) ∙ new-age ∙ ap Some here
    at-come r y (inr (apart, old)) =
        let stood = aged.at r y old in
        let low : y.newest < clock = aged.past y.newest r stood in
        let other : clock ≢ y.newest = λ e. omega (arith, low, e) in
        new y.newest ∙ chosen _ _ _ _ (other_key nat_cmp_total exact_unsigned clock y.newest other) ∙ stood

    of-come : (t : ℕ) (r : ℕ × ℕ) → ((clock ≡ t) × (q ≡ r)) ⊎ (age t ≡ Some r) → (y : PieceSeen) × (piece' r ≡ Some y) × (y.newest ≡ t)
    of-come t r (inl (is, here)) = (x, came r ∙ chosen _ _ _ _ (ap (eq_by_cmp place_cmp q) (sym here) ∙ own_key place_total place_exact q), now ∙ is)
    of-come t r (inr old) =
        let (y, at, newest) = aged.of t r old in
        let other : q ≢ r = λ e. none-some y (sym absent ∙ ap piece e ∙ at) in
        (y, came r ∙ chosen _ _ _ _ (other_key place_total place_exact q r other) ∙ at, newest)

    past-come : (t : ℕ) (r : ℕ × ℕ) → ((clock ≡ t) × (q ≡ r)) ⊎ (age t ≡ Some r) → t < clock + 1
    past-come t r (inl (is, here)) = omega (arith, is)
    past-come t r (inr old) = let low = aged.past t r old in omega (arith, low)

    low-come : (r : ℕ × ℕ) (y : PieceSeen) → ((q ≡ r) × (x ≡ y)) ⊎ ((q ≢ r) × (piece r ≡ Some y)) → IsLowPiece r y
    low-come r y (inl (here, is)) =
        subst (λ (p : ℕ × ℕ). IsLowPiece p y) here (subst (λ (z : PieceSeen). IsLowPiece q z) is small)
    low-come r y (inr (apart, old)) = aged.low r y old

    pub aged-came : IsAged piece' age' (clock + 1)
    aged-came = record {
      at = λ r y here. at-come r y (is-piece r y here);
      of = λ t r here. of-come t r (is-age t r here);
      past = λ t r here. past-come t r (is-age t r here);
      low = λ r y here. low-come r y (is-piece r y here);
    }

-- a piece that is there comes again now, with other cells
module _ (piece piece' : ℕ × ℕ → Option PieceSeen) (age age' : ℕ → Option (ℕ × ℕ)) (clock : ℕ) (aged : IsAged piece age clock)
    (q : ℕ × ℕ) (old x : PieceSeen) (there : piece q ≡ Some old) (now : x.newest ≡ clock) (size : length x.cells ≡ length old.cells)
    (came : (r : ℕ × ℕ) → piece' r ≡ cond (eq_by_cmp place_cmp q r) (Some x) (piece r))
    (new : (t : ℕ) → age' t ≡ cond (eq_by_cmp nat_cmp old.newest t) None (cond (eq_by_cmp nat_cmp clock t) (Some q) (age t))) where
  abbrev between : ℕ × ℕ → Option PieceSeen
  between r = cond (eq_by_cmp place_cmp q r) None (piece r)

  abbrev ages : ℕ → Option (ℕ × ℕ)
  ages t = cond (eq_by_cmp nat_cmp old.newest t) None (age t)

  shadowed : (b : Bool) (u v w : Option PieceSeen) → cond b u w ≡ cond b u (cond b v w)
  shadowed true u v w = refl
  shadowed false u v w = refl

  swapped : (t : ℕ) (b c : Bool) → eq_by_cmp nat_cmp old.newest t ≡ b → eq_by_cmp nat_cmp clock t ≡ c
      → cond b None (cond c (Some q) (age t)) ≡ cond c (Some q) (cond b None (age t))
  swapped t true true e f =
      let a : old.newest ≡ t = tells_apart exact_unsigned old.newest t e in
      let b : clock ≡ t = tells_apart exact_unsigned clock t f in
      let low : old.newest < clock = aged.past old.newest q (aged.at q old there) in
      absurd (omega (arith, a, b, low))
  swapped t true false e f = refl
  swapped t false c e f = refl

  pub aged-again : IsAged piece' age' (clock + 1)
  aged-again = aged-came between piece' ages age' clock
      (aged-gone piece between age ages clock aged q old there (λ r. refl) (λ t. refl)) q x
      (chosen _ _ _ _ (own_key place_total place_exact q)) now
      (let (low, few) = aged.low q old there in (omega (arith, low, size), omega (arith, few, size)))
      (λ r. came r ∙ shadowed (eq_by_cmp place_cmp q r) (Some x) None (piece r))
      (λ t. new t ∙ swapped t _ _ refl refl)

-- other cells of a piece, as many, change no age
module _ (piece piece' : ℕ × ℕ → Option PieceSeen) (age : ℕ → Option (ℕ × ℕ)) (clock : ℕ) (aged : IsAged piece age clock)
    (q : ℕ × ℕ) (old x : PieceSeen) (there : piece q ≡ Some old) (same : x.newest ≡ old.newest) (size : length x.cells ≡ length old.cells)
    (came : (r : ℕ × ℕ) → piece' r ≡ cond (eq_by_cmp place_cmp q r) (Some x) (piece r)) where
  is-old : (r : ℕ × ℕ) (y : PieceSeen) → piece' r ≡ Some y → (z : PieceSeen) × (piece r ≡ Some z) × (z.newest ≡ y.newest) × (length z.cells ≡ length y.cells)
  is-old r y at = by (same-piece q r)
    where
      by : ((eq_by_cmp place_cmp q r ≡ true) × (q ≡ r)) ⊎ (eq_by_cmp place_cmp q r ≡ false)
          → (z : PieceSeen) × (piece r ≡ Some z) × (z.newest ≡ y.newest) × (length z.cells ≡ length y.cells)
      by (inl h) =
          let is : x ≡ y = same_Some x y (sym (came r ∙ chosen _ _ _ _ h.0) ∙ at) in
          (old, ap piece (sym h.1) ∙ there, sym same ∙ ap (λ (z : PieceSeen). z.newest) is, sym size ∙ ap (λ (z : PieceSeen). length z.cells) is)
      by (inr h) = (y, sym (came r ∙ chosen _ _ _ _ h) ∙ at, refl, refl)

  of-old : (t : ℕ) (r : ℕ × ℕ) → age t ≡ Some r → (y : PieceSeen) × (piece' r ≡ Some y) × (y.newest ≡ t)
  of-old t r at = by (same-piece q r)
    where
      by : ((eq_by_cmp place_cmp q r ≡ true) × (q ≡ r)) ⊎ (eq_by_cmp place_cmp q r ≡ false) → (y : PieceSeen) × (piece' r ≡ Some y) × (y.newest ≡ t)
      by (inl h) =
          let (z, here, newest) = aged.of t r at in
          let is : old ≡ z = same_Some old z (sym there ∙ ap piece h.1 ∙ here) in
          (x, came r ∙ chosen _ _ _ _ h.0, same ∙ ap (λ (z : PieceSeen). z.newest) is ∙ newest)
      by (inr h) = let (z, here, newest) = aged.of t r at in (z, came r ∙ chosen _ _ _ _ h ∙ here, newest)

  pub aged-written : IsAged piece' age clock
  aged-written = record {
    at = λ r y here. let (z, old, newest, size) = is-old r y here in ap age (sym newest) ∙ aged.at r z old;
    of = of-old;
    past = aged.past;
    low = λ r y here. let (z, old, newest, size) = is-old r y here in let (low, few) = aged.low r z old in (omega (arith, low, size), omega (arith, few, size));
  }

-- look-ups that are the same serve as well
pub aged-same : (piece piece' : ℕ × ℕ → Option PieceSeen) (age age' : ℕ → Option (ℕ × ℕ)) (clock : ℕ) → IsAged piece age clock
    → ((r : ℕ × ℕ) → piece' r ≡ piece r) → ((t : ℕ) → age' t ≡ age t) → IsAged piece' age' clock
aged-same piece piece' age age' clock aged same alike = record {
  at = λ r y here. alike y.newest ∙ aged.at r y (sym (same r) ∙ here);
  of = λ t r here. let (y, at, newest) = aged.of t r (sym (alike t) ∙ here) in (y, same r ∙ at, newest);
  past = λ t r here. aged.past t r (sym (alike t) ∙ here);
  low = λ r y here. aged.low r y (sym (same r) ∙ here);
}
