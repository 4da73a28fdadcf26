-- The place of a key in tiers.
use Rattle.std.proofs.Common.{◌≡◌, ◌⊎◌, inl, inr, ℕ, zero, suc, ◌<◌, ◌≤◌, ◌++◌, T, List, [], ◌∷◌, length, take, drop, get_or, refl, sym, ap, ◌∙◌}
use Rattle.std.proofs.Common.{subst, arith, append_assoc}
use Rattle.std.specs.FinMap.Entries.{below_all}
use Rattle.std.proofs.lemmas.List.{append-nil, drop_all, get_or_default, length-drop, take-append-drop}
use Rattle.node_maps.specs.Known.{place_cmp}
use Rattle.fixed_maps.specs.Tiers.{Entry, TierSeen, AreBelow, AreFrom, AreRising, IsPlaceOfKey, IsSpotOf, flat, items_at, before_spot, after_spot}
use Rattle.fixed_maps.proofs.Rising.{first-holds, second-holds, both-hold, from-head}

-- ---- lists of entries

below-left : (x : ℕ × ℕ) (xs ys : List Entry) → T (below_all place_cmp x (xs ++ ys)) → T (below_all place_cmp x xs)
below-left x [] ys h = tt
below-left x (e ∷ xs) ys h = both-hold _ _ (first-holds _ _ h) (below-left x xs ys (second-holds _ _ h))

pub rising-left : (xs ys : List Entry) → AreRising (xs ++ ys) → AreRising xs
rising-left [] ys h = tt
rising-left (e ∷ xs) ys h = both-hold _ _ (below-left e.0 xs ys (first-holds _ _ h)) (rising-left xs ys (second-holds _ _ h))

pub rising-right : (xs ys : List Entry) → AreRising (xs ++ ys) → AreRising ys
rising-right [] ys h = h
rising-right (e ∷ xs) ys h = rising-right xs ys (second-holds _ _ h)

below-append : (k : ℕ × ℕ) (xs ys : List Entry) → AreBelow k xs → AreBelow k ys → AreBelow k (xs ++ ys)
below-append k [] ys p q = q
below-append k (e ∷ xs) ys p q = (p.0, below-append k xs ys p.1 q)

from-grows : (k : ℕ × ℕ) (xs ys : List Entry) → AreRising (xs ++ ys) → 0 < length xs → AreFrom k xs → AreFrom k (xs ++ ys)
from-grows k [] ys s some h = absurd (omega (arith, some))
from-grows k (e ∷ xs) ys s some h = from-head k e (xs ++ ys) s h.0

-- ---- tiers

pub flat-split : (ts : List TierSeen) (a : ℕ) → a < length ts → flat ts ≡ flat (take a ts) ++ (items_at ts a ++ flat (drop (suc a) ts))
flat-split [] a lt = absurd (omega (arith, lt))
flat-split (t ∷ ts) zero lt = refl
flat-split (t ∷ ts) (suc a) lt = ap (λ es. t.items ++ es) (flat-split ts a (omega (arith, lt))) ∙ sym (append_assoc t.items (flat (take a ts)) _)

-- what stands before a spot, and what stands from it on
pub parted : (ts : List TierSeen) (a b : ℕ) → a < length ts → flat ts ≡ before_spot ts a b ++ after_spot ts a b
parted ts a b lt = flat-split ts a lt
    ∙ ap (λ es. flat (take a ts) ++ (es ++ flat (drop (suc a) ts))) (sym (take-append-drop b (items_at ts a)))
    ∙ ap (λ es. flat (take a ts) ++ es) (append_assoc (take b (items_at ts a)) (drop b (items_at ts a)) _)
    ∙ sym (append_assoc (flat (take a ts)) (take b (items_at ts a)) (after_spot ts a b))

pub read-items : (ts : List TierSeen) (a : ℕ) (t : TierSeen) → a < length ts → t ≡ get_or ts a t → t.items ≡ items_at ts a
read-items ts a t lt is = ap (λ (s : TierSeen). s.items) (is ∙ get_or_default ts a t (record { items = []; width = 0; capacity = 0 }) lt)

module _ (ts : List TierSeen) (a : ℕ) (lt : a < length ts) (rising : AreRising (flat ts)) where
  rest-rising : AreRising (items_at ts a ++ flat (drop (suc a) ts))
  rest-rising = rising-right (flat (take a ts)) _ (subst AreRising (flat-split ts a lt) rising)

  pub tier-rising : (t : TierSeen) → t ≡ get_or ts a t → AreRising t.items
  tier-rising t is = subst AreRising (sym (read-items ts a t lt is)) (rising-left (items_at ts a) _ rest-rising)

  module _ (k : ℕ × ℕ) (b : ℕ) (inside : b ≤ length (items_at ts a)) (below : AreBelow k (flat (take a ts)))
      (place : IsPlaceOfKey k (take b (items_at ts a)) (drop b (items_at ts a))) where
    from-spot : (b < length (items_at ts a)) ⊎ (suc a ≡ length ts) → AreFrom k (drop b (items_at ts a) ++ flat (drop (suc a) ts))
    from-spot (inl low) =
        let parts = take-append-drop b (items_at ts a) in
        from-grows k (drop b (items_at ts a)) (flat (drop (suc a) ts))
        (rising-right (take b (items_at ts a)) _ (subst AreRising (append_assoc (take b (items_at ts a)) (drop b (items_at ts a)) _)
        (subst (λ es. AreRising (es ++ flat (drop (suc a) ts))) (sym parts) rest-rising)))
        (let long = length-drop b (items_at ts a) in omega (arith, long, low)) place.from
    from-spot (inr last) = subst (λ (us : List TierSeen). AreFrom k (drop b (items_at ts a) ++ flat us)) (sym (drop_all (suc a) ts (omega (arith, last))))
        (subst (AreFrom k) (sym (append-nil (drop b (items_at ts a)))) place.from)

    pub is-spot : (b < length (items_at ts a)) ⊎ (suc a ≡ length ts) → IsSpotOf k ts a b
    is-spot where' = record {
      tier = lt;
      place = inside;
      here = where';
      is_place = record { below = below-append k (flat (take a ts)) _ below place.below; from = from-spot where' };
    }

-- the place in a tier that was read
pub spot-read : (k : ℕ × ℕ) (ts : List TierSeen) (a b : ℕ) (t : TierSeen) → a < length ts → AreRising (flat ts) → t ≡ get_or ts a t
    → b ≤ length t.items → AreBelow k (flat (take a ts)) → IsPlaceOfKey k (take b t.items) (drop b t.items)
    → (b < length t.items) ⊎ (suc a ≡ length ts) → IsSpotOf k ts a b
spot-read k ts a b t lt rising is inside below place where' =
    let same = read-items ts a t lt is in
    is-spot ts a lt rising k b (subst (λ (es : List Entry). b ≤ length es) same inside) below
    (subst (λ (es : List Entry). IsPlaceOfKey k (take b es) (drop b es)) same place)
    (subst (λ (es : List Entry). (b < length es) ⊎ (suc a ≡ length ts)) same where')
