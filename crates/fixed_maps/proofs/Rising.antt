-- Entries whose keys rise.
use Rattle.std.proofs.Common.{◌≡◌, ℕ, zero, suc, ◌-◌, ◌<◌, Bool, true, false, ◌&&◌, T, List, [], ◌∷◌, length, take, drop, get_or, refl}
use Rattle.std.proofs.Common.{sym, ap, ◌∙◌, subst, arith, Less}
use Rattle.std.specs.Ordering.{is_lt}
use Rattle.std.specs.declared.cmp.Ordering.{Ordering}
use Rattle.std.specs.declared.cmp.Ordering.TheVariants.{Equal, Greater}
use Rattle.std.specs.FinMap.Entries.{below_all}
use Rattle.node_maps.specs.Known.{place_cmp}
use Rattle.node_maps.proofs.Known.{place_total}
use Rattle.std.proofs.lemmas.List.{drop_all}
use Rattle.fixed_maps.specs.Tiers.{Entry, AreBelow, AreFrom, AreRising, IsPlaceOfKey}

pub first-holds : (a b : Bool) → T (a && b) → T a
first-holds true b p = tt
first-holds false b p = p

pub second-holds : (a b : Bool) → T (a && b) → T b
second-holds true b p = p
second-holds false b p = absurd p

pub both-hold : (a b : Bool) → T a → T b → T (a && b)
both-hold true b p q = q
both-hold false b p q = p

pub less : (o : Ordering) → T (is_lt o) → o ≡ Less
less Less p = refl
less Equal p = absurd p
less Greater p = absurd p

pub is-less : (o : Ordering) → is_lt o ≡ true → o ≡ Less
is-less o e = less o (subst T (sym e) tt)

-- a key that all entries are above
below-at : (x : ℕ × ℕ) (es : List Entry) (i : ℕ) (d : Entry) → T (below_all place_cmp x es) → i < length es → place_cmp x (get_or es i d).0 ≡ Less
below-at x [] i d h lt = absurd (omega arith)
below-at x (e ∷ es) zero d h lt = less _ (first-holds _ _ h)
below-at x (e ∷ es) (suc i) d h lt = below-at x es i d (second-holds _ _ h) (omega arith)

-- up to an entry below k all are below k
pub below-upto : (k : ℕ × ℕ) (es : List Entry) (i : ℕ) (d : Entry) → AreRising es → i < length es → place_cmp (get_or es i d).0 k ≡ Less
    → AreBelow k (take (suc i) es)
below-upto k [] i d s lt h = tt
below-upto k (e ∷ es) zero d s lt h = (h, tt)
below-upto k (e ∷ es) (suc i) d s lt h = (
  place_total.trans e.0 (get_or es i d).0 k (below-at e.0 es i d (first-holds _ _ s) (omega arith)) h,
  below-upto k es i d (second-holds _ _ s) (omega arith) h,
)

-- a key above one that is not below k is not below k
not-below : (x y k : ℕ × ℕ) → place_cmp x y ≡ Less → is_lt (place_cmp x k) ≡ false → is_lt (place_cmp y k) ≡ false
not-below x y k less from = elim (place_cmp y k) as (λ o. place_cmp y k ≡ o → is_lt o ≡ false) [
  | Less ↦ λ e. sym (ap is_lt (place_total.trans x y k less e)) ∙ from
  | Equal ↦ λ e. refl
  | Greater ↦ λ e. refl
] refl

from-first : (k x : ℕ × ℕ) (es : List Entry) → T (below_all place_cmp x es) → is_lt (place_cmp x k) ≡ false → AreFrom k es
from-first k x [] b h = tt
from-first k x (e ∷ es) b h = (not-below x e.0 k (less _ (first-holds _ _ b)) h, from-first k x es (second-holds _ _ b) h)

-- from an entry on that is not below k none is
pub from-head : (k : ℕ × ℕ) (e : Entry) (es : List Entry) → AreRising (e ∷ es) → is_lt (place_cmp e.0 k) ≡ false → AreFrom k (e ∷ es)
from-head k e es s h = (h, from-first k e.0 es (first-holds _ _ s) h)

pub from-at : (k : ℕ × ℕ) (es : List Entry) (i : ℕ) (d : Entry) → AreRising es → i < length es → is_lt (place_cmp (get_or es i d).0 k) ≡ false
    → AreFrom k (drop i es)
from-at k [] i d s lt h = absurd (omega arith)
from-at k (e ∷ es) zero d s lt h = from-head k e es s h
from-at k (e ∷ es) (suc i) d s lt h = from-at k es i d (second-holds _ _ s) (omega arith) h

-- past the last entry, if it is below k
pub all-below : (k : ℕ × ℕ) (es : List Entry) (n : ℕ) (d : Entry) → AreRising es → n ≡ length es → 0 < n
    → place_cmp (get_or es (n - 1) d).0 k ≡ Less → IsPlaceOfKey k (take n es) (drop n es)
all-below k es n d s is some h =
    let whole : suc (n - 1) ≡ n = omega (arith, some) in
    record {
      below = subst (λ m. AreBelow k (take m es)) whole (below-upto k es (n - 1) d s (omega (arith, is, some)) h);
      from = subst (AreFrom k) (sym (drop_all n es (omega (arith, is)))) tt;
    }
