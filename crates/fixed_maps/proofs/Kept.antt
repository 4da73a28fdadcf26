-- Tiers, parted at the place of a key.
use Rattle.std.proofs.Common.{◌≡◌, ◌⊎◌, inl, inr, ℕ, zero, suc, ◌+◌, ◌<◌, ◌≤◌, ◌++◌, true, false, T, List, [], ◌∷◌, length, take, drop, get_or, Option}
use Rattle.std.proofs.Common.{Some, None, IfSome, IfNone, refl, sym, ap, ◌∙◌, subst, arith, length-append}
use Rattle.std.specs.Prelude.{slice_get}
use Rattle.std.specs.Ordering.{eq_by_cmp, is_lt, is_eq, ordering_reverse}
use Rattle.std.specs.declared.cmp.Ordering.TheVariants.{Less, Equal, Greater}
use Rattle.std.specs.Cmp.{tied_itself}
use Rattle.std.proofs.lemmas.Bool.{false≢true}
use Rattle.std.proofs.lemmas.Map.Views.{tells_apart}
use Rattle.node_maps.proofs.Known.{place_total, place_exact}
use Rattle.std.specs.FinMap.{from_sorted, get, insert, remove, len, empty, empty_of_len, entries-from_sorted, len-entries}
use Rattle.std.proofs.lemmas.List.{append-nil, drop_all, take_at}
use Rattle.node_maps.specs.Known.{place_cmp}
use Rattle.fixed_maps.specs.Tiers.{Entry, TierSeen, AreBelow, AreFrom, AreRising, IsSpotOf, flat, items_at, before_spot, after_spot}
use Rattle.fixed_maps.specs.Tiers.{after_spot_but_one, room_of}
use Rattle.fixed_maps.specs.FixedMaps.{IsFixedMap}
use Rattle.std.specs.FinMap.Entries.{below_all}
use Rattle.fixed_maps.proofs.Rising.{first-holds, second-holds, less}
use Rattle.fixed_maps.proofs.Spots.{parted, read-items}
use Rattle.fixed_maps.proofs.Parted.{found, none-before, none-from, more-rising, is-inserted, less-rising, is-removed, nothing-removed}

-- what stands from place b on begins with this entry, or there is nothing
abbrev pub IsAt : Option Entry → List Entry → ℕ → Type 0
IsAt None xs b = length xs ≤ b
IsAt (Some e) xs b = drop b xs ≡ e ∷ drop (suc b) xs

pub is-at : (xs : List Entry) (b : ℕ) → IsAt (slice_get xs b) xs b
is-at [] b = omega arith
is-at (x ∷ xs) zero = refl
is-at (x ∷ xs) (suc b) = later (slice_get xs b) (is-at xs b)
  where
    later : (o : Option Entry) → IsAt o xs b → IsAt o (x ∷ xs) (suc b)
    later None h = omega (arith, h)
    later (Some e) h = h

pub map-len : (es : List Entry) → AreRising es → len (from_sorted {R = place_cmp} es) ≡ length es
map-len es s = len-entries _ ∙ ap length (entries-from_sorted place_cmp es s)

-- the entries from a spot on begin with this one, or there are none
abbrev Heads : List TierSeen → ℕ → ℕ → Option Entry → Type 0
Heads ts a b None = after_spot ts a b ≡ []
Heads ts a b (Some e) = after_spot ts a b ≡ e ∷ after_spot_but_one ts a b

-- this is what was read at the spot of a key
pub record IsReadAt (k : ℕ × ℕ) (ts : List TierSeen) (a b : ℕ) (o : Option Entry) : Type 0 where
  pub spot : IsSpotOf k ts a b
  pub rising : AreRising (flat ts)
  pub heads : Heads ts a b o

pub read-at : {k : ℕ × ℕ} {ts : List TierSeen} {a b : ℕ} → IsSpotOf k ts a b → AreRising (flat ts) → (t : TierSeen) → t ≡ get_or ts a t
    → (o : Option Entry) → o ≡ slice_get t.items b → IsReadAt k ts a b o
read-at {k} {ts} {a} {b} spot rising t is o read = record {
  spot = spot;
  rising = rising;
  heads = heads o (subst (λ p. IsAt p (items_at ts a) b) (sym (read ∙ ap (λ es. slice_get es b) (read-items ts a t spot.tier is)))
      (is-at (items_at ts a) b));
}
  where
    past : length (items_at ts a) ≤ b → (b < length (items_at ts a)) ⊎ (suc a ≡ length ts) → after_spot ts a b ≡ []
    past most (inl low) = absurd (omega (arith, low, most))
    past most (inr last) = ap (λ us. drop b (items_at ts a) ++ flat us) (drop_all (suc a) ts (omega (arith, last)))
        ∙ append-nil _ ∙ drop_all b (items_at ts a) most

    heads : (o : Option Entry) → IsAt o (items_at ts a) b → Heads ts a b o
    heads None most = past most spot.here
    heads (Some e) at = ap (λ es. es ++ flat (drop (suc a) ts)) at

module _ {k : ℕ × ℕ} {ts : List TierSeen} {a b : ℕ} where
  whole : {e : Entry} → IsReadAt k ts a b (Some e) → flat ts ≡ before_spot ts a b ++ e ∷ after_spot_but_one ts a b
  whole x = parted ts a b x.spot.tier ∙ ap (λ es. before_spot ts a b ++ es) x.heads

  rises : {e : Entry} → IsReadAt k ts a b (Some e) → AreRising (before_spot ts a b ++ e ∷ after_spot_but_one ts a b)
  rises x = subst AreRising (whole x) x.rising

  from-k : {e : Entry} → IsReadAt k ts a b (Some e) → is_lt (place_cmp e.0 k) ≡ false
  from-k x = (subst (AreFrom k) x.heads x.spot.is_place.from).0

  pub at-there : (o : Option Entry) → IsReadAt k ts a b o → IfSome o (λ e. get (from_sorted {R = place_cmp} (flat ts)) e.0 ≡ Some e.1)
  at-there None x = tt
  at-there (Some e) x = subst (λ es. get (from_sorted {R = place_cmp} es) e.0 ≡ Some e.1) (sym (whole x))
      (found k (before_spot ts a b) x.spot.is_place.below e _ (from-k x) (rises x))

  pub at-from : (o : Option Entry) → IsReadAt k ts a b o → IfSome o (λ e. is_lt (place_cmp e.0 k) ≡ false)
  at-from None x = tt
  at-from (Some e) x = from-k x

  pub at-least : (o : Option Entry) → IsReadAt k ts a b o → IfSome o (λ e. (q : ℕ × ℕ) → is_lt (place_cmp q k) ≡ false → is_lt (place_cmp q e.0) ≡ true
      → get (from_sorted {R = place_cmp} (flat ts)) q ≡ None)
  at-least None x = tt
  at-least (Some e) x = λ q late early. subst (λ es. get (from_sorted {R = place_cmp} es) q ≡ None) (sym (whole x))
      (none-before k (before_spot ts a b) x.spot.is_place.below e _ (from-k x) (rises x) q late early)

  pub at-none : (o : Option Entry) → IsReadAt k ts a b o
      → IfNone o ((q : ℕ × ℕ) → is_lt (place_cmp q k) ≡ false → get (from_sorted {R = place_cmp} (flat ts)) q ≡ None)
  at-none None x =
      let all : flat ts ≡ before_spot ts a b ++ [] = parted ts a b x.spot.tier ∙ ap (λ es. before_spot ts a b ++ es) x.heads in
      λ q late. subst (λ es. get (from_sorted {R = place_cmp} es) q ≡ None) (sym all)
      (none-from k (before_spot ts a b) x.spot.is_place.below (subst AreRising all x.rising) q late)
  at-none (Some e) x = tt

-- no entries
pub none-kept : from_sorted {R = place_cmp} [] ≡ empty {X = ℕ × ℕ}
none-kept = empty_of_len (from_sorted []) (map-len [] tt)

-- a slice that is written back whole
pub refilled : {A : Type 0} (n : ℕ) (xs ys : List A) → length xs ≡ n → take n (xs ++ drop (length xs) ys) ≡ xs
refilled n xs ys long = take_at xs (drop (length xs) ys) n long

-- tiers with one entry more
pub record HasOneMore (ts us : List TierSeen) (k v : ℕ × ℕ) : Type 0 where
  pub rising : AreRising (flat us)
  pub map_is : from_sorted {R = place_cmp} (flat us) ≡ insert (from_sorted (flat ts)) k v
  pub count : length (flat us) ≡ length (flat ts) + 1

pub one-inserted : {k : ℕ × ℕ} {ts : List TierSeen} {a b : ℕ} → IsSpotOf k ts a b → AreRising (flat ts) → (us : List TierSeen) (v : ℕ × ℕ)
    → get (from_sorted {R = place_cmp} (flat ts)) k ≡ None → flat us ≡ before_spot ts a b ++ (k, v) ∷ after_spot ts a b → HasOneMore ts us k v
one-inserted {k} {ts} {a} {b} spot rising us v new is =
    let P = before_spot ts a b in
    let S = after_spot ts a b in
    let all : flat ts ≡ P ++ S = parted ts a b spot.tier in
    let new-there = subst (λ es. get (from_sorted {R = place_cmp} es) k ≡ None) all new in
    let left : length (flat us) ≡ length P + length ((k, v) ∷ S) = ap length is ∙ length-append P ((k, v) ∷ S) in
    let right : length (flat ts) ≡ length P + length S = ap length all ∙ length-append P S in
    record {
      rising = subst AreRising (sym is) (more-rising k v P S spot.is_place.below spot.is_place.from (subst AreRising all rising) new-there);
      map_is = ap from_sorted is ∙ is-inserted k v P S spot.is_place.below spot.is_place.from (subst AreRising all rising) new-there
          ∙ ap (λ es. insert (from_sorted es) k v) (sym all);
      count = omega (arith, left, right);
    }

-- tiers without the entry of a key
pub record HasOneLess (ts us : List TierSeen) (k : ℕ × ℕ) : Type 0 where
  pub rising : AreRising (flat us)
  pub map_is : from_sorted {R = place_cmp} (flat us) ≡ remove (from_sorted (flat ts)) k
  pub count : length (flat us) + 1 ≡ length (flat ts)

late : (k : ℕ × ℕ) → is_lt (place_cmp k k) ≡ false
late k = ap is_lt (tied_itself place_total k)

module _ {k : ℕ × ℕ} {ts : List TierSeen} {a b : ℕ} where
  pub one-removed : {e : Entry} → IsReadAt k ts a b (Some e) → eq_by_cmp place_cmp k e.0 ≡ true → (us : List TierSeen)
      → flat us ≡ before_spot ts a b ++ after_spot_but_one ts a b → HasOneLess ts us k
  one-removed {e} x own us is =
      let P = before_spot ts a b in
      let S = after_spot_but_one ts a b in
      let key : k ≡ e.0 = tells_apart place_exact k e.0 own in
      let left : length (flat us) ≡ length P + length S = ap length is ∙ length-append P S in
      let right : length (flat ts) ≡ length P + length (e ∷ S) = ap length (whole x) ∙ length-append P (e ∷ S) in
      record {
        rising = subst AreRising (sym is) (less-rising P e S (rises x));
        map_is = ap from_sorted is ∙ is-removed P e S (subst (λ q. AreBelow q P) key x.spot.is_place.below) (rises x)
            ∙ ap (λ es. remove (from_sorted es) e.0) (sym (whole x)) ∙ ap (remove (from_sorted (flat ts))) (sym key);
        count = omega (arith, left, right);
      }

  -- a key that is not at its place is not there
  pub absent-end : IsReadAt k ts a b None → from_sorted {R = place_cmp} (flat ts) ≡ remove (from_sorted (flat ts)) k
  absent-end x = nothing-removed (from_sorted (flat ts)) k (at-none None x k (late k))

  pub absent-other : {e : Entry} → IsReadAt k ts a b (Some e) → eq_by_cmp place_cmp k e.0 ≡ false
      → from_sorted {R = place_cmp} (flat ts) ≡ remove (from_sorted (flat ts)) k
  absent-other {e} x other = nothing-removed (from_sorted (flat ts)) k (at-least (Some e) x k (late k) early)
    where
      early : is_lt (place_cmp k e.0) ≡ true
      early = elim (place_cmp k e.0) as (λ o. place_cmp k e.0 ≡ o → is_lt o ≡ true) [
        | Less ↦ λ p. refl
        | Equal ↦ λ p. absurd (false≢true (sym other ∙ ap is_eq p))
        | Greater ↦ λ p. absurd (false≢true (sym (from-k x) ∙ ap is_lt (place_total.antisymm e.0 k ∙ ap ordering_reverse p)))
      ] refl

-- tiers in the place of others, of the same room
pub still-fixed : (ts us : List TierSeen) (n m most : ℕ) → IsFixedMap ts n most → AreRising (flat us) → m ≡ length (flat us) → length us ≡ length ts
    → room_of us ≡ room_of ts → IsFixedMap us m most
still-fixed ts us n m most was rising count long room = record {
  some = omega (arith, was.some, long);
  rising = rising;
  count_is = count;
  low = omega (arith, was.low, room);
  exact = was.exact ∙ sym long;
}

-- an entry that stands anywhere is found
below-itself : (P : List Entry) (e : Entry) (S : List Entry) → AreRising (P ++ e ∷ S) → AreBelow e.0 P
below-itself [] e S rising = tt
below-itself (f ∷ P) e S rising = (less _ (first-holds _ _ (above-later f.0 P e S (first-holds _ _ rising))), below-itself P e S (second-holds _ _ rising))
  where
    above-later : (x : ℕ × ℕ) (Q : List Entry) (e : Entry) (S : List Entry) → T (below_all place_cmp x (Q ++ e ∷ S)) → T (below_all place_cmp x (e ∷ S))
    above-later x [] e S h = h
    above-later x (g ∷ Q) e S h = above-later x Q e S (second-holds _ _ h)

pub stands : (ts : List TierSeen) (a b : ℕ) → a < length ts → AreRising (flat ts) → (o : Option Entry) → IsAt o (items_at ts a) b
    → IfSome o (λ e. get (from_sorted {R = place_cmp} (flat ts)) e.0 ≡ Some e.1)
stands ts a b lt rising None at = tt
stands ts a b lt rising (Some e) at =
    let whole : flat ts ≡ before_spot ts a b ++ e ∷ after_spot_but_one ts a b =
    parted ts a b lt ∙ ap (λ es. before_spot ts a b ++ (es ++ flat (drop (suc a) ts))) at in
    let rises = subst AreRising whole rising in
    subst (λ es. get (from_sorted {R = place_cmp} es) e.0 ≡ Some e.1) (sym whole) (found e.0 (before_spot ts a b)
    (below-itself (before_spot ts a b) e _ rises) e _ (late e.0) rises)
