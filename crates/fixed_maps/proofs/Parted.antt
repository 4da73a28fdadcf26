-- Entries whose keys rise, parted at the place of a key.
use Rattle.std.proofs.Common.{◌≡◌, ℕ, ◌<◌, ◌++◌, Bool, true, false, cond, T, List, [], ◌∷◌, Option, Some, None, IfSome}
use Rattle.std.proofs.Common.{IfNone, refl, sym, ap, ◌∙◌, subst, arith, Less}
use Rattle.std.specs.Ordering.{eq_by_cmp, is_lt, is_eq, nat_cmp, ordering_then, ordering_reverse}
use Rattle.std.specs.Cmp.{eq_by_cmp_equiv, ranked, tied_itself}
use Rattle.std.specs.declared.cmp.Ordering.{Ordering}
use Rattle.std.specs.declared.cmp.Ordering.TheVariants.{Equal, Greater}
use Rattle.std.specs.FinMap.{FinMap, from_sorted, get, insert, remove, get-from_sorted, entries-from_sorted, entries-insert, get-remove}
use Rattle.std.specs.FinMap.{same_map, same_entries_map}
use Rattle.std.specs.FinMap.Entries.{find, put, by_order, below_all, is_sorted-put}
use Rattle.std.proofs.lemmas.Bool.{false≢true}
use Rattle.std.proofs.lemmas.Option.{none-some}
use Rattle.std.proofs.lemmas.Map.Views.{tells_apart}
use Rattle.node_maps.specs.Known.{place_cmp}
use Rattle.node_maps.proofs.Known.{place_total, place_exact}
use Rattle.fixed_maps.specs.Tiers.{Entry, AreBelow, AreFrom, AreRising}
use Rattle.fixed_maps.proofs.Rising.{first-holds, second-holds, both-hold, less}
use Rattle.fixed_maps.proofs.Spots.{rising-right}

-- ---- keys

turned : (x y : ℕ × ℕ) → place_cmp x y ≡ Less → place_cmp y x ≡ Greater
turned x y e = place_total.antisymm y x ∙ ap ordering_reverse e

-- a key is another one than one that is below k, if it is not below k itself
apart : (x q k : ℕ × ℕ) → place_cmp x k ≡ Less → is_lt (place_cmp q k) ≡ false → eq_by_cmp place_cmp q x ≡ false
apart x q k low from = elim (eq_by_cmp place_cmp q x) as (λ b. eq_by_cmp place_cmp q x ≡ b → b ≡ false) [
  | true ↦ λ e. absurd (false≢true (sym from ∙ ap (λ p. is_lt (place_cmp p k)) (tells_apart place_exact q x e) ∙ ap is_lt low))
  | false ↦ λ e. refl
] refl

-- a key is another one than one that is above x, if it is not itself above x
apart-above : (x q y : ℕ × ℕ) → place_cmp x y ≡ Less → is_lt (place_cmp x q) ≡ false → eq_by_cmp place_cmp q y ≡ false
apart-above x q y low from = elim (eq_by_cmp place_cmp q y) as (λ b. eq_by_cmp place_cmp q y ≡ b → b ≡ false) [
  | true ↦ λ e. absurd (false≢true (sym from ∙ ap (λ p. is_lt (place_cmp x p)) (tells_apart place_exact q y e) ∙ ap is_lt low))
  | false ↦ λ e. refl
] refl

own : (q : ℕ × ℕ) → eq_by_cmp place_cmp q q ≡ true
own q = (eq_by_cmp_equiv place_total).refl q

-- ---- look-ups

pub find-past : (k q : ℕ × ℕ) (P S : List Entry) → AreBelow k P → is_lt (place_cmp q k) ≡ false → find place_cmp q (P ++ S) ≡ find place_cmp q S
find-past k q [] S below from = refl
find-past k q (e ∷ P) S below from = ap (λ b. cond b (Some e.1) (find place_cmp q (P ++ S))) (apart e.0 q k below.0 from) ∙ find-past k q P S below.1 from

pub none-after : (x q : ℕ × ℕ) (es : List Entry) → T (below_all place_cmp x es) → is_lt (place_cmp x q) ≡ false → find place_cmp q es ≡ None
none-after x q [] above from = refl
none-after x q (e ∷ es) above from =
    ap (λ b. cond b (Some e.1) (find place_cmp q es)) (apart-above x q e.0 (less _ (first-holds _ _ above)) from)
    ∙ none-after x q es (second-holds _ _ above) from

module _ (k : ℕ × ℕ) (P : List Entry) (below : AreBelow k P) where
  -- the first entry from k on
  module _ (e : Entry) (S : List Entry) (from : is_lt (place_cmp e.0 k) ≡ false) (rising : AreRising (P ++ e ∷ S)) where
    above : T (below_all place_cmp e.0 S)
    above = first-holds _ _ (rising-right P (e ∷ S) rising)

    pub found : get (from_sorted {R = place_cmp} (P ++ e ∷ S)) e.0 ≡ Some e.1
    found = get-from_sorted place_cmp (P ++ e ∷ S) e.0 rising ∙ find-past k e.0 P (e ∷ S) below from
        ∙ ap (λ b. cond b (Some e.1) (find place_cmp e.0 S)) (own e.0)

    pub none-before : (q : ℕ × ℕ) → is_lt (place_cmp q k) ≡ false → is_lt (place_cmp q e.0) ≡ true → get (from_sorted {R = place_cmp} (P ++ e ∷ S)) q ≡ None
    none-before q late early =
        let low : place_cmp q e.0 ≡ Less = less _ (subst T (sym early) tt) in
        get-from_sorted place_cmp (P ++ e ∷ S) q rising ∙ find-past k q P (e ∷ S) below late
        ∙ ap (λ o. cond (is_eq o) (Some e.1) (find place_cmp q S)) low
        ∙ none-after e.0 q S above (ap is_lt (turned q e.0 low))

  pub none-from : AreRising (P ++ []) → (q : ℕ × ℕ) → is_lt (place_cmp q k) ≡ false → get (from_sorted {R = place_cmp} (P ++ [])) q ≡ None
  none-from rising q late = get-from_sorted place_cmp (P ++ []) q rising ∙ find-past k q P [] below late

-- ---- an entry more

put-past : (k v : ℕ × ℕ) (P S : List Entry) → AreBelow k P → put place_cmp k v (P ++ S) ≡ P ++ put place_cmp k v S
put-past k v [] S below = refl
put-past k v (e ∷ P) S below =
    ap (λ o. by_order o ((k, v) ∷ e ∷ (P ++ S)) ((e.0, v) ∷ (P ++ S)) (e ∷ put place_cmp k v (P ++ S))) (turned e.0 k below.0)
    ∙ ap (λ es. e ∷ es) (put-past k v P S below.1)

put-first : (k v : ℕ × ℕ) (S : List Entry) → AreFrom k S → find place_cmp k S ≡ None → put place_cmp k v S ≡ (k, v) ∷ S
put-first k v [] from none = refl
put-first k v (e ∷ S) from none = elim (place_cmp k e.0) as (λ o. place_cmp k e.0 ≡ o → by_order o ((k, v) ∷ e ∷ S) ((e.0, v) ∷ S) (e ∷ put place_cmp k v S)
    ≡ (k, v) ∷ e ∷ S) [
      | Less ↦ λ p. refl
      | Equal ↦ λ p. absurd (none-some e.1 (sym none ∙ ap (λ o. cond (is_eq o) (Some e.1) (find place_cmp k S)) p))
      | Greater ↦ λ p. absurd (false≢true (sym from.0 ∙ ap is_lt (place_total.antisymm e.0 k ∙ ap ordering_reverse p)))
    ] refl

module _ (k v : ℕ × ℕ) (P S : List Entry) (below : AreBelow k P) (from : AreFrom k S) (rising : AreRising (P ++ S))
    (new : get (from_sorted {R = place_cmp} (P ++ S)) k ≡ None) where
  own-late : is_lt (place_cmp k k) ≡ false
  own-late = ap is_lt (tied_itself place_total k)

  is-put : put place_cmp k v (P ++ S) ≡ P ++ (k, v) ∷ S
  is-put = put-past k v P S below
      ∙ ap (λ es. P ++ es) (put-first k v S from
      (sym (find-past k k P S below own-late) ∙ sym (get-from_sorted place_cmp (P ++ S) k rising) ∙ new))

  pub more-rising : AreRising (P ++ (k, v) ∷ S)
  more-rising = subst AreRising is-put (is_sorted-put place_cmp place_total k v (P ++ S) rising)

  pub is-inserted : from_sorted {R = place_cmp} (P ++ (k, v) ∷ S) ≡ insert (from_sorted (P ++ S)) k v
  is-inserted = same_entries_map _ _ (entries-from_sorted place_cmp (P ++ (k, v) ∷ S) more-rising ∙ sym is-put
      ∙ ap (put place_cmp k v) (sym (entries-from_sorted place_cmp (P ++ S) rising)) ∙ sym (entries-insert place_total (from_sorted (P ++ S)) k v))

-- ---- an entry less

below-without : (x : ℕ × ℕ) (P : List Entry) (e : Entry) (S : List Entry) → T (below_all place_cmp x (P ++ e ∷ S)) → T (below_all place_cmp x (P ++ S))
below-without x [] e S h = second-holds _ _ h
below-without x (f ∷ P) e S h = both-hold _ _ (first-holds _ _ h) (below-without x P e S (second-holds _ _ h))

pub less-rising : (P : List Entry) (e : Entry) (S : List Entry) → AreRising (P ++ e ∷ S) → AreRising (P ++ S)
less-rising [] e S h = second-holds _ _ h
less-rising (f ∷ P) e S h = both-hold _ _ (below-without f.0 P e S (first-holds _ _ h)) (less-rising P e S (second-holds _ _ h))

skipped : (q : ℕ × ℕ) (P : List Entry) (e : Entry) (S : List Entry) → eq_by_cmp place_cmp q e.0 ≡ false
    → find place_cmp q (P ++ S) ≡ find place_cmp q (P ++ e ∷ S)
skipped q [] e S other = sym (ap (λ b. cond b (Some e.1) (find place_cmp q S)) other)
skipped q (f ∷ P) e S other = ap (λ o. cond (eq_by_cmp place_cmp q f.0) (Some f.1) o) (skipped q P e S other)

module _ (P : List Entry) (e : Entry) (S : List Entry) (below : AreBelow e.0 P) (rising : AreRising (P ++ e ∷ S)) where
  gone : (q : ℕ × ℕ) (b : Bool) → eq_by_cmp place_cmp q e.0 ≡ b → find place_cmp q (P ++ S) ≡ cond b None (find place_cmp q (P ++ e ∷ S))
  gone q true same =
      let is = tells_apart place_exact q e.0 same in
      subst (λ p. find place_cmp p (P ++ S) ≡ None) (sym is)
      (find-past e.0 e.0 P S below (ap is_lt (tied_itself place_total e.0))
      ∙ none-after e.0 e.0 S (first-holds _ _ (rising-right P (e ∷ S) rising)) (ap is_lt (tied_itself place_total e.0)))
  gone q false other = skipped q P e S other

  pub is-removed : from_sorted {R = place_cmp} (P ++ S) ≡ remove (from_sorted (P ++ e ∷ S)) e.0
  is-removed = same_map place_total place_exact _ _ (λ q.
      get-from_sorted place_cmp (P ++ S) q (less-rising P e S rising) ∙ gone q _ refl
      ∙ ap (λ o. cond (eq_by_cmp place_cmp q e.0) None o) (sym (get-from_sorted place_cmp (P ++ e ∷ S) q rising))
      ∙ sym (get-remove place_total (from_sorted (P ++ e ∷ S)) e.0 q))

-- a key that is not there
pub nothing-removed : (m : FinMap place_cmp (ℕ × ℕ)) (k : ℕ × ℕ) → get m k ≡ None → m ≡ remove m k
nothing-removed m k none = same_map place_total place_exact m (remove m k) (λ q. by q (eq_by_cmp place_cmp q k) refl ∙ sym (get-remove place_total m k q))
  where
    by : (q : ℕ × ℕ) (b : Bool) → eq_by_cmp place_cmp q k ≡ b → get m q ≡ cond b None (get m q)
    by q true is = ap (get m) (tells_apart place_exact q k is) ∙ none
    by q false is = refl

-- no key is below the first of all
pub none-below : (q : ℕ × ℕ) → is_lt (place_cmp q (0, 0)) ≡ false
none-below q = by (nat_cmp q.0 0) (nat_cmp q.1 0) refl refl
  where
    not-less : (n : ℕ) (o : Ordering) → nat_cmp n 0 ≡ o → is_lt o ≡ false
    not-less n Less e = absurd (let low : n < 0 = ranked n 0 Less (sym e) in omega (arith, low))
    not-less n Equal e = refl
    not-less n Greater e = refl

    by : (o p : Ordering) → nat_cmp q.0 0 ≡ o → nat_cmp q.1 0 ≡ p → is_lt (ordering_then o p) ≡ false
    by Less p e f = not-less q.0 Less e
    by Equal p e f = not-less q.1 p f
    by Greater p e f = refl

module _ (G : ℕ × ℕ → Type 0) where
  pub first-least : (o : Option Entry) → IfSome o (λ e. (q : ℕ × ℕ) → is_lt (place_cmp q (0, 0)) ≡ false → is_lt (place_cmp q e.0) ≡ true → G q)
      → IfSome o (λ e. (q : ℕ × ℕ) → is_lt (place_cmp q e.0) ≡ true → G q)
  first-least None h = tt
  first-least (Some e) h = λ q early. h q (none-below q) early

  pub first-none : (o : Option Entry) → IfNone o ((q : ℕ × ℕ) → is_lt (place_cmp q (0, 0)) ≡ false → G q) → IfNone o ((q : ℕ × ℕ) → G q)
  first-none None h = λ q. h q (none-below q)
  first-none (Some e) h = tt
