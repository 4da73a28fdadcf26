-- A path's place among paths in order, and what it clashes with.
use Rattle.std.proofs.Common.{◌≡◌, ◌≢◌, ℕ, zero, suc, ◌+◌, ◌<◌, ◌≤◌, true, false, List, [], ◌∷◌, ◌++◌, length, take, drop, get_or, Some, slice_get, inl, inr}
use Rattle.std.proofs.Common.{refl, sym, ap, subst, ◌∙◌, arith, ◌⊎◌}
use Rattle.std.proofs.lemmas.Cmp.{nat_list_cmp_total}
use Rattle.std.proofs.lemmas.List.{drop_all, drop_more}
use Rattle.std.proofs.lemmas.Option.{slice_get-get_or}
use Rattle.std.specs.Cmp.Lexicographic.{slice_cmp}
use Rattle.std.specs.List.{AllByRecursion}
use Rattle.std.specs.List.Sorted.{IsStrictlySortedBy, IsNonDecreasingBy}
use Rattle.std.specs.Ordering.{nat_cmp, is_ne, ordering_then, ordering_index, ordering_reverse}
use Rattle.std.specs.declared.cmp.Ordering.{Ordering}
use Rattle.std.specs.declared.cmp.Ordering.TheVariants.{Less, Equal, Greater}
use Rattle.drafts.specs.Orders.{IsPlaceOf}
use Rattle.filetree.proofs.ComparedKeys.{cmp_equal}
use Rattle.filetree.proofs.PathOrder.{begins_ties, order_at}
use Rattle.filetree.specs.Paths.{AreInOrder, IsPrefix, path_cmp}
use Rattle.chains.proofs.Cases.{both_equal}

-- the order of two, by the first difference
pub decided : (o a : Ordering) → ordering_then o a ≡ Less → (o ≡ Less) ⊎ ((o ≡ Equal) × (a ≡ Less))
decided Less a e = inl refl
decided Equal a e = inr (refl, e)
decided Greater a e = cc

pub less_trans : (p q r : List (List ℕ)) → path_cmp p q ≡ Less → path_cmp q r ≡ Less → path_cmp p r ≡ Less
less_trans [] q r a b = cc
less_trans (k ∷ ks) [] r a b = cc
less_trans (k ∷ ks) (l ∷ ls) [] a b = cc
less_trans (k ∷ ks) (l ∷ ls) (m ∷ ms) a b =
    elim (decided (slice_cmp nat_cmp k l) (path_cmp ks ls) a) [
      | inl first ↦ elim (decided (slice_cmp nat_cmp l m) (path_cmp ls ms) b) [
        | inl second ↦ rw (nat_list_cmp_total.trans k l m first second) refl
        | inr same ↦ rw (subst (λ x. slice_cmp nat_cmp k x ≡ Less) (cmp_equal l m same.0) first) refl
      ]
      | inr alike ↦ elim (decided (slice_cmp nat_cmp l m) (path_cmp ls ms) b) [
        | inl second ↦ rw (subst (λ x. slice_cmp nat_cmp x m ≡ Less) (sym (cmp_equal k l alike.0)) second) refl
        | inr same ↦
            let key : slice_cmp nat_cmp k m ≡ Equal = subst (λ x. slice_cmp nat_cmp k x ≡ Equal) (cmp_equal l m same.0) alike.0 in
            rw key (less_trans ks ls ms alike.1 same.1)
      ]
    ]

then_reverse : (o u a b : Ordering) → o ≡ ordering_reverse u → a ≡ ordering_reverse b → ordering_then o a ≡ ordering_reverse (ordering_then u b)
then_reverse o Less a b e f = rw e refl
then_reverse o Equal a b e f = rw e f
then_reverse o Greater a b e f = rw e refl

pub path_mirror : (p q : List (List ℕ)) → path_cmp p q ≡ ordering_reverse (path_cmp q p)
path_mirror [] [] = refl
path_mirror [] (l ∷ ls) = refl
path_mirror (k ∷ ks) [] = refl
path_mirror (k ∷ ks) (l ∷ ls) = then_reverse (slice_cmp nat_cmp k l) (slice_cmp nat_cmp l k) (path_cmp ks ls) (path_cmp ls ks) (nat_list_cmp_total.antisymm k l)
    (path_mirror ks ls)

pub greater_less : (p q : List (List ℕ)) → path_cmp p q ≡ Greater → path_cmp q p ≡ Less
greater_less p q e = path_mirror q p ∙ ap ordering_reverse e

pub less_greater : (p q : List (List ℕ)) → path_cmp p q ≡ Less → path_cmp q p ≡ Greater
less_greater p q e = path_mirror q p ∙ ap ordering_reverse e

-- ---- what ties

pub tie_begins : (p q : List (List ℕ)) → path_cmp p q ≡ Equal → IsPrefix p q ⊎ IsPrefix q p
tie_begins [] q e = inl (q, refl)
tie_begins (k ∷ ks) [] e = inr (k ∷ ks, refl)
tie_begins (k ∷ ks) (l ∷ ls) e =
    let both = both_equal (slice_cmp nat_cmp k l) (path_cmp ks ls) e in
    let key : k ≡ l = cmp_equal k l both.0 in
    elim (tie_begins ks ls both.1) [
      | inl b ↦ inl (b.0, ap (λ x. x ∷ ls) (sym key) ∙ ap (λ x. k ∷ x) b.1)
      | inr b ↦ inr (b.0, ap (λ x. x ∷ ks) key ∙ ap (λ x. l ∷ x) b.1)
    ]

pub begins_tie : (p q : List (List ℕ)) → IsPrefix p q ⊎ IsPrefix q p → path_cmp p q ≡ Equal
begins_tie p q either =
    elim either [
      | inl b ↦ subst (λ x. path_cmp p x ≡ Equal) (sym b.1) (begins_ties p b.0)
      | inr b ↦ path_mirror p q ∙ ap ordering_reverse (subst (λ x. path_cmp q x ≡ Equal) (sym b.1) (begins_ties q b.0))
    ]

-- ---- a search meets the lesser paths, then those that tie, then the greater

pub rises : (p q r : List (List ℕ)) → path_cmp q r ≡ Less → ordering_index (path_cmp q p) ≤ ordering_index (path_cmp r p)
rises p q r less = by (path_cmp q p) (path_cmp r p) refl refl
  where
    by : (o u : Ordering) → path_cmp q p ≡ o → path_cmp r p ≡ u → ordering_index (path_cmp q p) ≤ ordering_index (path_cmp r p)
    by Less u e f = rw e (omega arith)
    by Equal Less e f = let bad : path_cmp q p ≡ Less = less_trans q r p less f in cc
    by Equal Equal e f = rw (e, f) (omega arith)
    by Equal Greater e f = rw (e, f) (omega arith)
    by Greater Less e f = let bad : path_cmp q p ≡ Less = less_trans q r p less f in cc
    by Greater Equal e f = let bad : path_cmp r p ≡ Greater = less_greater p r (less_trans p q r (greater_less q p e) less) in cc
    by Greater Greater e f = rw (e, f) (omega arith)

pub le_apart : (i j : ℕ) → i ≤ j → (i ≡ j) ⊎ (i < j)
le_apart i j le = grind arith

pub search_rises : (p : List (List ℕ)) (ps : List (List (List ℕ))) → AreInOrder ps → IsNonDecreasingBy (λ q. ordering_index (path_cmp q p)) ps
search_rises p ps order i j d le within =
    elim (le_apart i j le) [
      | inl same ↦ rw same (omega arith)
      | inr less ↦ rises p (get_or ps i d) (get_or ps j d) (order_at ps i j (get_or ps i d) (get_or ps j d) order less (slice_get-get_or ps i d (omega arith))
          (slice_get-get_or ps j d within))
    ]

-- ---- a path that is put between the lesser and the greater

over_all : (p : List (List ℕ)) (ps : List (List (List ℕ))) → AllByRecursion (λ q. path_cmp q p ≡ Greater) ps → AllByRecursion (λ q. path_cmp p q ≡ Less) ps
over_all p [] a = tt
over_all p (q ∷ ps) a = (greater_less q p a.0, over_all p ps a.1)

over_put : (x p : List (List ℕ)) (i : ℕ) (ps : List (List (List ℕ))) → AllByRecursion (λ q. path_cmp x q ≡ Less) ps → path_cmp x p ≡ Less
    → AllByRecursion (λ q. path_cmp x q ≡ Less) (take i ps ++ p ∷ drop i ps)
over_put x p zero ps a less = (less, a)
over_put x p (suc i) [] a less = (less, tt)
over_put x p (suc i) (y ∷ ps) a less = (a.0, over_put x p i ps a.1 less)

pub put_in_order : (p : List (List ℕ)) (i : ℕ) (ps : List (List (List ℕ))) → AreInOrder ps → IsPlaceOf p ps i → AreInOrder (take i ps ++ p ∷ drop i ps)
unfolding IsStrictlySortedBy
put_in_order p zero ps order place = (over_all p ps place.above, order)
put_in_order p (suc i) [] order place = (tt, tt)
put_in_order p (suc i) (x ∷ ps) order place =
    (over_put x p i ps order.0 place.below.0, put_in_order p i ps order.1 (record { below = place.below.1; above = place.above }))

-- a path at its place clashes with none
pub no_clash : (p : List (List ℕ)) (i : ℕ) (ps : List (List (List ℕ))) → IsPlaceOf p ps i → (n : ℕ) (q : List (List ℕ)) → slice_get ps n ≡ Some q
    → path_cmp q p ≢ Equal
no_clash p i [] place n q at = cc
no_clash p zero (x ∷ ps) place zero q at = let same : x ≡ q = cc in λ tie. let more : path_cmp q p ≡ Greater = subst (λ y. path_cmp y p ≡ Greater) same
    place.above.0 in cc
no_clash p zero (x ∷ ps) place (suc n) q at = no_clash p zero ps (record { below = tt; above = place.above.1 }) n q at
no_clash p (suc i) (x ∷ ps) place zero q at = let same : x ≡ q = cc in λ tie. let less : path_cmp q p ≡ Less =
    subst (λ y. path_cmp y p ≡ Less) same place.below.0 in cc
no_clash p (suc i) (x ∷ ps) place (suc n) q at = no_clash p i ps (record { below = place.below.1; above = place.above }) n q at

-- ---- comparing component by component

pub compare_more : (p q : List (List ℕ)) (i : ℕ) → i < length p → i < length q
    → path_cmp (drop i p) (drop i q) ≡ ordering_then (slice_cmp nat_cmp (get_or p i []) (get_or q i [])) (path_cmp (drop (i + 1) p) (drop (i + 1) q))
compare_more p q i in_p in_q = ap (λ x. path_cmp x (drop i q)) (drop_more p i [] in_p)
    ∙ ap (λ x. path_cmp (get_or p i [] ∷ drop (i + 1) p) x) (drop_more q i [] in_q)

none_right : (p : List (List ℕ)) → path_cmp p [] ≡ Equal
none_right [] = refl
none_right (k ∷ ks) = refl

pub compare_all : (p q : List (List ℕ)) (i : ℕ) → (length p ≤ i) ⊎ (length q ≤ i) → path_cmp (drop i p) (drop i q) ≡ Equal
compare_all p q i past =
    elim past [
      | inl own ↦ ap (λ x. path_cmp x (drop i q)) (drop_all i p own)
      | inr other ↦ ap (λ x. path_cmp (drop i p) x) (drop_all i q other) ∙ none_right (drop i p)
    ]

turned : (p q : List (List ℕ)) (i : ℕ) (a b : List ℕ) (o : Ordering) → path_cmp p q ≡ path_cmp (drop i p) (drop i q) → i < length p → i < length q
    → get_or p i [] ≡ a → get_or q i [] ≡ b
    → o ≡ slice_cmp nat_cmp a b → path_cmp p q ≡ ordering_then o (path_cmp (drop (i + 1) p) (drop (i + 1) q))
turned p q i a b o so in_p in_q is_a is_b order =
    so ∙ compare_more p q i in_p in_q ∙ ap (λ x. ordering_then (slice_cmp nat_cmp x (get_or q i [])) (path_cmp (drop (i + 1) p) (drop (i + 1) q))) is_a
    ∙ ap (λ x. ordering_then (slice_cmp nat_cmp a x) (path_cmp (drop (i + 1) p) (drop (i + 1) q))) is_b
    ∙ ap (λ x. ordering_then x (path_cmp (drop (i + 1) p) (drop (i + 1) q))) (sym order)

pub turn_ends : (p q : List (List ℕ)) (i : ℕ) (a b : List ℕ) (o : Ordering) → path_cmp p q ≡ path_cmp (drop i p) (drop i q) → i < length p → i < length q
    → get_or p i [] ≡ a → get_or q i [] ≡ b
    → o ≡ slice_cmp nat_cmp a b → is_ne o ≡ true → o ≡ path_cmp p q
turn_ends p q i a b o so in_p in_q is_a is_b order ne = sym (turned p q i a b o so in_p in_q is_a is_b order
    ∙ decides o (path_cmp (drop (i + 1) p) (drop (i + 1) q)) ne)
  where
    decides : (o x : Ordering) → is_ne o ≡ true → ordering_then o x ≡ o
    decides Less x e = refl
    decides Equal x e = cc
    decides Greater x e = refl

pub turn_goes_on : (p q : List (List ℕ)) (i : ℕ) (a b : List ℕ) (o : Ordering) → path_cmp p q ≡ path_cmp (drop i p) (drop i q) → i < length p → i < length q
    → get_or p i [] ≡ a → get_or q i [] ≡ b
    → o ≡ slice_cmp nat_cmp a b → is_ne o ≡ false → path_cmp p q ≡ path_cmp (drop (i + 1) p) (drop (i + 1) q)
turn_goes_on p q i a b o so in_p in_q is_a is_b order ne = turned p q i a b o so in_p in_q is_a is_b order
    ∙ defers o (path_cmp (drop (i + 1) p) (drop (i + 1) q)) ne
  where
    defers : (o x : Ordering) → is_ne o ≡ false → ordering_then o x ≡ x
    defers Less x e = cc
    defers Equal x e = refl
    defers Greater x e = cc
