-- The order of paths: what it says of two of them, and of those of a file tree.
use Rattle.std.proofs.Common.{◌≡◌, ℕ, zero, suc, ◌<◌, List, [], ◌∷◌, ◌++◌, Some}
use Rattle.std.proofs.Common.{slice_get, refl, sym, ap, subst, ◌∙◌, arith}
use Rattle.std.specs.Cmp.Lexicographic.{slice_cmp}
use Rattle.std.specs.List.{AllByRecursion}
use Rattle.std.specs.List.Sorted.{IsStrictlySortedBy}
use Rattle.std.specs.Ordering.{nat_cmp, ordering_then}
use Rattle.std.specs.declared.cmp.Ordering.{Ordering}
use Rattle.std.specs.declared.cmp.Ordering.TheVariants.{Less, Equal, Greater}
use Rattle.filetree.specs.Paths.{IsPrefix, path_cmp, AreInOrder, AreApart, ArePathsApart}
use Rattle.filetree.proofs.ComparedKeys.{cmp_same, cmp_equal}

-- ---- what order says

then_less : (o a b : Ordering) → (a ≡ Less → b ≡ Less) → ordering_then o a ≡ Less → ordering_then o b ≡ Less
then_less Less a b f e = refl
then_less Equal a b f e = f e
then_less Greater a b f e = cc

pub less_ascends : (p q : List (List ℕ)) → path_cmp p q ≡ Less → slice_cmp (slice_cmp nat_cmp) p q ≡ Less
less_ascends [] q e = cc
less_ascends (k ∷ ks) [] e = cc
less_ascends (k ∷ ks) (l ∷ ls) e = then_less (slice_cmp nat_cmp k l) (path_cmp ks ls) (slice_cmp (slice_cmp nat_cmp) ks ls) (less_ascends ks ls) e

pub begins_ties : (p rest : List (List ℕ)) → path_cmp p (p ++ rest) ≡ Equal
begins_ties [] rest = refl
begins_ties (k ∷ ks) rest = ap (λ o. ordering_then o (path_cmp ks (ks ++ rest))) (cmp_same k) ∙ begins_ties ks rest

pub less_apart : (p q : List (List ℕ)) → path_cmp p q ≡ Less → AreApart p q
less_apart p q less = record {
  ascends = less_ascends p q less;
  apart = λ b. let tie : path_cmp p q ≡ Equal = subst (λ x. path_cmp p x ≡ Equal) (sym b.1) (begins_ties p b.0) in cc;
}

first_decides : (o a b : Ordering) → (o ≡ Equal → a ≡ Less → b ≡ Less) → ordering_then o a ≡ Less → ordering_then o b ≡ Less
first_decides Less a b f e = refl
first_decides Equal a b f e = f refl e
first_decides Greater a b f e = cc

apart_less : (p q : List (List ℕ)) → slice_cmp (slice_cmp nat_cmp) p q ≡ Less → (IsPrefix p q → ⊥) → path_cmp p q ≡ Less
apart_less [] q e apart = absurd (apart (q, refl))
apart_less (k ∷ ks) [] e apart = cc
apart_less (k ∷ ks) (l ∷ ls) e apart =
    first_decides (slice_cmp nat_cmp k l) (slice_cmp (slice_cmp nat_cmp) ks ls) (path_cmp ks ls)
    (λ same below. apart_less ks ls below (λ b. apart (b.0, ap (λ x. x ∷ ls) (sym (cmp_equal k l same)) ∙ ap (λ x. k ∷ x) b.1))) e

over_at : (p : List (List ℕ)) (ps : List (List (List ℕ))) (j : ℕ) (q : List (List ℕ)) → AllByRecursion (λ x. path_cmp p x ≡ Less) ps → slice_get ps j ≡ Some q
    → path_cmp p q ≡ Less
over_at p [] j q a e = cc
over_at p (x ∷ ps) zero q a e = let same : x ≡ q = cc in subst (λ y. path_cmp p y ≡ Less) same a.0
over_at p (x ∷ ps) (suc j) q a e = over_at p ps j q a.1 e

pub order_at : (ps : List (List (List ℕ))) (i j : ℕ) (p q : List (List ℕ)) → AreInOrder ps → i < j → slice_get ps i ≡ Some p → slice_get ps j ≡ Some q
    → path_cmp p q ≡ Less
unfolding IsStrictlySortedBy
order_at [] i j p q a less e f = cc
order_at (x ∷ ps) i zero p q a less e f = absurd (omega arith)
order_at (x ∷ ps) zero (suc j) p q a less e f = let same : x ≡ p = cc in subst (λ y. path_cmp y q ≡ Less) same (over_at x ps j q a.0 f)
order_at (x ∷ ps) (suc i) (suc j) p q a less e f = order_at ps i j p q a.1 (omega arith) e f

over_from : (p : List (List ℕ)) (ps : List (List (List ℕ))) → ((j : ℕ) (q : List (List ℕ)) → slice_get ps j ≡ Some q → path_cmp p q ≡ Less)
    → AllByRecursion (λ x. path_cmp p x ≡ Less) ps
over_from p [] f = tt
over_from p (x ∷ ps) f = (f 0 x refl, over_from p ps (λ j q e. f (suc j) q e))

pub order_from : (ps : List (List (List ℕ))) → ((i j : ℕ) (p q : List (List ℕ)) → i < j → slice_get ps i ≡ Some p → slice_get ps j ≡ Some q
    → path_cmp p q ≡ Less) → AreInOrder ps
unfolding IsStrictlySortedBy
order_from [] f = tt
order_from (x ∷ ps) f = (
  over_from x ps (λ j q e. f 0 (suc j) x q (omega arith) refl e),
  order_from ps (λ i j p q less e g. f (suc i) (suc j) p q (omega arith) e g),
)

pub order_is_apart : (ps : List (List (List ℕ))) → (AreInOrder ps → ArePathsApart ps) × (ArePathsApart ps → AreInOrder ps)
order_is_apart ps = (
  λ a i j p q less e f. less_apart p q (order_at ps i j p q a less e f),
  λ a. order_from ps (λ i j p q less e f. let both = a i j p q less e f in apart_less p q both.ascends both.apart),
)
