-- Counts of faults.
use Rattle.std.proofs.Common.{◌≡◌, ℕ, zero, suc, ◌+◌, ◌%◌, ◌^◌, ◌<◌, List, [], ◌∷◌, ◌++◌, cond, refl, ap, sym, ◌∙◌, subst, arith}
use Rattle.std.proofs.Math.Nat.{mod-add-mod}
use Rattle.std.proofs.lemmas.List.Sums.{sum_by_push}
use Rattle.folders.specs.Shelf.{more}
use Rattle.folders.specs.declared.report.FileVerdict.{FileVerdict}
use Rattle.folders.specs.Verdicts.{fault_count, is_unreadable, unreadable_count}

pub more-more : (count n m : ℕ) → more (more count n) m ≡ more count (n + m)
more-more count n zero = let e : n ≡ n + 0 = omega arith in ap (more count) e
more-more count n (suc m) =
    let e : suc (n + m) ≡ n + suc m = omega arith in
    ap (λ k. (k + 1) % 2 ^ 64) (more-more count n m) ∙ ap (more count) e

pub unreadable_push : (old mid new : ℕ) (files : List FileVerdict) (v : FileVerdict) → mid ≡ more old (unreadable_count files) → new ≡ more mid (fault_count v)
    → new ≡ more old (unreadable_count (files ++ v ∷ []))
unreadable_push old mid new files v before one =
    one ∙ ap (λ k. more k (fault_count v)) before ∙ more-more old (unreadable_count files) (fault_count v)
    ∙ ap (more old) (sym (sum_by_push (λ x. cond (is_unreadable x) 1 0) files v))

-- the count after n more, where it fits before
pub more_is : (count n : ℕ) → count < 2 ^ 64 → more count n ≡ (count + n) % 2 ^ 64
more_is count zero fits = let e : count ≡ (count + 0) % 2 ^ 64 = omega arith in e
more_is count (suc n) fits =
    let e : count + n + 1 ≡ count + suc n = omega arith in
    ap (λ k. (k + 1) % 2 ^ 64) (more_is count n fits) ∙ mod-add-mod (count + n) (2 ^ 64) 1 ∙ ap (λ k. k % 2 ^ 64) e

-- a count that did not change grew by none, where it grew by less than 2 ^ 64
pub more_none : (count n : ℕ) → n < 2 ^ 64 → more count n ≡ count → n ≡ 0
more_none count zero fits same = refl
more_none count (suc n) fits same =
    let below : count < 2 ^ 64 = subst (λ k. k < 2 ^ 64) same (let lt : (more count n + 1) % 2 ^ 64 < 2 ^ 64 = omega arith in lt) in
    absurd (let e : (count + suc n) % 2 ^ 64 ≡ count = sym (more_is count (suc n) below) ∙ same in omega arith)
