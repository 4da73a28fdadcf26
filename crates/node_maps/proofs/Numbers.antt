-- How many numbers have a page.
use Rattle.std.proofs.Common.{◌≡◌, ◌≢◌, ℕ, zero, suc, ◌+◌, ◌-◌, ◌^◌, ◌<◌, ◌≤◌, Bool, true, false, cond, eqb, not, ◌&&◌, ◌||◌, Some, None, is_some}
use Rattle.std.proofs.Common.{inl, inr, refl, sym, ap, ap₂, ◌∙◌, arith}
use Rattle.std.specs.FinSet as set
use Rattle.std.specs.Ordering.{nat_cmp, eq_by_cmp}
use Rattle.std.specs.Cmp.{nat_cmp_total}
use Rattle.std.proofs.lemmas.Bool.{cases_eq, eq-eqb, ne_eqb, eqb-true, false≢true}
use Rattle.node_maps.specs.declared.page.Page.{Page}
use Rattle.std.specs.FinSet.{same_set, nat_cmp-IsAntisymmetric}
use Rattle.node_maps.specs.Pages.{Numbered, IsChanged, marks_where, AreCounted}
use Rattle.node_maps.proofs.Known.{nat_equal}
use Rattle.node_maps.proofs.Pages.{AddsBlank}
use Rattle.node_maps.proofs.Cells.{contains-marks_of, len-marked}

-- the numbers that have a page, as a set
record HaveNumbers (f : Numbered) (c : ℕ) : Type 0 where
  numbers : set.FinSet nat_cmp
  are : (n : ℕ) → set.contains numbers n ≡ is_some (f n)
  count_is : c ≡ set.len numbers
  low : (n : ℕ) → set.contains numbers n ≡ true → n < 2 ^ 32

to_set : (f : Numbered) (c : ℕ) → AreCounted f c → HaveNumbers f c
to_set f c is = record {
  numbers = marks_where (λ n. is_some (f n)) (2 ^ 32);
  are = are;
  count_is = is.count_is;
  low = λ n e. is.low n (sym (are n) ∙ e);
}
  where
    are : (n : ℕ) → set.contains (marks_where (λ n. is_some (f n)) (2 ^ 32)) n ≡ is_some (f n)
    are n = contains-marks_of (λ k. is_some (f k)) (2 ^ 32) n (is.low n)

from_set : (f : Numbered) (c : ℕ) → HaveNumbers f c → AreCounted f c
from_set f c has = record {
  count_is = has.count_is ∙ ap set.len (same_set nat_cmp_total nat_cmp-IsAntisymmetric has.numbers (marks_where (λ n. is_some (f n)) (2 ^ 32))
      (λ n. has.are n ∙ sym (contains-marks_of (λ k. is_some (f k)) (2 ^ 32) n (λ e. has.low n (has.are n ∙ e)))));
  low = λ n e. has.low n (has.are n ∙ e);
}

numbers-none : (f : Numbered) → ((n : ℕ) → f n ≡ None) → HaveNumbers f 0
numbers-none f none = record {
  numbers = set.empty;
  are = λ n. set.contains-empty nat_cmp n ∙ sym (ap is_some (none n));
  count_is = sym (set.len-empty nat_cmp);
  low = λ n e. absurd (false≢true (sym (set.contains-empty nat_cmp n) ∙ e));
}

numbers-same : (f g : Numbered) (c : ℕ) → ((n : ℕ) → is_some (g n) ≡ is_some (f n)) → HaveNumbers f c → HaveNumbers g c
numbers-same f g c same is = record { numbers = is.numbers; are = λ n. is.are n ∙ sym (same n); count_is = is.count_is; low = is.low }

numbers-few : (f : Numbered) (c : ℕ) → HaveNumbers f c → c ≤ 2 ^ 32
numbers-few f c is = let few : set.len is.numbers ≤ 2 ^ 32 = len-marked (2 ^ 32) is.numbers is.low in omega (arith, few, is.count_is)

turned : (q n : ℕ) → eq_by_cmp nat_cmp n q ≡ eqb q n
turned q n = nat_equal n q ∙ elim (cases_eq q n) [
  | inl same ↦ eq-eqb n q (sym same) ∙ sym (eq-eqb q n same)
  | inr other ↦ ne_eqb n q (λ e. other (sym e)) ∙ sym (ne_eqb q n other)
]

module _ (f g : Numbered) (q c : ℕ) (is : HaveNumbers f c) where
  -- one page more
  numbers-more : (p : Page) → f q ≡ None → IsChanged q (Some p) f g → q < 2 ^ 32 → HaveNumbers g (c + 1)
  numbers-more p none changed small = record {
    numbers = set.insert is.numbers q;
    are = λ n. set.contains-insert nat_cmp_total is.numbers q n ∙ ap₂ ◌||◌ (turned q n) (is.are n) ∙ by_number n (eqb q n) ∙ sym (ap is_some (changed n));
    count_is =
        let absent : set.contains is.numbers q ≡ false = is.are q ∙ ap is_some none in
        ap (λ k. k + 1) is.count_is ∙ sym (set.len-insert nat_cmp_total is.numbers q ∙ ap (λ b. cond b (set.len is.numbers) (set.len is.numbers + 1)) absent);
    low = λ n e. by_or n (eqb q n) refl (sym (set.contains-insert nat_cmp_total is.numbers q n ∙ ap (λ b. b || set.contains is.numbers n) (turned q n)) ∙ e);
  }
    where
      by_number : (n : ℕ) (b : Bool) → (b || is_some (f n)) ≡ is_some (cond b (Some p) (f n))
      by_number n true = refl
      by_number n false = refl

      by_or : (n : ℕ) (b : Bool) → eqb q n ≡ b → (b || set.contains is.numbers n) ≡ true → n < 2 ^ 32
      by_or n true same e = let at : q ≡ n = eqb-true q n same in omega (arith, at, small)
      by_or n false same e = is.low n e

  -- a page that is there counts
  numbers-some : is_some (f q) ≡ true → 1 ≤ c
  numbers-some there = by_count c is.count_is
    where
      by_count : (k : ℕ) → k ≡ set.len is.numbers → 1 ≤ k
      by_count zero e = absurd (false≢true (sym (set.contains-empty nat_cmp q) ∙ ap (λ s. set.contains s q) (sym (set.empty_of_len is.numbers (sym e)))
          ∙ is.are q ∙ there))
      by_count (suc k) e = omega arith

  -- one page less
  numbers-less : is_some (f q) ≡ true → IsChanged q None f g → HaveNumbers g (c - 1)
  numbers-less there changed = record {
    numbers = set.remove is.numbers q;
    are = λ n. set.contains-remove nat_cmp_total is.numbers q n ∙ ap₂ (λ a b. not a && b) (turned q n) (is.are n) ∙ by_number n (eqb q n)
        ∙ sym (ap is_some (changed n));
    count_is = ap (λ k. k - 1) is.count_is ∙ sym (set.len-remove nat_cmp_total is.numbers q
        ∙ ap (λ b. cond b (set.len is.numbers - 1) (set.len is.numbers)) (is.are q ∙ there));
    low = λ n e. is.low n (by_and (not (eqb q n)) (set.contains is.numbers n) (sym (set.contains-remove nat_cmp_total is.numbers q n
        ∙ ap (λ a. not a && set.contains is.numbers n) (turned q n)) ∙ e));
  }
    where
      by_number : (n : ℕ) (b : Bool) → (not b && is_some (f n)) ≡ is_some (cond b None (f n))
      by_number n true = refl
      by_number n false = refl

      by_and : (a b : Bool) → (a && b) ≡ true → b ≡ true
      by_and true b e = e
      by_and false b e = absurd (false≢true e)

-- ---- the count that a row keeps

pub counted-none : (f : Numbered) → ((n : ℕ) → f n ≡ None) → AreCounted f 0
counted-none f none = from_set f 0 (numbers-none f none)

pub counted-same : (f g : Numbered) (c : ℕ) → ((n : ℕ) → is_some (g n) ≡ is_some (f n)) → AreCounted f c → AreCounted g c
counted-same f g c same is = from_set g c (numbers-same f g c same (to_set f c is))

pub counted-few : (f : Numbered) (c : ℕ) → AreCounted f c → c ≤ 2 ^ 32
counted-few f c is = numbers-few f c (to_set f c is)

pub counted-more : {f g : Numbered} {q : ℕ} {p : Page} (c : ℕ) → AddsBlank f g q p → AreCounted f c → q < 2 ^ 32 → AreCounted g (c + 1)
counted-more {f} {g} {q} {p} c x is small = from_set g (c + 1) (numbers-more f g q c (to_set f c is) p x.none x.changed small)

pub counted-some : (f : Numbered) (q c : ℕ) → AreCounted f c → is_some (f q) ≡ true → 1 ≤ c
counted-some f q c is there = numbers-some f f q c (to_set f c is) there

pub counted-less : (f g : Numbered) (q c : ℕ) → AreCounted f c → is_some (f q) ≡ true → IsChanged q None f g → AreCounted g (c - 1)
counted-less f g q c is there changed = from_set g (c - 1) (numbers-less f g q c (to_set f c is) there changed)

pub counted-are : (f : Numbered) (c : ℕ) → AreCounted f c → (n : ℕ) → set.contains (marks_where (λ k. is_some (f k)) (2 ^ 32)) n ≡ is_some (f n)
counted-are f c is n = contains-marks_of (λ k. is_some (f k)) (2 ^ 32) n (is.low n)
