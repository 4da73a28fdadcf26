-- Cases of numbers, of the items of lists, of options, tests, results and orderings.
use Rattle.std.proofs.Common.{◌≡◌, ◌≢◌, ◌⊎◌, ℕ, zero, suc, ◌+◌, ◌<◌, Bool, true, false, ◌||◌, List, [], ◌∷◌, ◌++◌, length, take, drop, Option, Some}
use Rattle.std.proofs.Common.{None, is_some, option_map, slice_get, Result, Ok, Err, OnErr, inl, inr, refl, sym, ap, ap₂, ◌∙◌}
use Rattle.std.proofs.Common.{arith, get_or, subst, take_at, drop_at, drop-cons, add-one}
use Rattle.std.proofs.lemmas.Bool.{cases_eq}
use Rattle.std.proofs.lemmas.List.{take_more}
use Rattle.std.proofs.lemmas.List.Elements.{All-push}
use Rattle.std.proofs.lemmas.Option.{get_or_from_slice_get, slice_get_within}
use Rattle.std.specs.List.{All}
use Rattle.std.specs.Ordering.{ordering_then}
use Rattle.std.specs.declared.cmp.Ordering.{Ordering}
use Rattle.std.specs.declared.cmp.Ordering.TheVariants.{Less, Equal, Greater}

-- of the first c + 1 numbers one is the last, or comes before it
pub last_or_before : (k c : ℕ) → k < c + 1 → (k < c) ⊎ (k ≡ c)
last_or_before k c lt = grind arith

pub above_zero : (n : ℕ) → (n ≡ 0 → ⊥) → 0 < n
above_zero n some = grind (arith, some)

-- a list has an item at each number below its length
pub item_at : {A : Type 0} (xs : List A) (n : ℕ) → n < length xs → (x : A) × (slice_get xs n ≡ Some x)
item_at [] n lt = absurd (omega arith)
item_at (x ∷ xs) zero lt = (x, refl)
item_at (x ∷ xs) (suc n) lt = item_at xs n (omega arith)

-- an item, and what follows it
pub drop_item : {A : Type 0} (xs : List A) (n : ℕ) (x : A) → slice_get xs n ≡ Some x → drop n xs ≡ x ∷ drop (n + 1) xs
drop_item xs n x there = drop-cons xs n x (slice_get_within xs n x there) ∙ ap (λ y. y ∷ drop (suc n) xs) (get_or_from_slice_get xs n x x there)
    ∙ ap (λ k. x ∷ drop k xs) (sym (add-one n))

-- the first items and one more
pub taken_more : {A : Type 0} (xs : List A) (n : ℕ) (x : A) → slice_get xs n ≡ Some x → take (n + 1) xs ≡ take n xs ++ x ∷ []
taken_more xs n x there =
    take_more xs n x (slice_get_within xs n x there) ∙ ap (λ y. take n xs ++ y ∷ []) (get_or_from_slice_get xs n x x there)

-- what holds of the first items and of the next
pub All-next : {A : Type 0} (P : A → Type 0) (xs : List A) (n : ℕ) (d : A) → n < length xs → All P (take n xs) → P (get_or xs n d)
    → All P (take (n + 1) xs)
All-next P xs n d inside all here = subst (All P) (sym (take_more xs n d inside)) (All-push P (take n xs) (get_or xs n d) all here)

-- what follows a list leaves its items in their places
pub item_stays : {A : Type 0} (xs ys : List A) (n : ℕ) (x : A) → slice_get xs n ≡ Some x → slice_get (xs ++ ys) n ≡ Some x
item_stays [] ys n x e = cc
item_stays (z ∷ xs) ys zero x e = e
item_stays (z ∷ xs) ys (suc n) x e = item_stays xs ys n x e

-- the items of a list with one item more at its end
pub pushed_last : {A : Type 0} (xs : List A) (x : A) (n : ℕ) → n ≡ length xs → slice_get (xs ++ x ∷ []) n ≡ Some x
pushed_last [] x n is = ap (slice_get (x ∷ [])) is
pushed_last (y ∷ xs) x zero is = absurd (omega (arith, is))
pushed_last (y ∷ xs) x (suc n) is = pushed_last xs x n (omega (arith, is))

pub pushed_at : {A : Type 0} (xs : List A) (x y : A) (n : ℕ) → slice_get (xs ++ x ∷ []) n ≡ Some y
    → (slice_get xs n ≡ Some y) ⊎ ((n ≡ length xs) × (x ≡ y))
pushed_at [] x y zero is = inr (refl, cc)
pushed_at [] x y (suc n) is = cc
pushed_at (z ∷ xs) x y zero is = inl is
pushed_at (z ∷ xs) x y (suc n) is = elim (pushed_at xs x y n is) [
  | inl before ↦ inl before
  | inr last ↦ inr (omega (arith, last.0), last.1)
]

-- lists that end alike, after parts of one length
pub same_parts : (a b c d : List ℕ) → length a ≡ length c → a ++ b ≡ c ++ d → (a ≡ c) × (b ≡ d)
same_parts a b c d len e = (
  sym (take_at a b (length a) refl) ∙ ap (take (length a)) e ∙ take_at c d (length a) (sym len),
  sym (drop_at a b (length a) refl) ∙ ap (drop (length a)) e ∙ drop_at c d (length a) (sym len),
)

-- an option has a value or none
pub some_or_none : {A : Type 0} (o : Option A) → ((x : A) × (o ≡ Some x)) ⊎ (o ≡ None)
some_or_none None = inr refl
some_or_none (Some x) = inl (x, refl)

pub some_of : {A : Type 0} (o : Option A) → is_some o ≡ true → (x : A) × (o ≡ Some x)
some_of None is = cc
some_of (Some x) is = (x, refl)

pub same_some : {A B : Type 0} (f : A → B) (o : Option A) (p : Option B) → option_map f o ≡ p → is_some p ≡ is_some o
same_some f None p is = ap is_some (sym is)
same_some f (Some x) p is = ap is_some (sym is)

-- if one of two tests holds and the first does not, the second does
pub or_right : (a b : Bool) → a ≡ false → (a || b) ≡ true → b ≡ true
or_right true b off is = cc
or_right false b off is = is

-- what holds anyway holds at an error
pub on_err : {T E : Type 0} (r : Result T E) {P : Type 0} → P → OnErr r P
on_err (Ok x) p = tt
on_err (Err e) p = p

-- two lists of numbers are equal or not
pub same_or_not : (xs ys : List ℕ) → (xs ≡ ys) ⊎ (xs ≢ ys)
same_or_not [] [] = inl refl
same_or_not [] (y ∷ ys) = inr (λ e. cc)
same_or_not (x ∷ xs) [] = inr (λ e. cc)
same_or_not (x ∷ xs) (y ∷ ys) = heads (cases_eq x y) (same_or_not xs ys)
  where
    heads : (x ≡ y) ⊎ (x ≢ y) → (xs ≡ ys) ⊎ (xs ≢ ys) → (x ∷ xs ≡ y ∷ ys) ⊎ (x ∷ xs ≢ y ∷ ys)
    heads (inl e) (inl d) = inl (ap₂ ◌∷◌ e d)
    heads (inl e) (inr d) = inr (λ p. d cc)
    heads (inr e) d = inr (λ p. e cc)

-- two orderings one after the other tie exactly if both do
pub both_equal : (o p : Ordering) → ordering_then o p ≡ Equal → (o ≡ Equal) × (p ≡ Equal)
both_equal Less p e = cc
both_equal Equal p e = (refl, e)
both_equal Greater p e = cc
