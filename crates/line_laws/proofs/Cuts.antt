-- Texts that are cut at a byte, and digits.
use Rattle.std.proofs.Common.{◌≡◌, ◌∷◌, ◌++◌, ◌<◌, ◌^◌, [], List, ℕ, Bool, true, false, not, length, decimal, if◌then◌else◌, ap, sym, refl, arith}
use Rattle.std.specs.Char.{digit_value, is_ascii_digit}
use Rattle.std.specs.List.{list_all}
use Rattle.std.specs.Str.Parse.{AllDigits}
use Rattle.std.proofs.lemmas.Bool.{and_parts}
use Rattle.std.proofs.lemmas.Bool.Decides.{nat_tests}
use Rattle.std.proofs.lemmas.Fmt.{decimal_is_IsNumeral}

-- the bytes in front of the first that stops
unfoldable pub front : (ℕ → Bool) → List ℕ → List ℕ
front stops [] = []
front stops (x ∷ xs) = (if stops x then [] else x ∷ front stops xs)

-- that byte and those behind it
unfoldable pub onward : (ℕ → Bool) → List ℕ → List ℕ
onward stops [] = []
onward stops (x ∷ xs) = (if stops x then x ∷ xs else onward stops xs)

pub not_so : (t : Bool) → not t ≡ true → t ≡ false
not_so true e = sym e
not_so false e = refl

pub front_at : (stops : ℕ → Bool) (w : List ℕ) (c : ℕ) (rest : List ℕ) → list_all (λ x. not (stops x)) w ≡ true → stops c ≡ true
    → front stops (w ++ c ∷ rest) ≡ w
unfolding front
front_at stops [] c rest none at = rw at refl
front_at stops (x ∷ w) c rest none at =
    let parts = and_parts (not (stops x)) (list_all (λ x. not (stops x)) w) none in
    rw (not_so (stops x) parts.0) (ap (λ t. x ∷ t) (front_at stops w c rest parts.1 at))

pub onward_at : (stops : ℕ → Bool) (w : List ℕ) (c : ℕ) (rest : List ℕ) → list_all (λ x. not (stops x)) w ≡ true → stops c ≡ true
    → onward stops (w ++ c ∷ rest) ≡ c ∷ rest
unfolding onward
onward_at stops [] c rest none at = rw at refl
onward_at stops (x ∷ w) c rest none at =
    let parts = and_parts (not (stops x)) (list_all (λ x. not (stops x)) w) none in
    rw (not_so (stops x) parts.0) (onward_at stops w c rest parts.1 at)

-- what holds of each byte, and more
pub all_so : (f g : ℕ → Bool) → ((x : ℕ) → f x ≡ true → g x ≡ true) → (xs : List ℕ) → list_all f xs ≡ true → list_all g xs ≡ true
all_so f g so [] h = refl
all_so f g so (x ∷ xs) h =
    let parts = and_parts (f x) (list_all f xs) h in rw (so x parts.0, all_so f g so xs parts.1) refl

pub all_both : (f : ℕ → Bool) (xs ys : List ℕ) → list_all f xs ≡ true → list_all f ys ≡ true → list_all f (xs ++ ys) ≡ true
all_both f [] ys h more = more
all_both f (x ∷ xs) ys h more =
    let parts = and_parts (f x) (list_all f xs) h in rw (parts.0, all_both f xs ys parts.1 more) refl

-- ---- digits

digit_test : (c : ℕ) → digit_value c < 10 → is_ascii_digit c ≡ true
digit_test c h = grind (arith, nat_tests, h)

all_digits : (run : List ℕ) → AllDigits 10 run → list_all is_ascii_digit run ≡ true
all_digits [] all = refl
all_digits (c ∷ cs) all = rw (digit_test c all.0, all_digits cs all.1) refl

pub decimal_digits : (n : ℕ) → n < 2 ^ 64 → list_all is_ascii_digit (decimal n) ≡ true
decimal_digits n small = all_digits (decimal n) (decimal_is_IsNumeral n small).0.1

-- digits, of which there is one
pub record FirstDigit (ds : List ℕ) : Type 0 where
  pub first : ℕ
  pub others : List ℕ
  pub is : ds ≡ first ∷ others
  pub digit : is_ascii_digit first ≡ true

first_digit : (ds : List ℕ) → 0 < length ds → list_all is_ascii_digit ds ≡ true → FirstDigit ds
first_digit [] some all = absurd (omega arith)
first_digit (d ∷ ds) some all =
    record { first = d; others = ds; is = refl; digit = (and_parts (is_ascii_digit d) (list_all is_ascii_digit ds) all).0 }

pub decimal_first : (n : ℕ) → n < 2 ^ 64 → FirstDigit (decimal n)
decimal_first n small = first_digit (decimal n) (decimal_is_IsNumeral n small).0.0 (decimal_digits n small)
