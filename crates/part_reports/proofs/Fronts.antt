-- Numbers and lines at the front of a text.
use Rattle.std.proofs.Common.{◌≡◌, ℕ, ◌<◌, ◌==◌, ◌||◌, ◌^◌, true, false, Bool, not, List, Option, Some, [], ◌∷◌, ◌++◌, length}
use Rattle.std.proofs.Common.{take, drop, decimal, refl, sym, ap, subst, ◌∙◌, arith}
use Rattle.std.specs.Char.{digit_value, is_ascii_digit}
use Rattle.std.specs.List.{list_all, prefix_len}
use Rattle.std.specs.Str.{IsUtf8}
use Rattle.std.specs.Str.Parse.{AllDigits}
use Rattle.std.proofs.lemmas.Bool.Decides.{nat_tests}
use Rattle.std.proofs.lemmas.Fmt.{IsAscii-decimal, decimal_is_IsNumeral, decimal_nonempty}
use Rattle.std.proofs.lemmas.Str.{IsUtf8-from_ascii}
use Rattle.std.proofs.lemmas.List.{drop_at, take_at}
use Rattle.std.proofs.lemmas.Bool.{and_parts}
use Rattle.std.proofs.lemmas.Option.{same_Some}
use Rattle.part_reports.specs.Scan.{is_no_digit}

-- a run of bytes that pass a test stands before one that does not
pub front_len : (p : ℕ → Bool) (run : List ℕ) (c : ℕ) (rest : List ℕ) → list_all p run ≡ true → p c ≡ false → prefix_len p (run ++ c ∷ rest) ≡ length run
front_len p [] c rest all stops = rw stops refl
front_len p (d ∷ run) c rest all stops =
    let both = and_parts (p d) (list_all p run) all in
    rw (both.0, front_len p run c rest both.1 stops) (omega arith)

-- the run, cut off in front of that byte
pub front_run : (p : ℕ → Bool) (text run : List ℕ) (c k : ℕ) (rest : List ℕ) → list_all p run ≡ true → p c ≡ false → text ≡ run ++ c ∷ rest
    → k ≡ prefix_len p text → (take k text ≡ run) × (drop k text ≡ c ∷ rest)
front_run p text run c k rest all stops is length_is =
    let len : k ≡ length run = length_is ∙ ap (prefix_len p) is ∙ front_len p run c rest all stops in
    (ap (take k) is ∙ take_at run (c ∷ rest) k (sym len), ap (drop k) is ∙ drop_at run (c ∷ rest) k (sym len))

digit_test : (c : ℕ) → digit_value c < 10 → is_ascii_digit c ≡ true
digit_test c h = grind (arith, nat_tests, h)

all_digits : (run : List ℕ) → AllDigits 10 run → list_all is_ascii_digit run ≡ true
all_digits [] all = refl
all_digits (c ∷ cs) all = rw (digit_test c all.0, all_digits cs all.1) refl

pub decimal_digits : (n : ℕ) → n < 2 ^ 64 → list_all is_ascii_digit (decimal n) ≡ true
decimal_digits n small = all_digits (decimal n) (decimal_is_IsNumeral n small).0.1

pub decimal_utf8 : (n : ℕ) (digits : List ℕ) → n < 2 ^ 64 → digits ≡ decimal n → IsUtf8 digits
decimal_utf8 n digits small is = subst IsUtf8 (sym is) (IsUtf8-from_ascii (decimal n) (IsAscii-decimal n small))

-- whether a byte does not end a line
abbrev pub is_in_line : ℕ → Bool
is_in_line b = not (b == 10)

-- the digits of a number, cut off in front of a byte that is none
pub front_digits : (text : List ℕ) (n c k : ℕ) (more : List ℕ) → n < 2 ^ 64 → is_ascii_digit c ≡ false → text ≡ decimal n ++ c ∷ more
    → k ≡ prefix_len is_ascii_digit text → (take k text ≡ decimal n) × (drop k text ≡ c ∷ more)
front_digits text n c k more small stops is length_is = front_run is_ascii_digit text (decimal n) c k more (decimal_digits n small) stops is length_is

-- a number has a digit
some_digits : (n : ℕ) → n < 2 ^ 64 → (d : ℕ) × (ds : List ℕ) × (decimal n ≡ d ∷ ds) × (is_no_digit d ≡ false)
some_digits n small = of_digits (decimal n) (decimal_nonempty n small) (decimal_digits n small)
  where
    of_digits : (text : List ℕ) → 0 < length text → list_all is_ascii_digit text ≡ true
        → (d : ℕ) × (ds : List ℕ) × (text ≡ d ∷ ds) × (is_no_digit d ≡ false)
    of_digits [] some all = absurd (omega (arith, some))
    of_digits (d ∷ ds) some all = (d, ds, refl, ap (λ digit. not (digit || d == 10)) (and_parts (is_ascii_digit d) (list_all is_ascii_digit ds) all).0)

-- the first number in a line, behind bytes that are no digits
pub behind_front : (text front : List ℕ) (n : ℕ) (more : List ℕ) (k : ℕ) → list_all is_no_digit front ≡ true → n < 2 ^ 64
    → text ≡ front ++ (decimal n ++ more) → k ≡ prefix_len is_no_digit text → drop k text ≡ decimal n ++ more
behind_front text front n more k none small is length_is =
    let digits = some_digits n small in
    let begins : decimal n ++ more ≡ digits.0 ∷ (digits.1 ++ more) = ap (λ x. x ++ more) digits.2 in
    (front_run is_no_digit text front digits.0 k (digits.1 ++ more) none digits.3 (is ∙ ap (λ x. front ++ x) begins) length_is).1 ∙ sym begins

-- what is read of a number at the front, and of what follows it
abbrev pub AreRead : ℕ → List ℕ → ℕ → List ℕ → Type 0
AreRead number rest n text = (number ≡ n) × (rest ≡ text)

pub same_pair : (a b : ℕ) (xs ys : List ℕ) → ◌≡◌ {A = Option (ℕ × List ℕ)} (Some (a, xs)) (Some (b, ys)) → AreRead a xs b ys
same_pair a b xs ys same =
    let one : ℕ × List ℕ = (a, xs) in
    let other : ℕ × List ℕ = (b, ys) in
    let is = same_Some one other same in
    (ap (λ x. x.0) is, ap (λ x. x.1) is)
