-- Numbers in a line.
use Rattle.std.specs.Prelude.{◌≡◌, ℕ, ◌<◌, ◌^◌, ◌==◌, ◌||◌, Bool, true, false, not, List, ◌∷◌, ◌++◌, decimal}
use Rattle.std.specs.Char.{is_ascii_digit}
use Rattle.std.specs.List.{list_all}

-- whether a byte is no decimal digit, and does not end a line
abbrev pub is_no_digit : ℕ → Bool
is_no_digit c = not (is_ascii_digit c || c == 10)

-- this is the first number in the first line of a text, if the line has one that ends before some
-- byte
abbrev pub IsFirstNumber : List ℕ → ℕ → Type 0
IsFirstNumber text number = (front : List ℕ) (n c : ℕ) (more : List ℕ)
    → list_all is_no_digit front ≡ true → n < 2 ^ 64 → is_ascii_digit c ≡ false
    → text ≡ front ++ (decimal n ++ c ∷ more) → number ≡ n
