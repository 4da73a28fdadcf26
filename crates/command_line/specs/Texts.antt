-- Which number a text is.
use Rattle.std.specs.Prelude.{◌≡◌, ℕ, Option, Some, None, ◌<◌, ◌^◌}
use Rattle.std.specs.Str.Parse.{IsNumeral, digits_value, without_leading_plus}
use Rattle.clap.specs.Walk.{Text}

-- a number of 64 bits as decimal digits, perhaps behind a plus
abbrev pub IsNumberText : Text → ℕ → Type 0
IsNumberText text number = (IsNumeral 10 (without_leading_plus text)
    × (digits_value 10 (without_leading_plus text) < 2 ^ 64))
    × (number ≡ digits_value 10 (without_leading_plus text))

-- the same, or there is none
abbrev pub IsNumberTextIfThere : Text → Option ℕ → Type 0
IsNumberTextIfThere text (Some number) = IsNumberText text number
IsNumberTextIfThere text None = (number : ℕ) → IsNumberText text number → ⊥
