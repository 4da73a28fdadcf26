-- Which piece length a text names.
use Rattle.std.specs.Prelude.{◌≡◌, ◌⊎◌, ℕ, [], Option, Some, None, codes, eqb, length, ◌<◌, ◌^◌, ◌*◌}
use Rattle.std.specs.List.{after_first, before_first, position_or_len}
use Rattle.clap.specs.Walk.{Text}
use Rattle.actions.specs.declared.creation.PieceLengthChoice.{PieceLengthChoice}
use Rattle.actions.specs.declared.creation.PieceLengthChoice.TheVariants as pieces
use Rattle.command_line.specs.Texts.{IsNumberText}

-- The text is a number and behind it this letter, of units of this many bytes each.
pub record IsUnits (letter factor : ℕ) (text : Text) (bytes : ℕ) : Type 0 where
  pub there : position_or_len (λ b. eqb b letter) text < length text
  pub last : after_first (λ b. eqb b letter) text ≡ []
  pub number : ℕ
  pub digits : IsNumberText (before_first (λ b. eqb b letter) text) number
  pub small : number * factor < 2 ^ 64
  pub value : bytes ≡ number * factor

-- the same, or there is none
abbrev pub IsUnitsIfThere : ℕ → ℕ → Text → Option ℕ → Type 0
IsUnitsIfThere letter factor text (Some bytes) = IsUnits letter factor text bytes
IsUnitsIfThere letter factor text None = (bytes : ℕ) → IsUnits letter factor text bytes → ⊥

-- a number of bytes: digits alone, or before a `K` of 1,024, a `M` of 1,048,576 or a `G` of
-- 1,073,741,824 bytes
abbrev pub IsSize : Text → ℕ → Type 0
IsSize text bytes = IsUnits 75 1024 text bytes ⊎ IsUnits 77 1048576 text bytes
    ⊎ IsUnits 71 1073741824 text bytes ⊎ IsNumberText text bytes

-- the same, or there is none
abbrev pub IsSizeIfThere : Text → Option ℕ → Type 0
IsSizeIfThere text (Some bytes) = IsSize text bytes
IsSizeIfThere text None = (bytes : ℕ) → IsSize text bytes → ⊥

-- which piece length a text names
abbrev pub IsPieceLengthText : Text → PieceLengthChoice → Type 0
IsPieceLengthText text (pieces.Bytes bytes) = IsSize text bytes
IsPieceLengthText text pieces.Auto = text ≡ codes "auto"

-- the same, or there is none
abbrev pub IsPieceLengthIfThere : Text → Option PieceLengthChoice → Type 0
IsPieceLengthIfThere text (Some length) = IsPieceLengthText text length
IsPieceLengthIfThere text None = (length : PieceLengthChoice) → IsPieceLengthText text length → ⊥
