-- What a text in no unit is.
use Rattle.std.proofs.Common.{None, Option, Some, inl, inr, ℕ}
use Rattle.clap.specs.Walk.{Text}
use Rattle.command_line.specs.Lengths.{IsSizeIfThere, IsUnits}
use Rattle.command_line.specs.Texts.{IsNumberTextIfThere}

-- a text that has no unit is a size if it is a number
pub without_units : (text : Text) (number : Option ℕ) → ((bytes : ℕ) → IsUnits 75 1024 text bytes → ⊥)
    → ((bytes : ℕ) → IsUnits 77 1048576 text bytes → ⊥) → ((bytes : ℕ) → IsUnits 71 1073741824 text bytes → ⊥)
    → IsNumberTextIfThere text number → IsSizeIfThere text number
without_units text (Some number) no_k no_m no_g is = inr (inr (inr is))
without_units text None no_k no_m no_g none = λ bytes size. elim size [
  | inl units ↦ no_k bytes units
  | inr rest ↦ elim rest [
    | inl units ↦ no_m bytes units
    | inr more ↦ elim more [
      | inl units ↦ no_g bytes units
      | inr number ↦ none bytes number
    ]
  ]
]
