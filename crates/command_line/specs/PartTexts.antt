-- Which part of a check a text names.
use Rattle.std.specs.Prelude.{ℕ, Bool, Option, Some, None, eqb, ◌≤◌}
use Rattle.std.specs.List.{after_first, before_first}
use Rattle.clap.specs.Walk.{Text}
use Rattle.actions.specs.declared.command.NumberedPart.{NumberedPart}
use Rattle.command_line.specs.Texts.{IsNumberText}

-- whether a byte is the slash
abbrev pub is_slash_byte : ℕ → Bool
is_slash_byte b = eqb b 47

-- Which part a text names: its number before the first slash, which is at least 1, and after it how
-- many parts there are, which are as many at least.
pub record NamesPart (text : Text) (part : NumberedPart) : Type 0 where
  pub number : IsNumberText (before_first is_slash_byte text) part.number
  pub count : IsNumberText (after_first is_slash_byte text) part.count
  pub some : 1 ≤ part.number
  pub there : part.number ≤ part.count

-- the part that a text names, if it names one
abbrev pub IsPartIfThere : Text → Option NumberedPart → Type 0
IsPartIfThere text (Some part) = NamesPart text part
IsPartIfThere text None = (part : NumberedPart) → NamesPart text part → ⊥
