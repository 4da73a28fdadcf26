-- The line of a refusal.
use Rattle.std.specs.Prelude.{ℕ, List}
use Rattle.filetree.specs.declared.refusal.Refusal.{Refusal}
use Rattle.lines.specs.Table.{refusal_row}
use Rattle.lines.specs.Texts.{text_of}

-- the line of a refusal, with the path of the file that it is about, if there is one
abbrev pub refusal_text : Refusal → List (List ℕ) → List ℕ
refusal_text refusal path = text_of (refusal_row refusal path)
