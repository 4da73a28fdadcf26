use Rattle.std.proofs.Common.{◌≡◌, ◌<◌, ℕ, Some, slice_get}
use Rattle.lines.specs.Reading.{BeginsWith}
use Rattle.opening.specs.Seen.{file_entry}
use Rattle.folders.specs.declared.report.FileVerdict.{FileVerdict}
use Rattle.folders.specs.Printed.{verdict_row}
use Rattle.lines.specs.Texts.{text_of}
use Rattle.part_reports.proofs.words.one_of.Given as goal

-- the lines of the verdicts before do not stand there
abbrev pub invariant-verdicts : goal.invariant-verdicts
invariant-verdicts l = (n : ℕ) (v : FileVerdict) → n < l.verdict-index → slice_get l.verdicts n ≡ Some v
    → BeginsWith (text_of (verdict_row v (file_entry l.file))) l.text → ⊥
