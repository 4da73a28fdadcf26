-- Which part each report is of.
use Rattle.std.specs.Prelude.{ℕ, length}
use Rattle.part_reports.specs.declared.numbers.Numbers.{Numbers}

-- how many reports there are
abbrev pub text_count : Numbers → ℕ
text_count n = length n.parts.items
