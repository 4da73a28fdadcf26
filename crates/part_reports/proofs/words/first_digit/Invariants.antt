use Rattle.std.proofs.Common.{◌≡◌, ◌+◌, drop}
use Rattle.std.specs.List.{prefix_len}
use Rattle.part_reports.specs.Scan.{is_no_digit}
use Rattle.part_reports.proofs.words.first_digit.Given as goal

-- no byte so far is a digit
abbrev pub invariant-bytes : goal.invariant-bytes
invariant-bytes l = prefix_len is_no_digit l.text ≡ l.i + prefix_len is_no_digit (drop l.i l.text)
