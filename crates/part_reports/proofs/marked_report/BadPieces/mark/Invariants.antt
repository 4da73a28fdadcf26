use Rattle.part_reports.specs.Marks.{MarksMore}
use Rattle.part_reports.proofs.RunMarks.{IsBetween}
use Rattle.part_reports.proofs.marked_report.BadPieces.mark.Given as goal

-- the pieces so far are marked
abbrev pub invariant-pieces : goal.invariant-pieces
invariant-pieces l = MarksMore (IsBetween l.from l.piece) l.fn.self l.self
