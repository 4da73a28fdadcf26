use Rattle.std.proofs.Common.{drop, map}
use Rattle.lines.specs.Rows.{spell}
use Rattle.opening.specs.Seen.{file_entry}
use Rattle.folders.specs.declared.report_lines.Lines.TheVariants.{All}
use Rattle.folders.specs.Printed.{verdicts_rows}
use Rattle.printing.proofs.Parts.{SentBut}
use Rattle.folders.proofs.report_lines.say_verdicts.Given as goal

-- the lines of some first files went out
abbrev pub invariant-files : goal.invariant-files
invariant-files g l =
    let spelled = g.L.LineSink.spelled in
    SentBut (g.L.LineSink.seen l.fn.out) (g.L.LineSink.seen l.out) (spell spelled (verdicts_rows All l.verdicts (map file_entry l.files)))
    (spell spelled (verdicts_rows All (drop l.i l.verdicts) (map file_entry (drop l.i l.files))))
