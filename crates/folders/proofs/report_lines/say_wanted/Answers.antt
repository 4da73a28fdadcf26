use Rattle.std.proofs.Common.{◌∙◌, ◌∷◌, [], ap, sym}
use Rattle.opening.specs.Seen.{file_entry}
use Rattle.folders.specs.Printed.{is_wanted, verdict_row}
use Rattle.folders.proofs.SentLines.{wrote_if, wrote_none, wrote_one}
use Rattle.folders.proofs.report_lines.say_wanted.Goals as goal

pub returns-then-include : goal.returns-then-include
returns-then-include g c =
    let line = verdict_row c.args.verdict (file_entry c.args.file.now) in
    let on = ap (is_wanted c.args.lines) (sym c.is_good.ensures) ∙ sym c.include.ensures ∙ c.if-include.true in
    wrote_if g.L.LineSink.spelled (line ∷ []) _ _ _ _ on (wrote_one g.L.LineSink.spelled line _ _ _ c.say_verdict.ensures)

pub returns-else-include : goal.returns-else-include
returns-else-include g c =
    let line = verdict_row c.args.verdict (file_entry c.args.file.now) in
    let off = ap (is_wanted c.args.lines) (sym c.is_good.ensures) ∙ sym c.include.ensures ∙ c.if-include.false in
    wrote_none g.L.LineSink.spelled (line ∷ []) _ _ off
