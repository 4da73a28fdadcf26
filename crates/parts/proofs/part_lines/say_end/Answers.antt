use Rattle.std.proofs.Common.{◌++◌, ◌∙◌, ap, sym}
use Rattle.std.proofs.lemmas.Result.{err_from_is_err_and}
use Rattle.benc.proofs.Out.{Wrote-then, Wrote-part}
use Rattle.lines.specs.Rows.{spell}
use Rattle.folders.specs.Printed.{version1_rows}
use Rattle.folders.specs.Verdicts.{is_yes}
use Rattle.folders.proofs.SentLines.{spelled_push}
use Rattle.parts.specs.PartLines.{part_answer_row}
use Rattle.parts.proofs.part_lines.say_end.Goals as goal

pub returns-in_err-say_version1 : goal.returns-in_err-say_version1
returns-in_err-say_version1 g c =
    let spelled = g.L.LineSink.spelled in
    let r = c.args.report.now in
    let last = part_answer_row (is_yes r.files.items r.v1) in
    let p = err_from_is_err_and c.from_residual.result c.from_residual.ensures.1 in
    Wrote-part _ p.0 _ _ (spell spelled (version1_rows r.v1)) (spelled last) _ (spelled_push spelled (version1_rows r.v1) last) p.1
    c.in_err-say_version1.ensures

pub returns : goal.returns
returns g c =
    let spelled = g.L.LineSink.spelled in
    let r = c.args.report.now in
    Wrote-then _ _ _ _ (spell spelled (version1_rows r.v1)) (spelled (part_answer_row c.yes.result)) _
    (spelled_push spelled (version1_rows r.v1) (part_answer_row (is_yes r.files.items r.v1))
    ∙ ap (λ yes. spell spelled (version1_rows r.v1) ++ spelled (part_answer_row yes)) (sym c.yes.ensures))
    c.in_ok-say_version1.ensures c.say_answer.ensures
