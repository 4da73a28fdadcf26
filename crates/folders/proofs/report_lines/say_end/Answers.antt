use Rattle.std.proofs.Common.{◌++◌, ◌∙◌, ap, sym}
use Rattle.std.proofs.lemmas.Result.{err_from_is_err_and}
use Rattle.benc.proofs.Out.{Wrote-then, Wrote-part}
use Rattle.lines.specs.Rows.{spell}
use Rattle.folders.specs.Printed.{answer_row, stream_rows}
use Rattle.folders.specs.Verdicts.{is_yes}
use Rattle.folders.proofs.SentLines.{spelled_push}
use Rattle.folders.proofs.report_lines.say_end.Goals as goal

pub returns-in_err-say_stream : goal.returns-in_err-say_stream
returns-in_err-say_stream g c =
    let spelled = g.L.LineSink.spelled in
    let r = c.args.report.now in
    let stream = stream_rows c.args.lines r.v1 in
    let last = answer_row (is_yes r.files.items r.v1) in
    let p = err_from_is_err_and c.from_residual.result c.from_residual.ensures.1 in
    Wrote-part _ p.0 _ _ (spell spelled stream) (spelled last) _ (spelled_push spelled stream last) p.1 c.in_err-say_stream.ensures

pub returns : goal.returns
returns g c =
    let spelled = g.L.LineSink.spelled in
    let r = c.args.report.now in
    let stream = stream_rows c.args.lines r.v1 in
    Wrote-then _ _ _ _ (spell spelled stream) (spelled (answer_row c.yes.result)) _
    (spelled_push spelled stream (answer_row (is_yes r.files.items r.v1))
    ∙ ap (λ yes. spell spelled stream ++ spelled (answer_row yes)) (sym c.yes.ensures))
    c.in_ok-say_stream.ensures c.say_answer.ensures
