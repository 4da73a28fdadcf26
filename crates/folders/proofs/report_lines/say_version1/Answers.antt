use Rattle.std.proofs.Common.{sym, subst}
use Rattle.benc.specs.Device.{Wrote}
use Rattle.lines.specs.Rows.{spell}
use Rattle.folders.specs.Printed.{version1_rows, version1_row}
use Rattle.folders.proofs.SentLines.{wrote_one}
use Rattle.folders.proofs.report_lines.say_version1.Goals as goal

pub returns-in-Some : goal.returns-in-Some
returns-in-Some g c =
    let old = g.L.LineSink.seen c.args.out.now in
    let new = g.L.LineSink.seen c.say.new.out in
    let spelled = g.L.LineSink.spelled in
    subst (λ o. Wrote old new c.say.result (spell spelled (version1_rows o))) (sym c.in-Some.is)
    (wrote_one spelled (version1_row c.in-Some.verdict) old new c.say.result
    (subst (λ r. Wrote old new c.say.result (spelled r)) c.version1_line.ensures c.say.ensures))
