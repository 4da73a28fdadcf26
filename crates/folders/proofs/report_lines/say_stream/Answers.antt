use Rattle.std.proofs.Common.{◌∙◌, ap, sym}
use Rattle.folders.specs.Printed.{version1_rows, is_wanted}
use Rattle.folders.proofs.SentLines.{wrote_if, wrote_none}
use Rattle.folders.proofs.report_lines.say_stream.Goals as goal

pub returns-then-include : goal.returns-then-include
returns-then-include g c =
    let on = ap (is_wanted c.args.lines) (sym c.stream_is_good.ensures) ∙ sym c.include.ensures ∙ c.if-include.true in
    wrote_if g.L.LineSink.spelled (version1_rows c.args.v1.now) _ _ _ _ on c.say_version1.ensures

pub returns-else-include : goal.returns-else-include
returns-else-include g c =
    let off = ap (is_wanted c.args.lines) (sym c.stream_is_good.ensures) ∙ sym c.include.ensures ∙ c.if-include.false in
    wrote_none g.L.LineSink.spelled (version1_rows c.args.v1.now) _ _ off
