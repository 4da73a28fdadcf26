use Rattle.std.proofs.lemmas.Grind.{flat_map-append}
use Rattle.benc.proofs.Out.{Wrote-then}
use Rattle.folders.specs.Printed.{end_rows}
use Rattle.folders.specs.declared.report_lines.Lines.TheVariants.{All}
use Rattle.lines.specs.Rows.{spell}
use Rattle.part_reports.specs.WholeLines.{whole_lines_rows, whole_rows}
use Rattle.part_reports.proofs.WholePrints.{printed_whole}
use Rattle.part_reports.proofs.whole_lines.say_marked_report.Goals as goal

pub returns : goal.returns
returns g c =
    let t = c.args.torrent.now in
    let joined = c.args.joined.now in
    let spelled = g.L.LineSink.spelled in
    let seen = g.L.LineSink.seen in
    let done = c.in_ok-say_files.ensures in
    let lines = whole_lines_rows t done.0 t.files in
    let end = end_rows All joined.report.files.items joined.report.v1 in
    let text = spell spelled (whole_rows t done.0 joined) in
    let wrote = Wrote-then c.say_end-said.result (seen c.args.out.now) (seen c.say_files.new.out) (seen c.say_end-said.new.out)
    (spell spelled lines) (spell spelled end) text (flat_map-append spelled lines end) done.2 c.say_end-said.ensures in
    printed_whole spelled t joined done.0 (seen c.args.out.now) (seen c.finish_after.new.out) c.finish_after.result done.1
    (c.finish_after.ensures (seen c.args.out.now) text wrote)
