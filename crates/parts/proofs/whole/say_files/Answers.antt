use Rattle.std.proofs.Common.{◌∙◌, inr, ap, sym, Err, subst}
use Rattle.std.proofs.lemmas.Result.{err_from_is_err_and}
use Rattle.folders.specs.Printed.{end_rows}
use Rattle.lines.specs.Rows.{spell}
use Rattle.parts.specs.Checking.{ChecksAndSays, shelf_and_sink}
use Rattle.parts.proofs.Reported.{stopped_files}
use Rattle.parts.proofs.whole.say_files.Goals as goal

pub returns-in_err-report-clause-checks : goal.returns-in_err-report-clause-checks
returns-in_err-report-clause-checks g c =
    let spelled = g.L.LineSink.spelled in
    let seen = g.L.LineSink.seen in
    let old = shelf_and_sink c.args.shelf.now (seen c.args.out.now) in
    let new = shelf_and_sink c.visit_whole.new.shelf (seen c.visit_whole.new.out) in
    let p = err_from_is_err_and c.from_residual.result c.from_residual.ensures.1 in
    subst (ChecksAndSays g.S.Shelf g.S.File.Source.seen spelled c.args.torrent.now c.args.telling c.args.lines old new) (sym (p.1 ∙ ap Err p.2))
    (stopped_files g.S.Shelf g.S.File.Source.seen c.args.torrent.now spelled c.args.telling c.args.lines old new _ c.in_err-report.ensures.checks)

pub returns-in_err-finish_after-clause-checks : goal.returns-in_err-finish_after-clause-checks
returns-in_err-finish_after-clause-checks g c =
    let spelled = g.L.LineSink.spelled in
    let seen = g.L.LineSink.seen in
    let r = c.in_ok-report.report in
    let old = shelf_and_sink c.args.shelf.now (seen c.args.out.now) in
    let new = shelf_and_sink c.visit_whole.new.shelf (seen c.finish_after.new.out) in
    let p = err_from_is_err_and c.from_residual-in_err-finish_after.result c.from_residual-in_err-finish_after.ensures.1 in
    subst (ChecksAndSays g.S.Shelf g.S.File.Source.seen spelled c.args.torrent.now c.args.telling c.args.lines old new) (sym (p.1 ∙ ap Err p.2))
    (inr (record {
      verdicts = r.files.items;
      v1 = r.v1;
      mid = seen c.visit_whole.new.out;
      all = c.in_ok-report.ensures.checks;
      broke = c.in_err-finish_after.ensures (seen c.visit_whole.new.out) (spell spelled (end_rows c.args.lines r.files.items r.v1)) c.say_end-said.ensures;
    }))

pub returns-clause-checks : goal.returns-clause-checks
returns-clause-checks g c =
    let spelled = g.L.LineSink.spelled in
    let seen = g.L.LineSink.seen in
    let r = c.in_ok-report.report in
    record {
      mid = seen c.visit_whole.new.out;
      all = c.in_ok-report.ensures.checks;
      end = c.in_ok-finish_after.ensures (seen c.visit_whole.new.out) (spell spelled (end_rows c.args.lines r.files.items r.v1)) c.say_end-said.ensures;
    }
