use Rattle.std.proofs.Common.{◌∙◌, Err, ap, subst, sym}
use Rattle.std.proofs.lemmas.Result.{err_from_is_err_and}
use Rattle.parts.specs.Checking.{EndsFiles, shelf_and_sink}
use Rattle.parts.proofs.WholeVisits.{whole_all}
use Rattle.parts.proofs.all_files.visit_whole.Goals as goal

pub returns-in_err-report-clause-checks : goal.returns-in_err-report-clause-checks
returns-in_err-report-clause-checks g c =
    let old = shelf_and_sink c.args.shelf.now (g.L.LineSink.seen c.args.out.now) in
    let new = shelf_and_sink c.visit_in.new.shelf (g.L.LineSink.seen c.visit_in.new.out) in
    let p = err_from_is_err_and c.from_residual-in_err-report.result c.from_residual-in_err-report.ensures.1 in
    subst (EndsFiles g.S.Shelf g.S.File.Source.seen g.L.LineSink.spelled c.args.torrent.now c.args.telling old new) (sym (p.1 ∙ ap Err p.2))
    c.in_err-report.ensures.ends

pub returns-clause-checks : goal.returns-clause-checks
returns-clause-checks g c =
    let report = c.in_ok-report.report in
    whole_all g.S.Shelf g.S.File.Source.seen c.args.torrent.now g.L.LineSink.spelled c.args.telling report.files.items report.v1
    (shelf_and_sink c.args.shelf.now (g.L.LineSink.seen c.args.out.now))
    (shelf_and_sink c.visit_in.new.shelf (g.L.LineSink.seen c.visit_in.new.out)) c.recall_sound.ensures c.in_ok-report.ensures.ends
