use Rattle.std.proofs.Common.{◌∙◌, inl, inr, Err, Ok, Result, ap, subst, sym}
use Rattle.std.proofs.lemmas.Result.{err_from_is_err_and}
use Rattle.benc.specs.declared.device.DeviceFault.{DeviceFault}
use Rattle.folders.specs.declared.report.Report.{Report}
use Rattle.lines.specs.Rows.{spell}
use Rattle.parts.specs.Checking.{shelf_and_sink}
use Rattle.parts.specs.MarkedChecks.{BehindHead, ChecksMarkedAs, ChecksMarkedPart}
use Rattle.parts.specs.PartLines.{part_end_rows}
use Rattle.parts.specs.Shares.{share}
use Rattle.parts.specs.Visiting.{EndsVisits, part_visiting}
use Rattle.parts.specs.declared.telling.Telling.TheVariants as telling
use Rattle.parts.proofs.MarkedVisits.{marked_prints}
use Rattle.parts.proofs.part.say_check_part_with_bad_pieces.Given.{Over}
use Rattle.parts.proofs.part.say_check_part_with_bad_pieces.Goals as goal
use Rattle.parts.proofs.part.say_check_part_with_bad_pieces.Goals.{After-visit_files, In_ok-report}

-- the first line went out, and then the files were visited
behind_head : (g : Over) (c : After-visit_files g) (r : Result Report DeviceFault) → EndsVisits
    (part_visiting g.S.Shelf g.S.SeekShelf.opens_at g.S.File.Source.seen c.of_part-places.result c.args.torrent.now) g.L.LineSink.spelled c.args.torrent.now
    (telling.RunsIn c.of_part-places.result) (shelf_and_sink c.args.shelf.now (g.L.LineSink.seen c.say_bad_head.new.out))
    (shelf_and_sink c.visit_files.new.shelf (g.L.LineSink.seen c.visit_files.new.out)) r
    → BehindHead g.L.LineSink.spelled g.S.Shelf g.S.SeekShelf.opens_at g.S.File.Source.seen c.args.torrent.now c.args.part c.args.parts
    (λ begun. EndsVisits
    (part_visiting g.S.Shelf g.S.SeekShelf.opens_at g.S.File.Source.seen (share c.args.torrent.now c.args.part c.args.parts) c.args.torrent.now)
    g.L.LineSink.spelled c.args.torrent.now (telling.RunsIn (share c.args.torrent.now c.args.part c.args.parts)) begun
    (shelf_and_sink c.visit_files.new.shelf (g.L.LineSink.seen c.visit_files.new.out)) r)
    (shelf_and_sink c.args.shelf.now (g.L.LineSink.seen c.args.out.now))
behind_head g c r ends = record {
  begun = g.L.LineSink.seen c.say_bad_head.new.out;
  head = c.in_ok-say_bad_head.ensures;
  files = subst (λ p. EndsVisits (part_visiting g.S.Shelf g.S.SeekShelf.opens_at g.S.File.Source.seen p c.args.torrent.now) g.L.LineSink.spelled
      c.args.torrent.now (telling.RunsIn p) (shelf_and_sink c.args.shelf.now (g.L.LineSink.seen c.say_bad_head.new.out))
      (shelf_and_sink c.visit_files.new.shelf (g.L.LineSink.seen c.visit_files.new.out)) r) c.of_part-places.ensures ends;
}

pub visit_files-requires-clause-own : goal.visit_files-requires-clause-own
visit_files-requires-clause-own g c = λ n f content v bits there marks. marks

pub returns-in_err-report-clause-checks : goal.returns-in_err-report-clause-checks
returns-in_err-report-clause-checks g c =
    let p = err_from_is_err_and c.from_residual-in_err-report.result c.from_residual-in_err-report.ensures.1 in
    subst (ChecksMarkedAs g.L.LineSink.spelled g.S.Shelf g.S.SeekShelf.opens_at g.S.File.Source.seen c.args.torrent.now c.args.part c.args.parts
    (shelf_and_sink c.args.shelf.now (g.L.LineSink.seen c.args.out.now)) (shelf_and_sink c.visit_files.new.shelf (g.L.LineSink.seen c.visit_files.new.out)))
    (sym (p.1 ∙ ap Err p.2))
    (inl (inr (behind_head g (goal.at.returns-in_err-report-clause-checks g c).After-visit_files (Err c.in_err-report.field-0.0) c.in_err-report.ensures.ends)))

pub returns-in_err-finish_after-clause-checks : goal.returns-in_err-finish_after-clause-checks
returns-in_err-finish_after-clause-checks g c =
    let r = c.in_ok-report.report in
    let mid = g.L.LineSink.seen c.visit_files.new.out in
    let p = err_from_is_err_and c.from_residual-in_err-finish_after.result c.from_residual-in_err-finish_after.ensures.1 in
    subst (ChecksMarkedAs g.L.LineSink.spelled g.S.Shelf g.S.SeekShelf.opens_at g.S.File.Source.seen c.args.torrent.now c.args.part c.args.parts
    (shelf_and_sink c.args.shelf.now (g.L.LineSink.seen c.args.out.now)) (shelf_and_sink c.visit_files.new.shelf (g.L.LineSink.seen c.finish_after.new.out)))
    (sym (p.1 ∙ ap Err p.2))
    (inr (record {
      verdicts = r.files.items;
      v1 = r.v1;
      mid = mid;
      all = behind_head g (goal.at.returns-in_err-finish_after-clause-checks g c).After-visit_files (Ok r) c.in_ok-report.ensures.ends;
      broke = c.in_err-finish_after.ensures mid (spell g.L.LineSink.spelled (part_end_rows r.files.items r.v1)) c.say_end-said.ensures;
    }))

pub returns-clause-checks : goal.returns-clause-checks
returns-clause-checks g c =
    let r = c.in_ok-report.report in
    let mid = g.L.LineSink.seen c.visit_files.new.out in
    record {
      mid = mid;
      all = behind_head g (goal.at.returns-clause-checks g c).After-visit_files (Ok r) c.in_ok-report.ensures.ends;
      end = c.in_ok-finish_after.ensures mid (spell g.L.LineSink.spelled (part_end_rows r.files.items r.v1)) c.say_end-said.ensures;
    }

pub returns-clause-report : goal.returns-clause-report
returns-clause-report g c =
    let r = c.in_ok-report.report in
    let checks : ChecksMarkedPart g.L.LineSink.spelled g.S.Shelf g.S.SeekShelf.opens_at g.S.File.Source.seen c.args.torrent.now c.args.part c.args.parts
    r.files.items r.v1
    (shelf_and_sink c.args.shelf.now (g.L.LineSink.seen c.args.out.now))
    (shelf_and_sink c.visit_files.new.shelf (g.L.LineSink.seen c.finish_after.new.out)) = returns-clause-checks g c in
    marked_prints g.L.LineSink.spelled g.S.Shelf g.S.SeekShelf.opens_at g.S.File.Source.seen c.args.torrent.now c.args.part c.args.parts r.files.items
    r.v1 _ _ checks
