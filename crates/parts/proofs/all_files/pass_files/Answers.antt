use Rattle.std.proofs.Common.{◌≡◌, ◌<◌, ◌^◌, length, take, Vec, inr, ap, refl, sym, subst, arith, vec_capacity}
use Rattle.std.specs.Global.{Global}
use Rattle.std.specs.Prelude.{IfSome}
use Rattle.folders.specs.declared.report.FileVerdict.{FileVerdict}
use Rattle.folders.specs.declared.report.V1Verdict.TheVariants as verdict
use Rattle.parts.specs.Checking.{shelf_and_sink}
use Rattle.parts.specs.Passing.{CheckState, check_task}
use Rattle.parts.specs.Visiting.{VisitsAll, whole_visiting}
use Rattle.parts.proofs.Passed.{stops_passing, told_passed}
use Rattle.parts.proofs.ToldFirst.{told_all, told_count}
use Rattle.passes.proofs.Stops.{looks_still}
use Rattle.parts.proofs.all_files.pass_files.Goals as goal

pub pass-requires-clause-ready : goal.pass-requires-clause-ready
pass-requires-clause-ready g c = record { count = ap length c.requires.room.none; room = c.requires.room.files }

pub returns-in-Ok-clause-ends : goal.returns-in-Ok-clause-ends
returns-in-Ok-clause-ends g c =
    let t = c.args.torrent.now in
    let spelled = g.L.LineSink.spelled in
    let seen = g.S.File.Source.seen in
    let V = whole_visiting g.S.Shelf seen t in
    let kept = c.pass.new.kept in
    let v1 = c.report_of.result.v1 in
    let k : CheckState = record {
      files = c.args.room.files.items;
      room = vec_capacity c.args.room.files;
      v1 = verdict.Good;
      out = g.L.LineSink.seen c.args.out.now;
    } in
    let k' : CheckState = record {
      files = kept.files.items;
      room = vec_capacity kept.files;
      v1 = kept.v1;
      out = g.L.LineSink.seen c.pass.new.out;
    } in
    let old = shelf_and_sink c.args.shelf.now k.out in
    let new = shelf_and_sink c.pass.new.shelf k'.out in
    let so_far = told_passed g.S.Shelf seen t spelled c.args.telling c.recall_sound.ensures c.requires.lines c.args.shelf.now c.pass.new.shelf k k'
    c.requires.room.none refl c.in-Ok.ensures.all in
    let count : length kept.files.items ≡ length t.files =
    told_count V spelled t c.args.telling old new (length t.files) kept.files.items kept.v1 so_far in
    let few : length kept.files.items < 2 ^ 64 = omega (arith, kept.files.small) in
    subst (λ (fs : Vec FileVerdict Global). VisitsAll V spelled t c.args.telling fs.items v1 old new) (sym c.report_of.ensures.files)
    (told_all V spelled t c.args.telling old new (length t.files) kept.files.items kept.v1 v1 c.recall_sound.ensures refl few c.report_of.ensures.hybrid
    (λ v at. subst (λ o. IfSome o (λ w. kept.v1 ≡ w)) at c.report_of.ensures.v1) so_far)

pub returns-in-Ok-clause-stays : goal.returns-in-Ok-clause-stays
returns-in-Ok-clause-stays g c =
    let t = c.args.torrent.now in
    let all = c.in-Ok.ensures.all in
    looks_still g.S.Shelf g.S.File.Source.seen (check_task g.L.LineSink.spelled t c.args.telling) c.args.shelf.now
    t.files all.answers c.pass.new.shelf all.looks

pub returns-clause-ends : goal.returns-clause-ends
returns-clause-ends g c =
    let kept = c.pass.new.kept in
    let stopped = c.in-Err.stopped in
    let k : CheckState = record {
      files = c.args.room.files.items;
      room = vec_capacity c.args.room.files;
      v1 = verdict.Good;
      out = g.L.LineSink.seen c.args.out.now;
    } in
    let k' : CheckState = record {
      files = kept.files.items;
      room = vec_capacity kept.files;
      v1 = kept.v1;
      out = g.L.LineSink.seen c.pass.new.out;
    } in
    inr (stops_passing g.S.Shelf g.S.File.Source.seen c.args.torrent.now g.L.LineSink.spelled c.args.telling c.args.shelf.now c.pass.new.shelf k k'
    stopped.number stopped.stop c.recall_sound.ensures c.requires.lines c.requires.room.none refl c.in-Err.ensures.stops)

pub returns-clause-stays : goal.returns-clause-stays
returns-clause-stays g c =
    let t = c.args.torrent.now in
    let stops = c.in-Err.ensures.stops in
    looks_still g.S.Shelf g.S.File.Source.seen (check_task g.L.LineSink.spelled t c.args.telling) c.args.shelf.now (take (length stops.answers) t.files)
    stops.answers c.pass.new.shelf stops.looks
