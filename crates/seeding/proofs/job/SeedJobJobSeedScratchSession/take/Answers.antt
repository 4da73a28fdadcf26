use Rattle.std.proofs.Common.{◌≡◌, ◌∙◌, Result, Ok, Err, Some, ap, sym, subst}
use Rattle.std.specs.Prelude.{slice_get}
use Rattle.std.proofs.lemmas.Option.{slice_get_within}
use Rattle.std.proofs.lemmas.Result.{err_from_is_err_and}
use Rattle.lines.specs.declared.out_fault.OutFault.{OutFault as SeedFault}
use Rattle.opening.specs.Description.{Description, FileEntry}
use Rattle.opening.specs.Seen.{file_entry}
use Rattle.passes.specs.Held.{Answer}
use Rattle.seeding.specs.Passing.{FillsByTree, FindsByTree, SaysLine, SeedState, TakesAnswer, TakesFound}
use Rattle.seeding.specs.Seeding.{seed_line_as}
use Rattle.seeding.proofs.Filled.{fills_none, fills_some}
use Rattle.seeding.proofs.Trees.{same_file}
use Rattle.seeding.proofs.job.SeedJobJobSeedScratchSession.take.Given.{Over}
use Rattle.seeding.proofs.job.SeedJobJobSeedScratchSession.take.Goals as goal
use Rattle.seeding.proofs.job.SeedJobJobSeedScratchSession.take.Goals.{After-write_line_of, in-Some, in-None}

-- the leaves that were found were filled in
fills : (g : Over) (c : After-write_line_of g)
    → FillsByTree c.args.session.now c.index-files-number.result.tree c.in_ok-grown.field-0 c.match-branch-2.seeded c.match-branch-2.session
fills g c = elim c.match-branch-2.branch [
  | in-Some w ↦ rw (w.session-is, w.seeded-is, w.is_ok-seeded.ensures.value, w.unwrap.ensures, w.in-Some.is)
      (fills_some c.args.session.now w.adopt.new.self w.unwrap.result w.in-Some.grown.leaves w.adopt.result w.adopt.ensures.adopted w.adopt.ensures.refused
      w.adopt.ensures.only_mismatch)
  | in-None w ↦ rw (w.session-is, w.seeded-is, w.in-None.is) (fills_none c.args.session.now c.index-files-number.result.tree)
]

-- and the line of the file was said
taken : (g : Over) (c : After-write_line_of g) (i : FileEntry) (a : Answer) (result : Result (Unit {0}) SeedFault)
    → slice_get c.args.self.now.torrent.now.files c.args.number ≡ Some i → FindsByTree c.args.self.now.torrent.now i i.tree a c.args.found
    → SaysLine (g.L.LineSink.seen c.args.report.now) (g.L.LineSink.seen c.write_line_of.new.out) result
    (seed_line_as g.L.LineSink.spelled (file_entry c.index-files-number.result) c.match-branch-2.seeded)
    → TakesAnswer (seed_line_as g.L.LineSink.spelled) (c.args.session.now, g.L.LineSink.seen c.args.report.now) i a result
    (c.match-branch-2.session, g.L.LineSink.seen c.write_line_of.new.out)
taken g c i a result there finds says =
    let t = c.args.self.now.torrent.now in
    let old : SeedState = (c.args.session.now, g.L.LineSink.seen c.args.report.now) in
    let new : SeedState = (c.match-branch-2.session, g.L.LineSink.seen c.write_line_of.new.out) in
    let same : i ≡ file_entry c.index-files-number.result = same_file t c.files.result.now c.args.number c.index-files-number.result i c.files.ensures
    (slice_get_within t.files c.args.number i there) c.index-files-number.is there in
    record {
      found = c.args.found;
      finds = subst (λ (d : Description). FindsByTree d i i.tree a c.args.found) (sym c.requires.ready) finds;
      takes = subst (λ f. TakesFound (seed_line_as g.L.LineSink.spelled) old f c.args.found result new) (sym same)
          (rw c.in_ok-grown.was (c.match-branch-2.seeded, fills g c, says));
    }

pub returns-in_err-write_line_of-clause-takes : goal.returns-in_err-write_line_of-clause-takes
returns-in_err-write_line_of-clause-takes g c i a there finds =
    let p = err_from_is_err_and c.from_residual-in_err-write_line_of.result c.from_residual-in_err-write_line_of.ensures.1 in
    let line = seed_line_as g.L.LineSink.spelled (file_entry c.index-files-number.result) c.match-branch-2.seeded in
    taken g (goal.at.returns-in_err-write_line_of-clause-takes g c).After-write_line_of i a c.from_residual-in_err-write_line_of.result there finds
    (subst (λ r. SaysLine (g.L.LineSink.seen c.args.report.now) (g.L.LineSink.seen c.write_line_of.new.out) r line) (sym (p.1 ∙ ap Err p.2))
    c.in_err-write_line_of.ensures)

pub returns-clause-takes : goal.returns-clause-takes
returns-clause-takes g c i a there finds =
    taken g (goal.at.returns-clause-takes g c).After-write_line_of i a (Ok tt) there finds c.in_ok-write_line_of.ensures
