use Rattle.std.proofs.Common.{◌≡◌, ◌-◌, ◌≤◌}
use Rattle.passes.proofs.Passed.{HasPassed}
use Rattle.passes.proofs.passing.pass.Given as goal

abbrev pub invariant-batches : goal.invariant-batches
invariant-batches g l = record {
  fits : g.J.Job.fits l.job l.scratch;
  passed : HasPassed g.S.Shelf g.S.File.Source.seen (g.J.Job.task l.job) l.fn.shelf (g.J.Job.state l.fn.kept l.fn.out) l.from l.shelf
      (g.J.Job.state l.kept l.out);
  ready : (g.J.Job.task l.job).is_ready l.from (g.J.Job.state l.kept l.out);
  inside : l.from ≤ l.count;
  cutting : l.held.cutting ≡ l.fn.held.cutting;
}

abbrev pub decreases-batches : goal.decreases-batches
decreases-batches g l = l.count - l.from
