use Rattle.std.proofs.Common.{◌≡◌}
use Rattle.passes.proofs.Looking.{HasLooked}
use Rattle.passes.proofs.passing.look_ahead.Given as goal

abbrev pub invariant-paths : goal.invariant-paths
invariant-paths g l = record {
  fits : g.J.Job.fits l.job l.scratch;
  looked : HasLooked g.S.Shelf g.S.File.Source.seen (g.J.Job.task l.job) l.from l.fn.shelf l.number l.held.answers l.shelf;
  cutting : l.held.cutting ≡ l.fn.held.cutting;
}
