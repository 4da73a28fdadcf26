use Rattle.std.proofs.Common.{◌+◌, List}
use Rattle.passes.specs.Batches.{AreBatch}
use Rattle.passes.specs.Held.{Answer}
use Rattle.passes.specs.Passing.{TakesTo}
use Rattle.passes.proofs.passing.take_batch.Given as goal

abbrev pub invariant-held : goal.invariant-held
invariant-held g l = record {
  fits : g.J.Job.fits l.job l.scratch;
  takes : (k : g.J.Job.State) (all : List Answer) → AreBatch (g.J.Job.task l.job) l.batch.from l.held.answers l.batch.last all
      → TakesTo (g.J.Job.task l.job) k all l.batch.from (g.J.Job.state l.fn.kept l.fn.out)
      → TakesTo (g.J.Job.task l.job) k all (l.batch.from + l.place) (g.J.Job.state l.kept l.out);
  ready : (g.J.Job.task l.job).is_ready (l.batch.from + l.place) (g.J.Job.state l.kept l.out);
}
