use Rattle.session.proofs.SafeSteps.{safe_step}
use Rattle.session.proofs.session.SessionOf.step.Goals as goal

pub returns : goal.returns
returns g c = record {
  is_safe = safe_step c.args.self.now c.recall_closed_trees.ensures c.recall_distinct_roots.ensures c.args.message.now c.take.result c.take.new.self
      c.take.ensures;
}
