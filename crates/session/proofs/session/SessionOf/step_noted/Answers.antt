use Rattle.std.proofs.Common.{sym, subst}
use Rattle.wire.specs.declared.form.Direction.{Direction}
use Rattle.wire.specs.declared.form.Direction.TheVariants.{In, Out}
use Rattle.session.specs.Noted.{IsSafeNotedStep}
use Rattle.session.proofs.NotedSteps.{safe_noted_step}
use Rattle.session.proofs.session.SessionOf.step_noted.Goals as goal

pub returns-in-In : goal.returns-in-In
returns-in-In g c = record {
  is_safe = subst (λ (d : Direction). IsSafeNotedStep c.args.self.now (d, c.args.message.now) c.take_in.result c.take_in.new.self)
      (sym c.in-In.is)
      (safe_noted_step c.args.self.now c.recall_closed_trees.ensures c.recall_distinct_roots.ensures (In, c.args.message.now) c.take_in.result
      c.take_in.new.self
      c.take_in.ensures);
}

pub returns-in-Out : goal.returns-in-Out
returns-in-Out g c = record {
  is_safe = subst (λ (d : Direction). IsSafeNotedStep c.args.self.now (d, c.args.message.now) c.send.result c.send.new.self) (sym c.in-Out.is)
      (safe_noted_step c.args.self.now c.recall_closed_trees.ensures c.recall_distinct_roots.ensures (Out, c.args.message.now) c.send.result c.send.new.self
      c.send.ensures);
}
