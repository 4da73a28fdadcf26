use Rattle.btcheck_c.specs.Held.{LooksAt}
use Rattle.btcheck_c.specs.declared.thing.Kind.TheVariants as kind
use Rattle.btcheck_c.proofs.Throughs.{through}
use Rattle.btcheck_c.proofs.hold_calls.btcheck_holdings_look_at.Goals as goal

pub returns-in-Holdings : goal.returns-in-Holdings
returns-in-Holdings c = through (LooksAt c.args.tree)
    c.args.handle.now.slot.held c.put.new.self.slot.held
    c.in-Some.thing.value c.deref_mut.result.now (kind.Holdings c.in-Holdings.held) (kind.Holdings c.look_at-answer.new.held) c.look_at-answer.result
    c.in-Some.ensures.taken c.deref_mut.ensures.value c.in-Holdings.is c.put.ensures c.look_at-answer.ensures
