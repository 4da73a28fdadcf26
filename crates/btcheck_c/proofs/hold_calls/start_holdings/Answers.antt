use Rattle.btcheck_c.specs.Held.{StartsHolding}
use Rattle.btcheck_c.specs.declared.thing.Kind.TheVariants as kind
use Rattle.btcheck_c.proofs.Starting.{begins}
use Rattle.btcheck_c.proofs.hold_calls.start_holdings.Goals as goal

pub returns-in-Session : goal.returns-in-Session
returns-in-Session c = begins (StartsHolding c.args.bound) c.args.session.now.slot.held c.put.new.self.slot.held
    c.in-Some.thing.value c.deref_mut.result.now (kind.Session c.in-Session.lent) (kind.Session c.in-Session.lent) c.held_for-answer.result
    c.in-Some.ensures.taken c.deref_mut.ensures.value c.in-Session.is c.put.ensures
    c.held_for-answer.ensures
