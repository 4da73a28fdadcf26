use Rattle.btcheck_c.specs.Held.{SettlesHeld}
use Rattle.btcheck_c.proofs.Throughs.{with_holdings}
use Rattle.btcheck_c.proofs.hold_calls.settle.Goals as goal

pub returns-in-Holdings-clause-done : goal.returns-in-Holdings-clause-done
returns-in-Holdings-clause-done c = with_holdings (SettlesHeld c.settle_held-answer.new.run) c.args.session.now c.settle_held-answer.new.session
    c.args.holdings.now.slot.held c.put.new.self.slot.held c.in-Some.thing.value c.deref_mut.result.now c.in-Holdings.held c.settle_held-answer.new.held
    c.settle_held-answer.result c.in-Some.ensures.taken c.deref_mut.ensures.value c.in-Holdings.is c.put.ensures c.settle_held-answer.ensures.done
