use Rattle.btcheck_c.specs.Held.{CountsHeld}
use Rattle.btcheck_c.specs.declared.thing.Kind.TheVariants as kind
use Rattle.btcheck_c.proofs.Throughs.{through}
use Rattle.btcheck_c.proofs.hold_calls.btcheck_session_held.Goals as goal

pub returns-in-Holdings-clause-done : goal.returns-in-Holdings-clause-done
returns-in-Holdings-clause-done c = through (CountsHeld c.count_held-answer.new.count)
    c.args.handle.now.slot.held c.put.new.self.slot.held
    c.in-Some.thing.value c.deref_mut.result.now (kind.Holdings c.in-Holdings.held) (kind.Holdings c.in-Holdings.held) c.count_held-answer.result
    c.in-Some.ensures.taken c.deref_mut.ensures.value c.in-Holdings.is c.put.ensures c.count_held-answer.ensures.done
