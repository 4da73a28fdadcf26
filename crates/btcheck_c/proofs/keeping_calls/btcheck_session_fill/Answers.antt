use Rattle.btcheck_c.specs.Keeping.{SessionTakesLayer}
use Rattle.btcheck_c.specs.declared.thing.Kind.TheVariants as kind
use Rattle.btcheck_c.proofs.Throughs.{through}
use Rattle.btcheck_c.proofs.keeping_calls.btcheck_session_fill.Goals as goal

pub returns-in-Session-clause-done : goal.returns-in-Session-clause-done
returns-in-Session-clause-done c = through (SessionTakesLayer c.args.tree c.args.layer c.args.hashes.now c.take_layer-answer.new.places)
    c.args.handle.now.slot.held c.put.new.self.slot.held
    c.in-Some.thing.value c.deref_mut.result.now (kind.Session c.in-Session.session) (kind.Session c.take_layer-answer.new.session) c.take_layer-answer.result
    c.in-Some.ensures.taken c.deref_mut.ensures.value c.in-Session.is c.put.ensures c.take_layer-answer.ensures.done
