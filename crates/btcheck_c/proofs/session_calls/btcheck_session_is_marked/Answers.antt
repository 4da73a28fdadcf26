use Rattle.btcheck_c.specs.SessionCalls.{AnswersIfMarked}
use Rattle.btcheck_c.specs.declared.thing.Kind.TheVariants as kind
use Rattle.btcheck_c.proofs.Throughs.{through}
use Rattle.btcheck_c.proofs.session_calls.btcheck_session_is_marked.Goals as goal

pub returns-in-Session : goal.returns-in-Session
returns-in-Session c = through (AnswersIfMarked c.args.tree c.args.block)
    c.args.handle.now.slot.held c.put.new.self.slot.held
    c.in-Some.thing.value c.deref_mut.result.now (kind.Session c.in-Session.session) (kind.Session c.in-Session.session) c.is_marked-answer.result
    c.in-Some.ensures.taken c.deref_mut.ensures.value c.in-Session.is c.put.ensures c.is_marked-answer.ensures
