use Rattle.std.proofs.Common.{subst}
use Rattle.btcheck_c.specs.Holds.{Through}
use Rattle.btcheck_c.specs.AskCalls.{SessionAnswers}
use Rattle.btcheck_c.specs.declared.thing.Kind.TheVariants as kind
use Rattle.btcheck_c.proofs.Throughs.{through}
use Rattle.btcheck_c.proofs.ask_calls.btcheck_session_answer.Goals as goal

pub returns-in-Session-clause-done : goal.returns-in-Session-clause-done
returns-in-Session-clause-done c =
    let held = c.args.handle.now.slot.held in let held' = c.put.new.self.slot.held in let status = c.answer-answer.result in
    subst (λ ask. Through (SessionAnswers ask c.args.room.now c.answer-answer.new.room c.answer-answer.new.count) held status held') c.read_ask.ensures
    (through (SessionAnswers c.read_ask.result c.args.room.now c.answer-answer.new.room c.answer-answer.new.count) held held'
    c.in-Some.thing.value c.deref_mut.result.now (kind.Session c.in-Session.session) (kind.Session c.in-Session.session) status
    c.in-Some.ensures.taken c.deref_mut.ensures.value c.in-Session.is c.put.ensures c.answer-answer.ensures.done)
