use Rattle.std.proofs.Common.{subst}
use Rattle.btcheck_c.specs.Holds.{Through}
use Rattle.btcheck_c.specs.WritingCalls.{AnswersFrame}
use Rattle.btcheck_c.specs.declared.thing.Kind.TheVariants as kind
use Rattle.btcheck_c.proofs.Throughs.{through}
use Rattle.btcheck_c.proofs.writing_calls.btcheck_session_answer_frame.Goals as goal

pub returns-in-Session-clause-done : goal.returns-in-Session-clause-done
returns-in-Session-clause-done c =
    let held = c.args.handle.now.slot.held in let held' = c.put.new.self.slot.held in let status = c.answer_frame-answer.result in
    let old = c.args.room.now in let new = c.answer_frame-answer.new.room in let length = c.answer_frame-answer.new.length in
    subst (λ ask. Through (AnswersFrame ask old new length) held status held') c.read_ask.ensures
    (through (AnswersFrame c.read_ask.result old new length) held held'
    c.in-Some.thing.value c.deref_mut.result.now (kind.Session c.in-Session.session) (kind.Session c.in-Session.session) status
    c.in-Some.ensures.taken c.deref_mut.ensures.value c.in-Session.is c.put.ensures c.answer_frame-answer.ensures.done)
