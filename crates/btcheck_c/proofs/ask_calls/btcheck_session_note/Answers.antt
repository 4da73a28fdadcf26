use Rattle.std.proofs.Common.{subst}
use Rattle.btcheck_c.specs.Holds.{Through}
use Rattle.btcheck_c.specs.AskCalls.{SessionNotes}
use Rattle.btcheck_c.specs.declared.thing.Kind.TheVariants as kind
use Rattle.btcheck_c.proofs.Throughs.{through}
use Rattle.btcheck_c.proofs.ask_calls.btcheck_session_note.Goals as goal

pub returns-in-Session : goal.returns-in-Session
returns-in-Session c =
    let held = c.args.handle.now.slot.held in let held' = c.put.new.self.slot.held in let status = c.note-answer.result in
    subst (λ ask. Through (SessionNotes ask) held status held') c.read_ask.ensures
    (through (SessionNotes c.read_ask.result) held held'
    c.in-Some.thing.value c.deref_mut.result.now (kind.Session c.in-Session.session) (kind.Session c.note-answer.new.session) status
    c.in-Some.ensures.taken c.deref_mut.ensures.value c.in-Session.is c.put.ensures c.note-answer.ensures)
