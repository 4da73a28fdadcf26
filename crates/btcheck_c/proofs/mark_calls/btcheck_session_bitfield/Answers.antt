use Rattle.btcheck_c.specs.MarkCalls.{WritesBitfield}
use Rattle.btcheck_c.specs.declared.thing.Kind.TheVariants as kind
use Rattle.btcheck_c.proofs.Throughs.{through}
use Rattle.btcheck_c.proofs.mark_calls.btcheck_session_bitfield.Goals as goal

pub returns-in-Session-clause-done : goal.returns-in-Session-clause-done
returns-in-Session-clause-done c = through (WritesBitfield c.args.room.now c.bitfield-answer.new.room c.bitfield-answer.new.size)
    c.args.handle.now.slot.held c.put.new.self.slot.held
    c.in-Some.thing.value c.deref_mut.result.now (kind.Session c.in-Session.session) (kind.Session c.in-Session.session) c.bitfield-answer.result
    c.in-Some.ensures.taken c.deref_mut.ensures.value c.in-Session.is c.put.ensures c.bitfield-answer.ensures.done
