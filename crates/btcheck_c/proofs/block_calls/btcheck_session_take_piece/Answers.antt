use Rattle.btcheck_c.specs.SessionCalls.{TakesPiece}
use Rattle.btcheck_c.specs.declared.thing.Kind.TheVariants as kind
use Rattle.btcheck_c.proofs.Throughs.{through}
use Rattle.btcheck_c.proofs.block_calls.btcheck_session_take_piece.Goals as goal

pub returns-in-Session-clause-done : goal.returns-in-Session-clause-done
returns-in-Session-clause-done c = through (TakesPiece c.args.index c.args.bytes.now c.take_piece-answer.new.file c.take_piece-answer.new.block)
    c.args.handle.now.slot.held c.put.new.self.slot.held
    c.in-Some.thing.value c.deref_mut.result.now (kind.Session c.in-Session.session) (kind.Session c.take_piece-answer.new.session) c.take_piece-answer.result
    c.in-Some.ensures.taken c.deref_mut.ensures.value c.in-Session.is c.put.ensures c.take_piece-answer.ensures.done
