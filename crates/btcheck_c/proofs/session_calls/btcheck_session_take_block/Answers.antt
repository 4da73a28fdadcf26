use Rattle.btcheck_c.specs.SessionCalls.{TakesBlock}
use Rattle.btcheck_c.specs.declared.thing.Kind.TheVariants as kind
use Rattle.btcheck_c.proofs.Throughs.{through}
use Rattle.btcheck_c.proofs.session_calls.btcheck_session_take_block.Goals as goal

pub returns-in-Session-clause-done : goal.returns-in-Session-clause-done
returns-in-Session-clause-done c = through (TakesBlock c.args.index c.args.begin c.args.bytes.now c.take_block-answer.new.file
    c.take_block-answer.new.block)
    c.args.handle.now.slot.held c.put.new.self.slot.held
    c.in-Some.thing.value c.deref_mut.result.now (kind.Session c.in-Session.session) (kind.Session c.take_block-answer.new.session) c.take_block-answer.result
    c.in-Some.ensures.taken c.deref_mut.ensures.value c.in-Session.is c.put.ensures c.take_block-answer.ensures.done
