use Rattle.btcheck_c.specs.Blocks.{TakesBlocks}
use Rattle.btcheck_c.specs.declared.thing.Kind.TheVariants as kind
use Rattle.btcheck_c.proofs.Throughs.{through}
use Rattle.btcheck_c.proofs.block_calls.btcheck_session_take_blocks.Goals as goal

pub returns-in-Session-clause-done : goal.returns-in-Session-clause-done
returns-in-Session-clause-done c = through (TakesBlocks c.args.index c.args.begin c.args.bytes.now c.take_blocks-answer.new.out)
    c.args.handle.now.slot.held c.put.new.self.slot.held
    c.in-Some.thing.value c.deref_mut.result.now (kind.Session c.in-Session.session) (kind.Session c.take_blocks-answer.new.session) c.take_blocks-answer.result
    c.in-Some.ensures.taken c.deref_mut.ensures.value c.in-Session.is c.put.ensures c.take_blocks-answer.ensures.done
