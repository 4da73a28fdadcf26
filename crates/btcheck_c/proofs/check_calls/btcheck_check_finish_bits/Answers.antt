use Rattle.btcheck_c.specs.CheckCalls.{EndsBits}
use Rattle.btcheck_c.specs.declared.thing.Kind.TheVariants as kind
use Rattle.btcheck_c.proofs.Throughs.{through}
use Rattle.btcheck_c.proofs.check_calls.btcheck_check_finish_bits.Goals as goal

pub returns-in-Check-clause-done : goal.returns-in-Check-clause-done
returns-in-Check-clause-done c = through (EndsBits c.args.good.now c.finish_bits-answer.new.good c.finish_bits-answer.new.piece)
    c.args.handle.now.slot.held c.put.new.self.slot.held
    c.in-Some.thing.value c.deref_mut.result.now (kind.Check c.in-Check.check) (kind.Check c.finish_bits-answer.new.check) c.finish_bits-answer.result
    c.in-Some.ensures.taken c.deref_mut.ensures.value c.in-Check.is c.put.ensures c.finish_bits-answer.ensures.done
