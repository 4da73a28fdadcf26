use Rattle.btcheck_c.specs.CheckCalls.{PushesBits}
use Rattle.btcheck_c.specs.declared.thing.Kind.TheVariants as kind
use Rattle.btcheck_c.proofs.Throughs.{through}
use Rattle.btcheck_c.proofs.check_calls.btcheck_check_push_bits.Goals as goal

pub returns-in-Check-clause-done : goal.returns-in-Check-clause-done
returns-in-Check-clause-done c = through (PushesBits c.args.bytes.now c.args.good.now c.push_file-answer.new.good)
    c.args.handle.now.slot.held c.put.new.self.slot.held
    c.in-Some.thing.value c.deref_mut.result.now (kind.Check c.in-Check.check) (kind.Check c.push_file-answer.new.check) c.push_file-answer.result
    c.in-Some.ensures.taken c.deref_mut.ensures.value c.in-Check.is c.put.ensures c.push_file-answer.ensures.done
