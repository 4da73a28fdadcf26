use Rattle.btcheck_c.specs.CheckCalls.{EndsCheck}
use Rattle.btcheck_c.specs.declared.thing.Kind.TheVariants as kind
use Rattle.btcheck_c.proofs.Throughs.{through}
use Rattle.btcheck_c.proofs.check_calls.btcheck_check_finish.Goals as goal

pub returns-in-Check-clause-done : goal.returns-in-Check-clause-done
returns-in-Check-clause-done c = through (EndsCheck c.finish_file-answer.new.piece)
    c.args.handle.now.slot.held c.put.new.self.slot.held
    c.in-Some.thing.value c.deref_mut.result.now (kind.Check c.in-Check.check) (kind.Check c.finish_file-answer.new.check) c.finish_file-answer.result
    c.in-Some.ensures.taken c.deref_mut.ensures.value c.in-Check.is c.put.ensures c.finish_file-answer.ensures.done
