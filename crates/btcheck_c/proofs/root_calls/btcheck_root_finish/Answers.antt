use Rattle.btcheck_c.specs.RootCalls.{Finished}
use Rattle.btcheck_c.specs.declared.thing.Kind.TheVariants as kind
use Rattle.btcheck_c.proofs.Throughs.{through}
use Rattle.btcheck_c.proofs.root_calls.btcheck_root_finish.Goals as goal

pub returns-in-Root-clause-done : goal.returns-in-Root-clause-done
returns-in-Root-clause-done c = through (Finished c.finish-answer.new.length c.finish-answer.new.root)
    c.args.handle.now.slot.held c.put.new.self.slot.held
    c.in-Some.thing.value c.deref_mut.result.now (kind.Root c.in-Root.file) (kind.Root c.finish-answer.new.file) c.finish-answer.result
    c.in-Some.ensures.taken c.deref_mut.ensures.value c.in-Root.is c.put.ensures c.finish-answer.ensures.done
