use Rattle.btcheck_c.specs.RootCalls.{Pushed}
use Rattle.btcheck_c.specs.declared.thing.Kind.TheVariants as kind
use Rattle.btcheck_c.proofs.Throughs.{through}
use Rattle.btcheck_c.proofs.root_calls.btcheck_root_push.Goals as goal

pub returns-in-Root : goal.returns-in-Root
returns-in-Root c = through (Pushed c.args.bytes.now)
    c.args.handle.now.slot.held c.put.new.self.slot.held
    c.in-Some.thing.value c.deref_mut.result.now (kind.Root c.in-Root.file) (kind.Root c.push-answer.new.file) c.push-answer.result
    c.in-Some.ensures.taken c.deref_mut.ensures.value c.in-Root.is c.put.ensures c.push-answer.ensures
