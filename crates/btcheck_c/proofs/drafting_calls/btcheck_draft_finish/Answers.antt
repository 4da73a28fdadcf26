use Rattle.btcheck_c.specs.Drafting.{FinishesDraft}
use Rattle.btcheck_c.specs.declared.thing.Kind.TheVariants as kind
use Rattle.btcheck_c.proofs.Throughs.{through}
use Rattle.btcheck_c.proofs.drafting_calls.btcheck_draft_finish.Goals as goal

pub returns-in-Draft-clause-done : goal.returns-in-Draft-clause-done
returns-in-Draft-clause-done c = through (FinishesDraft c.args.room.now c.finish-answer.new.room c.finish-answer.new.length)
    c.args.handle.now.slot.held c.put.new.self.slot.held
    c.in-Some.thing.value c.deref_mut.result.now (kind.Draft c.in-Draft.draft) (kind.Draft c.in-Draft.draft) c.finish-answer.result
    c.in-Some.ensures.taken c.deref_mut.ensures.value c.in-Draft.is c.put.ensures c.finish-answer.ensures.done
