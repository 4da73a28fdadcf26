use Rattle.btcheck_c.specs.Drafting.{StartsFile}
use Rattle.btcheck_c.specs.declared.thing.Kind.TheVariants as kind
use Rattle.btcheck_c.proofs.Starting.{begins}
use Rattle.btcheck_c.proofs.drafting_calls.start_file.Goals as goal

pub returns-in-Draft : goal.returns-in-Draft
returns-in-Draft c = begins StartsFile c.args.draft.now.slot.held c.put.new.self.slot.held
    c.in-Some.thing.value c.deref_mut.result.now (kind.Draft c.in-Draft.lent) (kind.Draft c.in-Draft.lent) c.file_of-answer.result
    c.in-Some.ensures.taken c.deref_mut.ensures.value c.in-Draft.is c.put.ensures
    c.file_of-answer.ensures
