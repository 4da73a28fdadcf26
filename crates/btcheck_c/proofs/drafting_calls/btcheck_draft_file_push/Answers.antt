use Rattle.btcheck_c.specs.Drafting.{PushesPart}
use Rattle.btcheck_c.specs.declared.thing.Kind.TheVariants as kind
use Rattle.btcheck_c.proofs.Throughs.{through}
use Rattle.btcheck_c.proofs.drafting_calls.btcheck_draft_file_push.Goals as goal

pub returns-in-File : goal.returns-in-File
returns-in-File c = through (PushesPart c.args.bytes.now) c.args.handle.now.slot.held c.put.new.self.slot.held
    c.in-Some.thing.value c.deref_mut.result.now (kind.File c.in-File.file) (kind.File c.push_part-answer.new.file) c.push_part-answer.result
    c.in-Some.ensures.taken c.deref_mut.ensures.value c.in-File.is c.put.ensures c.push_part-answer.ensures
