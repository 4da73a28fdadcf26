use Rattle.btcheck_c.specs.Drafting.{AddsFileTo}
use Rattle.btcheck_c.proofs.Drafts.{with_file}
use Rattle.btcheck_c.proofs.drafting_calls.add.Goals as goal

pub returns-in-File : goal.returns-in-File
returns-in-File c = with_file (AddsFileTo c.args.path.now) c.args.draft.now c.add_file-answer.new.draft
    c.args.file.now.slot.held c.put.new.self.slot.held c.in-Some.thing.value c.deref_mut.result.now c.in-File.lent c.add_file-answer.new.file
    c.add_file-answer.result c.in-Some.ensures.taken c.deref_mut.ensures.value c.in-File.is c.put.ensures c.add_file-answer.ensures
