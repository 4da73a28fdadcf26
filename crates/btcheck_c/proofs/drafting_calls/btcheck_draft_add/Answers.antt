use Rattle.btcheck_c.specs.Drafting.{AddsFileTo, OnDraft}
use Rattle.btcheck_c.proofs.Drafts.{through_draft}
use Rattle.btcheck_c.proofs.Throughs.{both_none}
use Rattle.btcheck_c.proofs.drafting_calls.btcheck_draft_add.Goals as goal

pub returns-in_default : goal.returns-in_default
returns-in_default c = both_none (OnDraft (AddsFileTo c.args.path.now)) c.args.draft.now.slot.held
    c.take.new.self.slot.held c.args.file.now.slot.held c.in_default.ensures.taken c.take.ensures.empty

pub returns-in-Draft : goal.returns-in-Draft
returns-in-Draft c = through_draft (AddsFileTo c.args.path.now) c.args.draft.now.slot.held c.put.new.self.slot.held
    c.args.file.now.slot.held c.add-answer.new.file.slot.held c.in-Some.thing.value c.deref_mut.result.now c.in-Draft.lent
    c.add-answer.new.draft c.add-answer.result c.in-Some.ensures.taken c.deref_mut.ensures.value c.in-Draft.is c.put.ensures
    c.add-answer.ensures
