use Rattle.std.proofs.Common.{◌∙◌, sym, subst, map}
use Rattle.drafts.specs.Adding.{MayAdd, given_file}
use Rattle.drafts.specs.Outline.{Outline}
use Rattle.hashtree.specs.Hashes.{AreOfHashLength}
use Rattle.pieces.specs.Pieces.{IsPieceLength}
use Rattle.std.specs.Prelude.{Err}
use Rattle.drafting.specs.Drafted.{AddsParts, IsAdded, IsFileForDraft}
use Rattle.drafting.proofs.Adding.{added, declined, found_for, may_add}
use Rattle.drafting.proofs.Coming.{of_same}
use Rattle.drafting.proofs.open_draft.OpenDraft.add_parts.Goals as goal
use Rattle.drafting.proofs.open_draft.OpenDraft.add_parts.Goals.{After-recall_hashes}

-- the file is one for what is inside
of-draft : (c : After-recall_hashes) → IsFileForDraft c.self.inside.draft c.args.file.now
of-draft c = subst (λ (o : Outline). IsFileForDraft o c.args.file.now) (sym c.self.view_is) c.requires

pub add-requires : goal.add-requires
add-requires c =
    let d = c.self.inside.draft in
    let found = c.in_ok-found.found in
    let path = map (λ s. s.now) c.args.parts.now in
    let legal = subst IsPieceLength (sym c.self.invariant.0) c.recall_legal.ensures in
    subst (MayAdd d (given_file d path found.length found.root found.v1)) (sym c.deref-2.ensures.value)
    (may_add d path found legal (found_for d c.args.file.now found (of-draft (goal.at.add-requires c).After-recall_hashes) c.in_ok-found.ensures.found.some)
    (subst AreOfHashLength c.deref.ensures.value c.recall_hashes.ensures))

pub put_back-requires : goal.put_back-requires
put_back-requires c =
    of_same c.args.file.now c.take_found.new.self c.in_ok-found.found c.in_ok-found.ensures.kind c.in_ok-found.ensures.found.some

pub returns-in-Ok : goal.returns-in-Ok
returns-in-Ok c =
    subst (λ (o : Outline). IsAdded o c.args.file.now (map (λ s. s.now) c.args.parts.now) c.add.new.self c.new_file.result) c.self.view_is
    (added c.self.inside.draft c.args.file.now _ c.in_ok-found.found c.deref-2.result.now (of-draft (goal.at.returns-in-Ok c).After-recall_hashes)
    c.in_ok-found.ensures.found c.deref-2.ensures.value c.add.new.self c.new_file.result c.in-Ok.ensures.added.0 c.in-Ok.ensures.added.1 c.new_file.ensures)

pub returns-in-Err : goal.returns-in-Err
returns-in-Err c =
    let one = c.in_ok-found.ensures.kind in
    let two = c.put_back.ensures.kind in
    subst (λ (o : Outline). AddsParts o c.args.file.now (map (λ s. s.now) c.args.parts.now) c.add.new.self c.put_back.new.self (Err c.in-Err.refusal))
    c.self.view_is
    (declined c.self.inside.draft c.args.file.now _ c.in_ok-found.found c.deref-2.result.now (of-draft (goal.at.returns-in-Err c).After-recall_hashes)
    c.in_ok-found.ensures.found c.deref-2.ensures.value c.add.new.self c.put_back.new.self c.in-Err.refusal c.in-Err.ensures.unchanged
    (two.0 ∙ one.0, two.1 ∙ one.1) c.put_back.ensures.whole c.in-Err.ensures.added c.in-Err.ensures.memory)
