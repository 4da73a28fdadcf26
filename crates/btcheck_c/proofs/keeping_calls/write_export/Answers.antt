use Rattle.std.proofs.Common.{refl, inl, inr, ap, ◌∙◌, subst, arith}
use Rattle.partial_tree.specs.declared.answer.Answer.{Answer}
use Rattle.session.specs.Answers.{IsAnswerTo}
use Rattle.session_exports.specs.Exports.{IsExport, NothingFrom}
use Rattle.c_layouts.specs.Cursors.{cursor_of}
use Rattle.btcheck_c.proofs.Exporting.{export-answered, range-can, IsFewFrom}
use Rattle.btcheck_c.proofs.keeping_calls.write_export.Goals as goal
use Rattle.btcheck_c.proofs.keeping_calls.write_export.Goals.{After-deref, then-status-eq-DONE, else-status-eq-DONE}

-- the hashes that answer are a few
few_hashes : (c : After-deref) → IsFewFrom c.args.session.now c.in-Some.export.ask c.deref.result.now
few_hashes c =
    let next = c.in-Some.ensures.found in let ask = c.in-Some.export.ask in let S = c.args.session.now in
    let given = subst (λ (a : Answer). IsAnswerTo S ask a) c.in-Ok-Hashes.field-0-is c.in-Ok-Hashes.ensures.answer in
    export-answered S S c.torrent.result.now c.in-Some.export.tree next.block ask c.in-Ok-Hashes.hashes.items c.deref.result.now
    refl c.torrent.ensures c.recall_sound.ensures c.recall_closed_trees.ensures c.recall_distinct_roots.ensures next.range
    c.deref.ensures.value given

pub returns-in_default-clause-done : goal.returns-in_default-clause-done
returns-in_default-clause-done c =
    inr (inl (refl, subst (NothingFrom c.args.session.now) c.read_cursor.ensures c.in_default.ensures.end))

pub unreachable-requires : goal.unreachable-requires
unreachable-requires c =
    let next = c.in-Some.ensures.found in let ask = c.in-Some.export.ask in let S = c.args.session.now in
    let refused = subst (λ (a : Answer). IsAnswerTo S ask a) c.in-Ok-Reject.field-0-is c.in-Ok-Reject.ensures.answer in
    refused (range-can S S c.in-Some.export.tree next.block ask refl next.range)

pub returns-in-Err-clause-done : goal.returns-in-Err-clause-done
returns-in-Err-clause-done c =
    let next = c.in-Some.ensures.found in
    inr (inr (
      refl,
      (
        c.in-Some.export,
        subst (λ p. IsExport c.args.session.now p c.in-Some.export) c.read_cursor.ensures next,
        range-can c.args.session.now c.args.session.now c.in-Some.export.tree next.block c.in-Some.export.ask refl next.range,
      ),
    ))

pub write_hashes_frame-status-requires : goal.write_hashes_frame-status-requires
write_hashes_frame-status-requires c =
    let hashes = few_hashes (goal.at.write_hashes_frame-status-requires c).After-deref in omega (arith, hashes.few)

pub returns-after-status-eq-DONE-clause-done : goal.returns-after-status-eq-DONE-clause-done
returns-after-status-eq-DONE-clause-done c =
    let few = few_hashes (goal.at.returns-after-status-eq-DONE-clause-done c).After-deref in
    inl (record {
      next = c.in-Some.export;
      is_next = subst (λ p. IsExport c.args.session.now p c.in-Some.export) c.read_cursor.ensures c.in-Some.ensures.found;
      hashes = c.deref.result.now;
      answers = few.from;
      few = few.few;
      frame = c.write_hashes_frame-status.ensures.done;
      moves = elim c.if-status-eq-DONE.branch [
        | then-status-eq-DONE w ↦ λ _. w.cursor-is ∙ w.lay_out_cursor.ensures ∙ ap cursor_of w.end.ensures
        | else-status-eq-DONE w ↦ λ done. absurd (w.if-status-eq-DONE.false done)
      ];
    })
