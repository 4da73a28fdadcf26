use Rattle.std.proofs.Common.{◌≤◌, ◌^◌, map, refl, sym, ap, ◌∙◌, subst, All}
use Rattle.std.proofs.lemmas.Result.{err_from_is_err_and}
use Rattle.filetree.specs.Tests.{First, NoneHolds}
use Rattle.opening.specs.Layered.{layer_pairs}
use Rattle.opening.specs.PieceLayers.{tree_at}
use Rattle.opening.specs.Refusals.{layer_rows}
use Rattle.opening.specs.declared.roots.Root.{Root}
use Rattle.opening.proofs.Growing.{layers_take_none}
use Rattle.benc.proofs.Handed.{handed_on}
use Rattle.opening.proofs.open.with_layers.Goals as goal

pub test-requires : goal.test-requires
test-requires c = subst (All (λ (t : Root). t.length ≤ 2 ^ 46)) (sym c.as_slice.ensures) c.requires.bound

pub returns-in_err-test-clause-passes : goal.returns-in_err-test-clause-passes
returns-in_err-test-clause-passes c =
    let r = c.in_err-test.field-0.0 in
    rw (handed_on c.from_residual.result _ c.from_residual.ensures.1)
    (λ _. subst (λ us. First (layer_rows c.args.piece_length (layer_pairs c.args.layers.now) us) r) c.as_slice.ensures c.in_err-test.ensures)

pub returns-in_err-test-clause-memory : goal.returns-in_err-test-clause-memory
returns-in_err-test-clause-memory c =
    let k = c.args.piece_length in
    let layers = layer_pairs c.args.layers.now in
    let us = c.as_slice.result.now in
    rw (handed_on c.from_residual.result _ c.from_residual.ensures.1)
    (λ memory. absurd (layers_take_none k layers us (subst (First (layer_rows k layers us)) memory c.in_err-test.ensures)))

pub returns-in_err-trees-clause-passes : goal.returns-in_err-trees-clause-passes
returns-in_err-trees-clause-passes c =
    rw (handed_on c.from_residual-in_err-trees.result _ c.from_residual-in_err-trees.ensures.1) (λ other. absurd (other refl))

pub returns-in_err-trees-clause-memory : goal.returns-in_err-trees-clause-memory
returns-in_err-trees-clause-memory c =
    let p = err_from_is_err_and c.from_residual-in_err-trees.result c.from_residual-in_err-trees.ensures.1 in
    rw p.1 (λ _. subst (λ us. NoneHolds (layer_rows c.args.piece_length (layer_pairs c.args.layers.now) us)) c.as_slice.ensures c.in_ok-test.ensures.0)

pub returns-in_err-files-clause-passes : goal.returns-in_err-files-clause-passes
returns-in_err-files-clause-passes c =
    rw (handed_on c.from_residual-in_err-files.result _ c.from_residual-in_err-files.ensures.1) (λ other. absurd (other refl))

pub returns-in_err-files-clause-memory : goal.returns-in_err-files-clause-memory
returns-in_err-files-clause-memory c =
    let p = err_from_is_err_and c.from_residual-in_err-files.result c.from_residual-in_err-files.ensures.1 in
    rw p.1 (λ _. subst (λ us. NoneHolds (layer_rows c.args.piece_length (layer_pairs c.args.layers.now) us)) c.as_slice.ensures c.in_ok-test.ensures.0)

pub returns-clause-passes : goal.returns-clause-passes
returns-clause-passes c =
    let k = c.args.piece_length in
    let layers = layer_pairs c.args.layers.now in (
      subst (λ us. NoneHolds (layer_rows k layers us)) c.as_slice.ensures c.in_ok-test.ensures.0,
      record {
        files = c.in_ok-files.ensures.files;
        trees = c.in_ok-trees.ensures.trees ∙ ap (map (tree_at k layers)) c.as_slice-2.ensures;
        numbers = c.into_numbers.ensures;
        room = (c.in_ok-files.ensures.room, c.in_ok-trees.ensures.room);
      },
    )
