use Rattle.std.proofs.Common.{◌≡◌, ◌++◌, sym, subst, codes, rules}
use Rattle.benc.specs.Value.{Bencode}
use Rattle.benc.specs.View.{view}
use Rattle.opening.specs.Refusals.{info_rows}
use Rattle.filetree.specs.Tests.{First, NoneHolds}
use Rattle.opening.specs.Refusals.{top_rows, layers_rows, info_in}
use Rattle.filetree.proofs.Tables.{none_both, first_front, first_behind}
use Rattle.opening.proofs.KeyTests.{value_found}
use Rattle.benc.proofs.Handed.{handed_on}
use Rattle.opening.proofs.info.read_keys.Goals as goal

pub returns-in_err-tree : goal.returns-in_err-tree
returns-in_err-tree c =
    let v = view c.args.top.now in
    let r = c.in_err-tree.field-0.0 in
    let is : view c.in_ok-info.info.now ≡ info_in v = sym (value_found (codes "info") v (view c.in_ok-info.info.now) c.in_ok-info.ensures.1) in
    let rest = layers_rows v in
    rw (handed_on c.from_residual-in_err-tree.result _ c.from_residual-in_err-tree.ensures.1)
    (first_behind (top_rows v) (info_rows (info_in v) ++ rest) r c.in_ok-info.ensures.0
    (first_front (info_rows (info_in v)) rest r (subst (λ (i : Bencode). First (info_rows i) r) is c.in_err-tree.ensures)))

pub returns-in_err-layers : goal.returns-in_err-layers
returns-in_err-layers c =
    let v = view c.args.top.now in
    let r = c.in_err-layers.field-0.0 in
    let is : view c.in_ok-info.info.now ≡ info_in v = sym (value_found (codes "info") v (view c.in_ok-info.info.now) c.in_ok-info.ensures.1) in
    let known : NoneHolds (info_rows (info_in v)) = subst (λ (i : Bencode). NoneHolds (info_rows i)) is c.in_ok-tree.ensures.0 in
    rw (handed_on c.from_residual-in_err-layers.result _ c.from_residual-in_err-layers.ensures.1)
    (first_behind (top_rows v ++ info_rows (info_in v)) (layers_rows v) r (none_both (top_rows v) (info_rows (info_in v)) c.in_ok-info.ensures.0
    known) c.in_err-layers.ensures)

pub returns-in_err-info : goal.returns-in_err-info
returns-in_err-info c = search rules

pub returns : goal.returns
returns c = search rules
