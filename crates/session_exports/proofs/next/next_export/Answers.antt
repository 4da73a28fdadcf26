use Rattle.std.proofs.Common.{sym, ap, ◌∙◌}
use Rattle.std.specs.Prelude.{length}
use Rattle.std.proofs.lemmas.List.{length-map}
use Rattle.opening.specs.Description.{Description}
use Rattle.opening.specs.Seen.{tree_entry}
use Rattle.session_exports.proofs.Leaves.{leaf-tree}
use Rattle.session_exports.proofs.Order.{searched-first, searched-next, next-found, nothing-left}
use Rattle.session_exports.proofs.next.next_export.Goals as goal

pub trees-init : goal.trees-init
trees-init g c = searched-first c.args.session.now c.args.point

pub returns-in-Some-clause-found : goal.returns-in-Some-clause-found
returns-in-Some-clause-found g c =
    let (low, few, leaf, unknown) = c.in-Some.ensures.found in
    next-found c.args.session.now c.args.point c.trees.tree c.trees.from c.in-Some.block c.range_at-ask.result c.trees.invariant low unknown
    c.range_at-ask.ensures

pub trees-preserved : goal.trees-preserved
trees-preserved g c =
    searched-next c.args.session.now c.args.point c.trees.tree c.trees.from c.trees.invariant c.in_default.ensures.none

pub returns-clause-end : goal.returns-clause-end
returns-clause-end g c =
    nothing-left c.args.session.now c.args.point c.trees.tree c.trees.from (length c.trees-count.result.now) c.trees.invariant c.trees-test.false
    (sym (length-map c.trees-count.result.now tree_entry) ∙ ap length c.trees-count.ensures ∙ ap (λ (d : Description). length d.trees) c.lent_torrent.ensures)
    (leaf-tree c.args.session.now)
