use Rattle.std.proofs.Common.{◌^◌, ◌≤◌, sym, subst, arith}
use Rattle.std.specs.FinSet as set
use Rattle.partial_tree.specs.Kept.{KeptTree, kept, IsGoodTree}
use Rattle.partial_tree.specs.LeafRows.{tree_with_leaf_marked}
use Rattle.node_maps.specs.Nodes.{Nodes}
use Rattle.partial_tree.proofs.Counting.{marks_fit}
use Rattle.partial_tree.proofs.TakenRows.{good_leaf}
use Rattle.partial_tree.proofs.tree.Tree.mark_known.Goals as goal

pub overflow_add-self : goal.overflow_add-self
overflow_add-self g c =
    let old = c.self.inside in
    let now : KeptTree = kept old.root old.nodes.length old.nodes.known old.nodes.marked in
    let good : IsGoodTree now = subst IsGoodTree (sym c.self.view_is) c.requires.good in
    let few : set.len old.nodes.marked ≤ 2 ^ 32 = marks_fit now good c.self.invariant.low in
    omega (arith, few, c.self.invariant.marked_is, c.mark.ensures.one)

pub returns-clause-good : goal.returns-clause-good
returns-clause-good g c =
    subst (λ (n : Nodes). IsGoodTree (kept c.self.inside.root n.length n.known n.marked)) (sym c.mark.ensures.marked)
    (subst (λ (v : KeptTree). IsGoodTree (tree_with_leaf_marked v c.args.block)) (sym c.self.view_is)
    (good_leaf c.args.self.now c.args.block c.requires.good c.requires.known))
