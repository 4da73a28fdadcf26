use Rattle.std.proofs.Common.{◌+◌, ◌<◌, sym, subst, arith}
use Rattle.node_maps.specs.Known.{look}
use Rattle.node_maps.specs.Places.{IsKnown}
use Rattle.partial_tree.specs.Kept.{KeptTree}
use Rattle.partial_tree.proofs.tree.Tree.mark_leaves.Goals as goal

pub mark_known-requires-clause-known : goal.mark_known-requires-clause-known
mark_known-requires-clause-known g c =
    let low : c.leaves.j < c.args.count = omega (arith, c.leaves-test.true) in
    subst (λ (v : KeptTree). IsKnown (look v.state.known) 0 (c.args.first + c.leaves.j)) (sym c.leaves.invariant.marked) (c.requires.known c.leaves.j low)
