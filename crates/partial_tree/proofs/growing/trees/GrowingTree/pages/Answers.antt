use Rattle.std.proofs.Common.{◌≤◌, length, sym, subst, arith}
use Rattle.partial_tree.specs.Grown.{GrownTree}
use Rattle.partial_tree.proofs.FromLeaves.{length-leaves}
use Rattle.partial_tree.proofs.growing.trees.GrowingTree.pages.Goals as goal

pub returns : goal.returns
returns g c =
    let old = c.self.inside in
    subst (λ (t : GrownTree). c.pages.result ≤ length t.leaves) c.self.view_is
    (omega (arith, c.pages.ensures, c.self.invariant.4, length-leaves (g.N.NodeMap.seen old.nodes).known old.count))
