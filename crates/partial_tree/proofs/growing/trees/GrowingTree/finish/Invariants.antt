use Rattle.std.proofs.Common.{◌≡◌}
use Rattle.std.specs.FinSet.{empty}
use Rattle.partial_tree.proofs.FromLeaves.{IsUpTo}
use Rattle.partial_tree.proofs.growing.trees.GrowingTree.finish.Given as goal

abbrev pub invariant-layers : goal.invariant-layers
invariant-layers g l = record {
  length : (g.N.NodeMap.seen l.nodes).length ≡ l.fn.self.length;
  marked : (g.N.NodeMap.seen l.nodes).marked ≡ empty;
  up_to : IsUpTo l.fn.self.length l.fn.self.leaves l.layer (g.N.NodeMap.seen l.nodes).known;
}
