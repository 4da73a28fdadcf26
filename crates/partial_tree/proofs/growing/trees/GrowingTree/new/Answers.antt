use Rattle.std.proofs.Common.{◌≡◌, ◌≤◌, ap, ◌∙◌, arith}
use Rattle.std.specs.FinMap.{len, len-empty}
use Rattle.node_maps.specs.Digest.{Hash}
use Rattle.node_maps.specs.Known.{place_cmp}
use Rattle.node_maps.proofs.Nodes.{known-of, length-of, marked-of}
use Rattle.partial_tree.proofs.FromLeaves.{growing-none}
use Rattle.partial_tree.proofs.growing.trees.GrowingTree.new.Goals as goal

pub invariant_of-result : goal.invariant_of-result
invariant_of-result g c = (
  (length-of c.empty.ensures.seen),
  omega arith,
  (marked-of c.empty.ensures.seen),
  growing-none (g.N.NodeMap.seen c.empty.result).known (known-of c.empty.ensures.seen),
  let few : g.N.NodeMap.needed (g.N.NodeMap.seen c.empty.result).known ≤ len (g.N.NodeMap.seen c.empty.result).known =
      g.met.N.NodeMap.needs_few (g.N.NodeMap.seen c.empty.result).known in
      let none : len (g.N.NodeMap.seen c.empty.result).known ≡ 0 = ap len (known-of c.empty.ensures.seen) ∙ len-empty place_cmp Hash in
      omega (arith, few, none, c.empty.ensures.held),
)
