use Rattle.partial_tree.proofs.Counting.{counted_root}
use Rattle.node_maps.specs.Places.{tree_height}
use Rattle.partial_tree.proofs.tree.Tree.new.Goals as goal

pub invariant_of-result : goal.invariant_of-result
invariant_of-result g c =
    counted_root (tree_height c.args.shape) c.args.shape c.args.root c.in_ok-nodes.nodes c.in_ok-nodes.ensures.root c.with_root.ensures.low
