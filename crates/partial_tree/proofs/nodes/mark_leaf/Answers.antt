use Rattle.node_maps.proofs.Nodes.{marked-of}
use Rattle.partial_tree.proofs.Counting.{len_marked_again, len_marked_first}
use Rattle.partial_tree.proofs.nodes.mark_leaf.Goals as goal

pub returns-then-before-clause-count : goal.returns-then-before-clause-count
returns-then-before-clause-count g c =
    len_marked_again (g.N.NodeMap.seen c.args.map.now).marked (g.N.NodeMap.seen c.mark.new.self).marked c.args.block c.is_marked-before.result
    (marked-of c.mark.ensures.seen) c.is_marked-before.ensures c.if-before.true

pub returns-else-before-clause-count : goal.returns-else-before-clause-count
returns-else-before-clause-count g c =
    len_marked_first (g.N.NodeMap.seen c.args.map.now).marked (g.N.NodeMap.seen c.mark.new.self).marked c.args.block c.is_marked-before.result
    (marked-of c.mark.ensures.seen) c.is_marked-before.ensures c.if-before.false
