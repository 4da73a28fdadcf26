use Rattle.node_maps.specs.Known.{look}
use Rattle.partial_tree.specs.Grown.{AgreeInRow}
use Rattle.partial_tree.proofs.growing.adopting.agree_in_row.Given as goal

abbrev pub invariant-places : goal.invariant-places
invariant-places g l = AgreeInRow (look (g.N.NodeMap.seen l.fn.old).known) (look (g.N.NodeMap.seen l.fn.new).known) l.fn.layer l.index
