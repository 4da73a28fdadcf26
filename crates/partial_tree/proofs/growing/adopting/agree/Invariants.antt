use Rattle.std.proofs.Common.{◌<◌, ◌^◌, ◌-◌, ℕ}
use Rattle.node_maps.specs.Known.{look}
use Rattle.partial_tree.specs.Grown.{AgreeInRow}
use Rattle.partial_tree.proofs.growing.adopting.agree.Given as goal

abbrev pub invariant-layers : goal.invariant-layers
invariant-layers g l = (k : ℕ) → k < l.layer
    → AgreeInRow (look (g.N.NodeMap.seen l.fn.old).known) (look (g.N.NodeMap.seen l.fn.new).known) k (2 ^ (l.fn.height - k))
