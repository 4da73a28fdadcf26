use Rattle.std.proofs.Common.{ap₂}
use Rattle.node_maps.specs.Nodes.{nodes}
use Rattle.node_maps.proofs.Cells.{no_cells, no_marks}
use Rattle.node_maps.proofs.flat.FlatNodeMap.empty.Goals as goal

pub returns-clause-seen : goal.returns-clause-seen
returns-clause-seen c =
    ap₂ (nodes c.args.shape) (no_cells c.height.result c.new.result.items c.new.ensures.items)
    (no_marks c.new-2.result.items c.new-2.ensures.items)
