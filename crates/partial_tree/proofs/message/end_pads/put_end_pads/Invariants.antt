use Rattle.std.proofs.Common.{◌≡◌, ◌+◌, ◌*◌, ◌≤◌}
use Rattle.std.specs.FinMap.{len}
use Rattle.node_maps.specs.Known.{look}
use Rattle.node_maps.specs.Nodes.{KeepsMarks}
use Rattle.node_maps.specs.Room.{HasRoomFor}
use Rattle.partial_tree.specs.EndPads.{end_pads}
use Rattle.partial_tree.specs.PadRows.{AreLayersPut}
use Rattle.partial_tree.proofs.message.end_pads.put_end_pads.Given as goal

-- the pads of the layers so far are put
abbrev pub invariant-layers : goal.invariant-layers
invariant-layers g l =
    let M = g.N.NodeMap in
    record {
      stays : KeepsMarks (M.seen l.initial.map) (M.seen l.map);
      held : M.held l.map ≡ M.held l.initial.map;
      room : HasRoomFor (end_pads l.initial.shape) (M.has_room l.map);
      put : AreLayersPut l.initial.shape l.layer (look (M.seen l.initial.map).known) (look (M.seen l.map).known);
      gained : len (M.seen l.map).known ≡ len (M.seen l.initial.map).known + l.gained;
      few : l.gained ≤ 512 * l.layer;
      pads : l.pads.layer ≤ l.layer;
    }
