use Rattle.std.proofs.Common.{◌≡◌, ◌+◌, ◌≤◌}
use Rattle.std.specs.FinMap.{len}
use Rattle.node_maps.specs.Known.{look}
use Rattle.node_maps.specs.Nodes.{KeepsMarks}
use Rattle.node_maps.specs.Room.{KeepsRoom}
use Rattle.partial_tree.specs.PadRows.{IsRowPut}
use Rattle.partial_tree.proofs.message.end_pads.put_row.Given as goal

-- the first j places are put
abbrev pub invariant-places : goal.invariant-places
invariant-places g l =
    let M = g.N.NodeMap in
    record {
      stays : KeepsMarks (M.seen l.initial.map) (M.seen l.map);
      held : M.held l.map ≡ M.held l.initial.map;
      keeps : KeepsRoom (M.has_room l.initial.map) (M.has_room l.map);
      put : IsRowPut l.initial.layer l.initial.first l.j l.initial.hash (look (M.seen l.initial.map).known) (look (M.seen l.map).known);
      gained : len (M.seen l.map).known ≡ len (M.seen l.initial.map).known + l.gained;
      few : l.gained ≤ l.j;
    }
