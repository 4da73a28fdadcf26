use Rattle.std.proofs.Common.{◌+◌, ◌-◌, [], Some, slice_index_or}
use Rattle.node_maps.specs.Nodes.{KeepsMarks}
use Rattle.node_maps.specs.Room.{HasRoomInRow}
use Rattle.partial_tree.specs.Grown.{AddsRow}
use Rattle.partial_tree.proofs.growing.adding.add_row.Given as goal

abbrev pub invariant-places : goal.invariant-places
invariant-places g l = record {
  stays : KeepsMarks (g.N.NodeMap.seen l.fn.map) (g.N.NodeMap.seen l.map);
  room : HasRoomInRow (g.N.NodeMap.has_room l.map) l.layer l.from 8;
  adds : AddsRow (g.N.NodeMap.seen l.fn.map).known l.layer l.from (l.from + l.j) (λ i. Some (slice_index_or l.hashes (i - l.from) []))
      (g.N.NodeMap.seen l.map).known;
}
