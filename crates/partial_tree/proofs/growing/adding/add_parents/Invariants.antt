use Rattle.std.proofs.Common.{◌+◌, ◌*◌}
use Rattle.node_maps.specs.Nodes.{KeepsMarks}
use Rattle.partial_tree.specs.Grown.{AddsRow, parents_of}
use Rattle.partial_tree.proofs.growing.adding.add_parents.Given as goal

abbrev pub invariant-rows : goal.invariant-rows
invariant-rows g l = record {
  stays : KeepsMarks (g.N.NodeMap.seen l.fn.map) (g.N.NodeMap.seen l.map);
  adds : AddsRow (g.N.NodeMap.seen l.fn.map).known (l.fn.layer + 1) 0 (8 * l.row) (parents_of (g.N.NodeMap.seen l.fn.map).known l.fn.layer)
      (g.N.NodeMap.seen l.map).known;
}

abbrev pub invariant-rest : goal.invariant-rest
invariant-rest g l = record {
  stays : KeepsMarks (g.N.NodeMap.seen l.fn.map) (g.N.NodeMap.seen l.map);
  adds : AddsRow (g.N.NodeMap.seen l.fn.map).known (l.fn.layer + 1) 0 l.index (parents_of (g.N.NodeMap.seen l.fn.map).known l.fn.layer)
      (g.N.NodeMap.seen l.map).known;
}
