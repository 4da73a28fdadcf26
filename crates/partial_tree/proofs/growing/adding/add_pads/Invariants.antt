use Rattle.std.proofs.Common.{Some}
use Rattle.hashtree.specs.Tree.{pad_leaf}
use Rattle.node_maps.specs.Nodes.{KeepsMarks}
use Rattle.partial_tree.specs.Grown.{AddsRow}
use Rattle.partial_tree.proofs.growing.adding.add_pads.Given as goal

abbrev pub invariant-places : goal.invariant-places
invariant-places g l = record {
  stays : KeepsMarks (g.N.NodeMap.seen l.fn.map) (g.N.NodeMap.seen l.map);
  adds : AddsRow (g.N.NodeMap.seen l.fn.map).known 0 l.fn.from l.index (λ _. Some pad_leaf) (g.N.NodeMap.seen l.map).known;
}
