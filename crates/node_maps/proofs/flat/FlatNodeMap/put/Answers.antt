use Rattle.std.proofs.Common.{ap, arith}
use Rattle.node_maps.specs.Nodes.{nodes}
use Rattle.node_maps.specs.Flat.{cells, marked_leaves}
use Rattle.node_maps.proofs.Known.{tabulate-put}
use Rattle.node_maps.proofs.Cells.{same_lengths-in_tree}
use Rattle.node_maps.proofs.flat.FlatNodeMap.put.Goals as goal

pub invariant_of-self : goal.invariant_of-self
invariant_of-self c = record {
  is_height = c.args.self.now.is_height;
  low = c.args.self.now.low;
  in_tree = same_lengths-in_tree c.args.self.now.height c.args.self.now.rows.items c.put_cell.new.rows.items c.args.self.now.in_tree c.put_cell.ensures.same;
  leaves_have_marks = omega (arith, c.put_cell.ensures.same 0, c.args.self.now.leaves_have_marks);
}

pub returns-clause-seen : goal.returns-clause-seen
returns-clause-seen c =
    let map = c.args.self.now in
    ap (λ known. nodes map.shape known (marked_leaves map.marks.items))
    (tabulate-put map.height (cells map.rows.items) (cells c.put_cell.new.rows.items) c.args.layer c.args.index c.args.hash
    (map.in_tree.place c.args.layer c.args.index c.requires) c.put_cell.ensures.here c.put_cell.ensures.others)
