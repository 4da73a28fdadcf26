use Rattle.std.proofs.Common.{◌≤◌, ◌<◌, length, arith, sym, ap, ◌∙◌, vec_len}
use Rattle.node_maps.specs.Known.{tabulate, within}
use Rattle.node_maps.specs.Nodes.{nodes}
use Rattle.node_maps.specs.Flat.{cells, row_cells}
use Rattle.node_maps.proofs.Cells.{cell_there, look-cells, marked-set}
use Rattle.node_maps.proofs.flat.FlatNodeMap.mark.Goals as goal
use Rattle.node_maps.proofs.flat.FlatNodeMap.mark.Goals.{Start}

-- a leaf that is known has a mark
has_mark : (c : Start) → c.args.index < length c.args.self.now.marks.items
has_mark c =
    let flat = c.args.self.now in
    let there : c.args.index < row_cells flat.rows.items 0 =
    cell_there flat.rows.items 0 c.args.index c.requires.0 (sym (look-cells flat.height flat.rows.items flat.in_tree 0 c.args.index) ∙ c.requires.1) in
    let enough : row_cells flat.rows.items 0 ≤ vec_len flat.marks = flat.leaves_have_marks in
    omega (arith, there, enough, flat.marks.ok.0)

pub index_mut-requires : goal.index_mut-requires
index_mut-requires c = omega (arith, has_mark (goal.at.index_mut-requires c).Start, c.args.self.now.marks.ok.0)

pub returns-clause-seen : goal.returns-clause-seen
returns-clause-seen c =
    let flat = c.args.self.now in
    ap (nodes flat.shape (tabulate flat.height (within flat.height (cells flat.rows.items))))
    (marked-set flat.marks.items c.args.index (has_mark (goal.at.returns-clause-seen c).Start))
