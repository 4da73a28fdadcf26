use Rattle.std.proofs.Common.{◌+◌, ◌-◌, ◌^◌, ◌≤◌, subst, sym, arith, vec_len}
use Rattle.node_maps.specs.Flat.{HasTreeCells, row_cells}
use Rattle.node_maps.proofs.Cells.{same_lengths-in_tree, lengthened-in_tree, lengthened-marks}
use Rattle.node_maps.proofs.flat.FlatNodeMap.reserve.Goals as goal
use Rattle.node_maps.proofs.flat.FlatNodeMap.reserve.Goals.{After-add_rows}

-- once there are rows and marks enough
module _ (c : After-add_rows) where
  in_tree : HasTreeCells c.args.self.now.height c.add_rows.new.rows.items
  in_tree = same_lengths-in_tree c.args.self.now.height c.args.self.now.rows.items c.add_rows.new.rows.items c.args.self.now.in_tree c.add_rows.ensures.same

  enough : row_cells c.add_rows.new.rows.items 0 ≤ vec_len c.add_marks.new.marks
  enough = omega (arith, c.args.self.now.leaves_have_marks, c.add_rows.ensures.same 0, c.add_marks.ensures.longer)

pub invariant_of-self-in-Break-branch-2 : goal.invariant_of-self-in-Break-branch-2
invariant_of-self-in-Break-branch-2 c =
    let r = (goal.at.invariant_of-self-in-Break-branch-2 c).After-add_rows in
    record { is_height = c.args.self.now.is_height; low = c.args.self.now.low; in_tree = in_tree r; leaves_have_marks = enough r }

pub invariant_of-self-2 : goal.invariant_of-self-2
invariant_of-self-2 c =
    let r = (goal.at.invariant_of-self-2 c).After-add_rows in
    let flat = c.args.self.now in
    let end = c.args.from + c.args.count in
    record {
      is_height = flat.is_height;
      low = flat.low;
      in_tree = lengthened-in_tree flat.height c.args.layer end c.add_rows.new.rows.items c.lengthen.new.rows.items (in_tree r) c.lengthen.ensures.others
          c.lengthen.ensures.most (subst (λ h. c.args.layer ≤ h) (sym flat.is_height) c.requires.layer)
          (subst (λ h. end ≤ 2 ^ (h - c.args.layer)) (sym flat.is_height) c.requires.range);
      leaves_have_marks = lengthened-marks c.args.layer end (vec_len c.add_marks.new.marks) c.add_rows.new.rows.items c.lengthen.new.rows.items (enough r)
          c.lengthen.ensures.others c.lengthen.ensures.most c.in_ok-add_marks.ensures.reaches;
    }
