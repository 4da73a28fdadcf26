use Rattle.std.proofs.Common.{◌+◌, ap, arith}
use Rattle.partial_tree.proofs.EndPads.{IsPadRow, last-is, end-is, end-behind, end-low}
use Rattle.partial_tree.proofs.message.end_pads.pad_row.Goals as goal
use Rattle.partial_tree.proofs.message.end_pads.pad_row.Goals.{After-min-end}

row : (c : After-min-end) → IsPadRow c.args.shape c.args.layer c.blocks-2.result c.height-height.result c.min-end.result
row c = record {
  blocks = c.blocks-2.ensures.value;
  tall = c.height-height.ensures.value;
  few = c.height-height.ensures.bound;
  low = omega (arith, c.requires, c.height-height.ensures.value);
  some = c.blocks-2.ensures.some;
  is = c.min-end.ensures;
}

pub overflow_shr-last : goal.overflow_shr-last
overflow_shr-last c = omega (arith, c.requires, c.height-height.ensures.value, c.height-height.ensures.bound)

pub overflow_sub-result : goal.overflow_sub-result
overflow_sub-result c = end-behind (row (goal.at.overflow_sub-result c).After-min-end)

pub returns-clause-first : goal.returns-clause-first
returns-clause-first c = ap (λ n. n + 1) (last-is (row (goal.at.returns-clause-first c).After-min-end))

pub returns-clause-end : goal.returns-clause-end
returns-clause-end c =
    let pads = row (goal.at.returns-clause-end c).After-min-end in
    omega (arith, end-behind pads, end-is pads)

pub returns-clause-few : goal.returns-clause-few
returns-clause-few c = omega (arith, c.min-end.ensures)

pub returns-clause-low : goal.returns-clause-low
returns-clause-low c =
    let pads = row (goal.at.returns-clause-low c).After-min-end in
    omega (arith, end-behind pads, end-low pads)
