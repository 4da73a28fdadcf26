use Rattle.std.proofs.Common.{◌+◌, ◌≤◌, ◌∙◌, ap, length, map, subst, sym, take, take_all}
use Rattle.std.specs.List.{AllZip}
use Rattle.command_line.specs.CommandLine.{IsLeaf}
use Rattle.command_line.specs.Table.{leaf_of}
use Rattle.command_line.proofs.Building.{more_leaves}
use Rattle.command_line.proofs.definition.leaves.Goals as goal

pub loop-row-preserved : goal.loop-row-preserved
loop-row-preserved c =
    let more = more_leaves leaf_of c.args.rows.now c.loop-row.row-index _ c.loop-row.leaves.items c.in_ok-leaf.field-0
    c.loop-row-test.true c.loop-row.invariant.0 c.in_ok-leaf.ensures in (
      subst (AllZip IsLeaf (map leaf_of (take (c.loop-row.row-index + 1) c.args.rows.now))) (sym c.push_reserved.ensures.items) more,
      c.push_reserved.ensures.len ∙ ap (λ n. n + 1) c.loop-row.invariant.1,
      subst (λ n. length c.args.rows.now ≤ n) (sym c.push_reserved.ensures.capacity) c.loop-row.invariant.2,
    )

pub returns : goal.returns
returns c =
    subst (λ rows. AllZip IsLeaf (map leaf_of rows) c.loop-row.leaves.items)
    (take_all c.loop-row.row-index c.args.rows.now c.loop-row-test.false) c.loop-row.invariant.0
