use Rattle.std.proofs.Common.{◌/◌, arith}
use Rattle.node_maps.proofs.Rows.{IsItemAt, row-cell, row-cells_but, row-keeps, row-as_many, no_row}
use Rattle.node_maps.proofs.paged.write_cell.Goals as goal
use Rattle.node_maps.proofs.paged.write_cell.Goals.{After-index_mut-row}

row : (c : After-index_mut-row) → IsItemAt c.args.rows.now.items c.args.layer c.index_mut-row.result.now
row c = record { low = omega (arith, c.if-layer-len.true, c.args.rows.now.ok.0); is = c.index_mut-row.ensures.value }

pub returns-then-layer-len-clause-here : goal.returns-then-layer-len-clause-here
returns-then-layer-len-clause-here c =
    row-cell (row (goal.at.returns-then-layer-len-clause-here c).After-index_mut-row) c.put.new.self c.args.index c.args.hash c.args.mark c.put.ensures.here

pub returns-then-layer-len-clause-others : goal.returns-then-layer-len-clause-others
returns-then-layer-len-clause-others c =
    row-cells_but (row (goal.at.returns-then-layer-len-clause-others c).After-index_mut-row) c.put.new.self c.args.index c.put.ensures.others

pub returns-then-layer-len-clause-keeps : goal.returns-then-layer-len-clause-keeps
returns-then-layer-len-clause-keeps c =
    row-keeps (row (goal.at.returns-then-layer-len-clause-keeps c).After-index_mut-row) c.put.new.self c.put.ensures.same

pub returns-then-layer-len-clause-same : goal.returns-then-layer-len-clause-same
returns-then-layer-len-clause-same c =
    row-as_many (row (goal.at.returns-then-layer-len-clause-same c).After-index_mut-row) c.put.new.self c.put.ensures.count

pub returns-else-layer-len-clause-here : goal.returns-else-layer-len-clause-here
returns-else-layer-len-clause-here c =
    let rows = c.args.rows.now in
    absurd (no_row rows.items c.args.layer (c.args.index / 512) (omega (arith, rows.ok.0)) c.requires.page)
