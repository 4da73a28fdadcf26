use Rattle.std.proofs.Common.{◌≤◌, length, refl, ap, arith}
use Rattle.node_maps.proofs.Rows.{IsItemAt}
use Rattle.node_maps.proofs.FlatRows.{hash_at, flat-cells, flat-others, longer-hash}
use Rattle.node_maps.proofs.flat.lengthen.Goals as goal
use Rattle.node_maps.proofs.flat.lengthen.Goals.{After-index_mut-row}

row : (c : After-index_mut-row) → IsItemAt c.args.rows.now.items c.args.layer c.index_mut-row.result.now
row c = record { low = omega (arith, c.requires, c.args.rows.now.ok.0); is = c.index_mut-row.ensures.value }

pub returns-in_ok-resize-clause-cells : goal.returns-in_ok-resize-clause-cells
returns-in_ok-resize-clause-cells c =
    let old = c.index_mut-row.result.now in
    let all : length old.items ≤ c.args.end = omega (arith, old.ok.0, c.if-len-end.true, c.len.ensures) in
    flat-cells (row (goal.at.returns-in_ok-resize-clause-cells c).After-index_mut-row) c.resize.new.self
    (longer-hash old.items c.resize.new.self.items c.args.end _ all c.in_ok-resize.ensures.items)

pub returns-in_ok-resize-clause-others : goal.returns-in_ok-resize-clause-others
returns-in_ok-resize-clause-others c = flat-others (row (goal.at.returns-in_ok-resize-clause-others c).After-index_mut-row) c.resize.new.self

pub returns-in_err-resize-clause-cells : goal.returns-in_err-resize-clause-cells
returns-in_err-resize-clause-cells c =
    flat-cells (row (goal.at.returns-in_err-resize-clause-cells c).After-index_mut-row) c.resize.new.self
    (λ i. ap (λ r. hash_at r i) c.in_err-resize.ensures.items)

pub returns-in_err-resize-clause-others : goal.returns-in_err-resize-clause-others
returns-in_err-resize-clause-others c = flat-others (row (goal.at.returns-in_err-resize-clause-others c).After-index_mut-row) c.resize.new.self

pub returns-else-len-end-clause-cells : goal.returns-else-len-end-clause-cells
returns-else-len-end-clause-cells c =
    flat-cells (row (goal.at.returns-else-len-end-clause-cells c).After-index_mut-row) c.index_mut-row.result.now (λ i. refl)

pub returns-else-len-end-clause-others : goal.returns-else-len-end-clause-others
returns-else-len-end-clause-others c =
    flat-others (row (goal.at.returns-else-len-end-clause-others c).After-index_mut-row) c.index_mut-row.result.now
