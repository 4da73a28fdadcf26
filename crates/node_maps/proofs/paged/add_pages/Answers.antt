use Rattle.std.proofs.Common.{◌-◌, arith}
use Rattle.std.proofs.lemmas.Result.{on_ok_weaker, on_err_weaker}
use Rattle.node_maps.proofs.Rows.{IsItemAt, row-cells, row-keeps, row-has, row-had, row-as_many, row-grows}
use Rattle.node_maps.proofs.paged.add_pages.Goals as goal
use Rattle.node_maps.proofs.paged.add_pages.Goals.{After-index_mut-row}

row : (c : After-index_mut-row) → IsItemAt c.args.rows.now.items c.args.layer c.index_mut-row.result.now
row c = record { low = omega (arith, c.requires.layer, c.args.rows.now.ok.0); is = c.index_mut-row.ensures.value }

pub returns-clause-cells : goal.returns-clause-cells
returns-clause-cells c = row-cells (row (goal.at.returns-clause-cells c).After-index_mut-row) c.reserve.new.self c.reserve.ensures.cells

pub returns-clause-keeps : goal.returns-clause-keeps
returns-clause-keeps c = row-keeps (row (goal.at.returns-clause-keeps c).After-index_mut-row) c.reserve.new.self c.reserve.ensures.keeps

pub returns-clause-there : goal.returns-clause-there
returns-clause-there c =
    on_ok_weaker c.reserve.result (row-has (row (goal.at.returns-clause-there c).After-index_mut-row) c.reserve.new.self c.args.first c.args.end)
    c.reserve.ensures.there

pub returns-clause-few : goal.returns-clause-few
returns-clause-few c =
    on_ok_weaker c.reserve.result (row-grows (row (goal.at.returns-clause-few c).After-index_mut-row) c.reserve.new.self (c.args.end - c.args.first))
    c.reserve.ensures.few

pub returns-clause-refused : goal.returns-clause-refused
returns-clause-refused c =
    on_err_weaker c.reserve.result (row-as_many (row (goal.at.returns-clause-refused c).After-index_mut-row) c.reserve.new.self) c.reserve.ensures.refused

pub returns-clause-no_memory : goal.returns-clause-no_memory
returns-clause-no_memory c = λ there.
    c.reserve.ensures.no_memory (row-had (row (goal.at.returns-clause-no_memory c).After-index_mut-row) c.reserve.new.self c.args.first c.args.end there)
