use Rattle.std.proofs.Common.{sym, ◌∙◌}
use Rattle.node_maps.proofs.Rows.{row_cell-read}
use Rattle.node_maps.proofs.paged.read_cell.Goals as goal

pub returns-then-layer-rows : goal.returns-then-layer-rows
returns-then-layer-rows c =
    c.cell.ensures
    ∙ sym (row_cell-read c.args.rows.now c.args.layer c.index-rows-layer.result c.if-layer-rows.true c.index-rows-layer.is c.args.index)
