use Rattle.std.proofs.Common.{Some}
use Rattle.std.specs.Vec.{with_item}
use Rattle.node_maps.proofs.FlatRows.{cell-row, flat-cells_but, hash-other}
use Rattle.node_maps.proofs.flat.put_cell.Goals as goal

pub returns-clause-others : goal.returns-clause-others
returns-clause-others c =
    let rows = c.args.rows.now in
    let row = c.index_mut-row.result.now in
    flat-cells_but (record { low = cell-row rows.items c.args.layer c.args.index c.requires; is = c.index_mut-row.ensures.value })
    (with_item row c.args.index (Some c.args.hash)) c.args.index (hash-other row.items c.args.index (Some c.args.hash))
