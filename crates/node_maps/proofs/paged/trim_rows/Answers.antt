use Rattle.std.proofs.Common.{◌∙◌, arith}
use Rattle.node_maps.proofs.Rows.{IsItemAt, row-cells, row-fewer, row-trimmed}
use Rattle.node_maps.proofs.paged.trim_rows.Goals as goal

pub rows-preserved : goal.rows-preserved
rows-preserved c =
    let rows = c.rows.rows in
    let new = c.trim.new.self in
    let row : IsItemAt rows.items c.rows.layer c.index_mut-row.result.now = record { low = omega (arith, rows.ok.0); is = c.index_mut-row.ensures.value } in
    record {
      cells = λ l i. row-cells row new c.trim.ensures.cells l i ∙ c.rows.invariant.cells l i;
      len = c.rows.invariant.len;
      few = λ l. omega (arith, row-fewer row new c.trim.ensures.few l, c.rows.invariant.few l);
      trimmed = row-trimmed row new c.trim.ensures.full c.rows.invariant.trimmed;
    }
