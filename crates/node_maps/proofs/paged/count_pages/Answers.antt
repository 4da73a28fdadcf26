use Rattle.std.proofs.Common.{arith, ◌∙◌}
use Rattle.node_maps.proofs.Paging.{held-all}
use Rattle.node_maps.proofs.Rows.{row_pages-read, held_below-next}
use Rattle.node_maps.proofs.paged.count_pages.Goals as goal

pub returns : goal.returns
returns c = c.rows.invariant.count ∙ held-all c.args.rows.now c.rows.layer (omega arith) (omega arith)

pub rows-preserved : goal.rows-preserved
rows-preserved c =
    let here = row_pages-read c.args.rows.now c.rows.layer c.index-rows-layer.result c.rows-test.true c.index-rows-layer.is in
    record {
      count = omega (arith, here, held_below-next c.args.rows.now c.rows.layer, c.len-count.ensures.value, c.rows.invariant.count);
      bound = omega (arith, c.len-count.ensures.small, c.rows.invariant.bound);
    }
