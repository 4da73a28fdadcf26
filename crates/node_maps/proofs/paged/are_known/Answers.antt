use Rattle.std.proofs.lemmas.Bool.{eq-eqb, eqb-true}
use Rattle.node_maps.specs.Paged.{hashes}
use Rattle.node_maps.proofs.Paging.{row-hashes, no_row-hashes}
use Rattle.node_maps.proofs.Runs.{alike-each, iff-alike, none-known, some-known}
use Rattle.node_maps.proofs.paged.are_known.Goals as goal

pub returns-then-layer-rows : goal.returns-then-layer-rows
returns-then-layer-rows c =
    iff-alike (alike-each (row-hashes c.args.rows.now c.args.layer c.index-rows-layer.result c.if-layer-rows.true c.index-rows-layer.is) c.args.from
    c.args.count) c.knows.ensures

pub returns-else-layer-rows : goal.returns-else-layer-rows
returns-else-layer-rows c =
    let f = hashes c.args.rows.now c.args.layer in (
      λ e. none-known f c.args.from c.args.count (eqb-true c.args.count 0 e),
      λ known. eq-eqb c.args.count 0 (some-known f c.args.from c.args.count (no_row-hashes c.args.rows.now c.args.layer c.if-layer-rows.false) known),
    )
