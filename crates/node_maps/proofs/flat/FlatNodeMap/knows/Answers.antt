use Rattle.std.proofs.Common.{sym, ap, ◌∙◌}
use Rattle.node_maps.specs.Flat.{cells}
use Rattle.node_maps.proofs.Cells.{look-cells}
use Rattle.node_maps.proofs.Runs.{alike-each, iff-alike}
use Rattle.node_maps.proofs.flat.FlatNodeMap.knows.Goals as goal

pub returns : goal.returns
returns c =
    let map = c.args.self.now in
    iff-alike (alike-each (λ i. c.row_of.ensures i ∙ ap (λ rows. cells rows c.args.layer i) c.deref.ensures.value
    ∙ sym (look-cells map.height map.rows.items map.in_tree c.args.layer i)) c.args.from c.args.count)
    c.are_known.ensures
