use Rattle.std.proofs.Common.{sym, ap, ◌∙◌}
use Rattle.node_maps.specs.Flat.{cells}
use Rattle.node_maps.proofs.Cells.{look-cells}
use Rattle.node_maps.proofs.flat.FlatNodeMap.get.Goals as goal

pub returns : goal.returns
returns c =
    let flat = c.args.self.now in
    c.read_cell.ensures ∙ ap (λ rows. cells rows c.args.layer c.args.index) c.deref.ensures.value
    ∙ sym (look-cells flat.height flat.rows.items flat.in_tree c.args.layer c.args.index)
