use Rattle.std.proofs.Common.{sym, ap, ◌∙◌}
use Rattle.node_maps.specs.Cell.{mark_of}
use Rattle.node_maps.specs.Paged.{cell_at}
use Rattle.node_maps.proofs.Paging.{contains-marked_cells}
use Rattle.node_maps.proofs.paged.PagedNodeMap.is_marked.Goals as goal

pub returns : goal.returns
returns c =
    let map = c.args.self.now in
    c.is_marked.ensures ∙ ap mark_of (c.read_cell.ensures ∙ ap (λ rows. cell_at rows 0 c.args.index) c.deref.ensures.value)
    ∙ sym (contains-marked_cells map.height map.rows.items map.in_tree c.args.index)
