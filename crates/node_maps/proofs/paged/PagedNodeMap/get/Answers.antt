use Rattle.std.proofs.Common.{sym, ap, ◌∙◌}
use Rattle.node_maps.specs.Cell.{hash_of}
use Rattle.node_maps.specs.Paged.{cell_at}
use Rattle.node_maps.proofs.Paging.{look-hashes}
use Rattle.node_maps.proofs.paged.PagedNodeMap.get.Goals as goal

pub returns : goal.returns
returns c =
    let map = c.args.self.now in
    c.hash.ensures ∙ ap hash_of (c.read_cell.ensures ∙ ap (λ rows. cell_at rows c.args.layer c.args.index) c.deref.ensures.value)
    ∙ sym (look-hashes map.height map.rows.items map.in_tree c.args.layer c.args.index)
