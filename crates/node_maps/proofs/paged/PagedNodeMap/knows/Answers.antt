use Rattle.std.proofs.Common.{sym, ap, ◌∙◌}
use Rattle.node_maps.specs.Paged.{hashes}
use Rattle.node_maps.proofs.Paging.{look-hashes}
use Rattle.node_maps.proofs.Runs.{alike-each, iff-alike}
use Rattle.node_maps.proofs.paged.PagedNodeMap.knows.Goals as goal

pub returns : goal.returns
returns c =
    let map = c.args.self.now in
    iff-alike (alike-each (λ i. ap (λ rows. hashes rows c.args.layer i) c.deref.ensures.value
    ∙ sym (look-hashes map.height map.rows.items map.in_tree c.args.layer i)) c.args.from c.args.count)
    c.are_known.ensures
