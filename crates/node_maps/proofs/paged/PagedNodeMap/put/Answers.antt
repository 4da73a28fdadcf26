use Rattle.std.proofs.Common.{ap₂, false}
use Rattle.node_maps.specs.Cell.{with_hash}
use Rattle.node_maps.specs.Nodes.{nodes}
use Rattle.node_maps.specs.Paged.{cell_at}
use Rattle.node_maps.proofs.Paging.{hash-with_hash, mark-with_hash, put-known, put-marked-same, held-same}
use Rattle.node_maps.proofs.paged.PagedNodeMap.put.Goals as goal

pub returns-clause-seen : goal.returns-clause-seen
returns-clause-seen c =
    let map = c.args.self.now in
    let old = cell_at map.rows.items c.args.layer c.args.index in
    ap₂ (nodes map.shape)
    (put-known map.height map.rows.items c.write_cell.new.rows.items c.args.layer c.args.index (with_hash old c.args.hash false) c.write_cell.ensures.here
    c.write_cell.ensures.others c.args.hash c.requires.place (hash-with_hash old c.args.hash false))
    (put-marked-same map.height map.rows.items c.write_cell.new.rows.items c.args.layer c.args.index (with_hash old c.args.hash false) c.write_cell.ensures.here
    c.write_cell.ensures.others (mark-with_hash old c.args.hash false))

pub returns-clause-held : goal.returns-clause-held
returns-clause-held c = held-same c.args.self.now.rows.items c.write_cell.new.rows.items c.write_cell.ensures.same
