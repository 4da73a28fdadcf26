use Rattle.std.proofs.Common.{◌<◌, length, vec_len, arith}
use Rattle.node_maps.proofs.Paging.{same-in_tree, in_rows, held-fewer}
use Rattle.node_maps.proofs.Counted.{trimmed-count}
use Rattle.node_maps.proofs.paged.PagedNodeMap.trim.Goals as goal

pub returns-clause-held : goal.returns-clause-held
returns-clause-held c =
    let map = c.args.self.now in
    let rows = c.trim_rows.new.rows in
    trimmed-count map.height rows.items (same-in_tree map.height map.rows.items rows.items c.trim_rows.ensures.cells map.in_tree) (vec_len rows)
    (λ l row e. (let low : l < length rows.items = in_rows rows.items l row e in omega (arith, rows.ok.0))) c.trim_rows.ensures.trimmed

pub returns-clause-few : goal.returns-clause-few
returns-clause-few c = held-fewer c.args.self.now.rows.items c.trim_rows.new.rows.items c.trim_rows.ensures.few
