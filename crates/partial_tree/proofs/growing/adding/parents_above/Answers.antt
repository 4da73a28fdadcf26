use Rattle.std.proofs.Common.{◌≡◌, ◌+◌, ◌*◌, ◌∙◌, ap, arith}
use Rattle.node_maps.specs.Known.{look}
use Rattle.partial_tree.proofs.AddedRows.{parents-of_rows}
use Rattle.partial_tree.proofs.growing.adding.parents_above.Goals as goal

pub known_row-right-requires-clause-known : goal.known_row-right-requires-clause-known
known_row-right-requires-clause-known g c = λ j low.
    let at : 2 * c.args.from + 8 + j ≡ 2 * c.args.from + (8 + j) = omega arith in
    let there = c.requires.known (8 + j) (omega (arith, low)) in
    (there.0, ap (look (g.N.NodeMap.seen c.args.map.now).known c.args.layer) at ∙ there.1)

pub returns : goal.returns
returns g c =
    parents-of_rows (g.N.NodeMap.seen c.args.map.now).known c.args.layer c.args.from c.known_row-left.result c.known_row-right.result _
    c.known_row-left.ensures c.known_row-right.ensures c.parents_of_rows.ensures.left c.parents_of_rows.ensures.right
