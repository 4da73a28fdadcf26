use Rattle.std.proofs.Common.{◌≡◌, ◌+◌, ◌*◌, ◌<◌, Some, sym, ap, ◌∙◌, arith}
use Rattle.node_maps.proofs.Nodes.{known-of, stays-added, stays-both}
use Rattle.partial_tree.specs.Grown.{parents_of}
use Rattle.partial_tree.proofs.AddedRows.{adds-one, child-known, children-known_row, is-some, taken-out, parent-of_two}
use Rattle.partial_tree.proofs.growing.adding.add_parents.Goals as goal

pub parents_above-above-requires-clause-known : goal.parents_above-above-requires-clause-known
parents_above-above-requires-clause-known g c =
    children-known_row (g.N.NodeMap.seen c.args.map.now).known (g.N.NodeMap.seen c.rows.map).known c.args.layer (8 * c.rows.row) (2 * (8 * c.rows.row))
    (2 * c.args.count) _ c.requires.known c.rows.invariant.adds
    (omega (arith, c.rows-test.true))

pub unwrap-left-requires : goal.unwrap-left-requires
unwrap-left-requires g c =
    let low : 2 * c.rest.index < 2 * c.args.count = omega (arith, c.rest-test.true) in
    let child = child-known (g.N.NodeMap.seen c.args.map.now).known (g.N.NodeMap.seen c.rest.map).known c.args.layer c.rest.index (2 * c.args.count)
    (2 * c.rest.index) _ c.requires.known c.rest.invariant.adds low in
    is-some c.get.result child.0 (c.get.ensures ∙ child.1)

pub unwrap-right-requires : goal.unwrap-right-requires
unwrap-right-requires g c =
    let low : 2 * c.rest.index + 1 < 2 * c.args.count = omega (arith, c.rest-test.true) in
    let child = child-known (g.N.NodeMap.seen c.args.map.now).known (g.N.NodeMap.seen c.rest.map).known c.args.layer c.rest.index (2 * c.args.count)
    (2 * c.rest.index + 1) _ c.requires.known c.rest.invariant.adds low in
    is-some c.get-in-rest.result child.0 (c.get-in-rest.ensures ∙ child.1)

pub rest-preserved : goal.rest-preserved
rest-preserved g c =
    let before = c.rest.invariant in
    let old = (g.N.NodeMap.seen c.args.map.now).known in
    let low : 2 * c.rest.index < 2 * c.args.count = omega (arith, c.rest-test.true) in
    let next : 2 * c.rest.index + 1 < 2 * c.args.count = omega (arith, c.rest-test.true) in
    let left = child-known old (g.N.NodeMap.seen c.rest.map).known c.args.layer c.rest.index (2 * c.args.count) (2 * c.rest.index) _ c.requires.known
    before.adds low in
    let right = child-known old (g.N.NodeMap.seen c.rest.map).known c.args.layer c.rest.index (2 * c.args.count) (2 * c.rest.index + 1) _ c.requires.known
    before.adds next in
    let one : left.0 ≡ c.unwrap-left.result = taken-out c.get.result c.unwrap-left.result left.0 (c.get.ensures ∙ left.1) c.unwrap-left.ensures in
    let two : right.0 ≡ c.unwrap-right.result = taken-out c.get-in-rest.result c.unwrap-right.result right.0 (c.get-in-rest.ensures
    ∙ right.1) c.unwrap-right.ensures in
    record {
      stays = stays-both (stays-added c.in_ok-add.ensures.added) before.stays;
      adds = adds-one old (c.args.layer + 1) 0 (parents_of old c.args.layer) (g.N.NodeMap.seen c.rest.map).known (g.N.NodeMap.seen c.add.new.map).known
          c.rest.index c.parent.result
          (omega arith) before.adds
          (parent-of_two old c.args.layer c.rest.index c.unwrap-left.result c.unwrap-right.result (left.2 ∙ ap Some one) (right.2 ∙ ap Some two)
          ∙ ap Some (sym c.parent.ensures))
          (known-of c.in_ok-add.ensures.added) c.in_ok-add.ensures.one;
    }
