use Rattle.std.proofs.Common.{◌≡◌, ◌+◌, ◌<◌, ◌≤◌, refl, ◌∙◌, ap, subst, arith}
use Rattle.node_maps.specs.Known.{look}
use Rattle.node_maps.proofs.Nodes.{stays-both}
use Rattle.partial_tree.specs.PadRows.{IsRowPut}
use Rattle.partial_tree.proofs.PadRows.{row-begun, row-more}
use Rattle.partial_tree.proofs.message.end_pads.put_row.Goals as goal

pub places-init : goal.places-init
places-init g c = record {
  stays = record { length = refl; marked = refl };
  held = refl;
  keeps = λ l i has. has;
  put = row-begun c.args.layer c.args.first c.args.hash (look (g.N.NodeMap.seen c.args.map.now).known);
  gained = omega arith;
  few = omega arith;
}

pub put_absent-gained-requires : goal.put_absent-gained-requires
put_absent-gained-requires g c = c.places.invariant.keeps c.args.layer (c.args.first + c.places.j)
    (c.requires.room (c.args.first + c.places.j) (omega arith) (omega (arith, c.places-test.true)))

pub places-preserved : goal.places-preserved
places-preserved g c =
    let before = c.places.invariant in
    let put = c.put_absent-gained.ensures in
    record {
      stays = stays-both put.stays before.stays;
      held = put.held ∙ before.held;
      keeps = λ l i has. put.keeps l i (before.keeps l i has);
      put = row-more c.args.layer c.args.first c.places.j c.args.hash (look (g.N.NodeMap.seen c.args.map.now).known) (g.N.NodeMap.seen c.places.map).known
          (g.N.NodeMap.seen c.put_absent-gained.new.map).known before.put put.known;
      gained = omega (arith, put.gained, before.gained);
      few = omega (arith, put.one, before.few);
    }

pub returns-clause-put : goal.returns-clause-put
returns-clause-put g c =
    let all : c.places.j ≡ c.args.count = omega (arith, c.places-test.false, c.places.auto.j-end) in
    subst (λ n. IsRowPut c.args.layer c.args.first n c.args.hash (look (g.N.NodeMap.seen c.args.map.now).known) (look (g.N.NodeMap.seen c.places.map).known))
    all c.places.invariant.put
