use Rattle.std.proofs.Common.{◌≡◌, ◌+◌, ◌*◌, ◌<◌, ◌≤◌, refl, ◌∙◌, ap, subst, arith}
use Rattle.node_maps.specs.Known.{look}
use Rattle.node_maps.specs.Places.{tree_height}
use Rattle.node_maps.proofs.Nodes.{stays-both}
use Rattle.partial_tree.specs.PadRows.{IsRowPut}
use Rattle.partial_tree.proofs.PadRows.{row-room, layers-begun, layers-more, layers-done}
use Rattle.partial_tree.proofs.message.end_pads.put_end_pads.Goals as goal

pub layers-init : goal.layers-init
layers-init g c = record {
  stays = record { length = refl; marked = refl };
  held = refl;
  room = c.requires.room;
  put = layers-begun c.args.shape (look (g.N.NodeMap.seen c.args.map.now).known);
  gained = omega arith;
  few = omega arith;
  pads = omega (arith, c.new-pads.ensures);
}

pub at-requires-clause-upward : goal.at-requires-clause-upward
at-requires-clause-upward g c = c.layers.invariant.pads

pub put_row-gained-requires-clause-room : goal.put_row-gained-requires-clause-room
put_row-gained-requires-clause-room g c =
    row-room c.args.shape (g.N.NodeMap.has_room c.layers.map) c.layers.layer c.pad_row-first.result.0 c.pad_row-first.result.1
    (omega (arith, c.layers-test.true, c.height-layer-end.ensures.value))
    c.pad_row-first.ensures.first c.pad_row-first.ensures.end c.layers.invariant.room

pub overflow_add-gained : goal.overflow_add-gained
overflow_add-gained g c = omega (
  arith,
  c.layers.invariant.few,
  c.put_row-gained.ensures.few,
  c.pad_row-first.ensures.few,
  c.layers-test.true,
  c.height-layer-end.ensures.bound,
)

pub layers-preserved : goal.layers-preserved
layers-preserved g c =
    let before = c.layers.invariant in
    let put = c.put_row-gained.ensures in
    record {
      stays = stays-both put.stays before.stays;
      held = put.held ∙ before.held;
      room = λ l i is. put.keeps l i (before.room l i is);
      put = layers-more c.args.shape c.layers.layer c.pad_row-first.result.0 c.pad_row-first.result.1 (look (g.N.NodeMap.seen c.args.map.now).known)
          (look (g.N.NodeMap.seen c.layers.map).known) (look (g.N.NodeMap.seen c.put_row-gained.new.map).known)
          (omega (arith, c.layers-test.true, c.height-layer-end.ensures.value)) c.pad_row-first.ensures.first
          c.pad_row-first.ensures.end before.put
          (subst (λ h. IsRowPut c.layers.layer c.pad_row-first.result.0 c.pad_row-first.result.1 h (look (g.N.NodeMap.seen c.layers.map).known)
          (look (g.N.NodeMap.seen c.put_row-gained.new.map).known)) c.at.ensures.value put.put);
      gained = omega (arith, put.gained, before.gained);
      few = omega (arith, before.few, put.few, c.pad_row-first.ensures.few);
      pads = omega (arith, c.at.ensures.layer);
    }

pub returns-clause-put : goal.returns-clause-put
returns-clause-put g c =
    layers-done c.args.shape c.layers.layer (look (g.N.NodeMap.seen c.args.map.now).known) (look (g.N.NodeMap.seen c.layers.map).known)
    (omega (arith, c.layers-test.false, c.height-layer-end.ensures.value))
    c.layers.invariant.put

pub returns-clause-few : goal.returns-clause-few
returns-clause-few g c = omega (arith, c.layers.invariant.few, c.layers.auto.layer-end, c.height-layer-end.ensures.bound)
