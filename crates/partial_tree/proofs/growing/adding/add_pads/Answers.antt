use Rattle.std.proofs.Common.{◌≤◌, Some, sym, ap, ◌∙◌, arith}
use Rattle.hashtree.specs.Tree.{pad_leaf}
use Rattle.hashtree.proofs.Zeros.{zero_hash-zero}
use Rattle.node_maps.proofs.Nodes.{known-of, stays-added, stays-both}
use Rattle.partial_tree.proofs.AddedRows.{adds-one}
use Rattle.partial_tree.proofs.growing.adding.add_pads.Goals as goal

pub places-preserved : goal.places-preserved
places-preserved g c =
    let before = c.places.invariant in
    let low : c.args.from ≤ c.places.index = omega (arith, c.places.auto.index) in
    record {
      stays = stays-both (stays-added c.in_ok-add.ensures.added) before.stays;
      adds = adds-one (g.N.NodeMap.seen c.args.map.now).known 0 c.args.from (λ _. Some pad_leaf) (g.N.NodeMap.seen c.places.map).known
          (g.N.NodeMap.seen c.add.new.map).known c.places.index c.zero-pad.result
          low before.adds (ap Some (sym (c.zero-pad.ensures ∙ zero_hash-zero))) (known-of c.in_ok-add.ensures.added) c.in_ok-add.ensures.one;
    }
