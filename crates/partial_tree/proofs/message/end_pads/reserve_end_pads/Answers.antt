use Rattle.std.proofs.Common.{◌≡◌, ◌+◌, ◌-◌, ◌^◌, ◌<◌, ◌≤◌, inl, inr, refl, sym, ◌∙◌, ap, subst, arith, eq-or-lt_of_le}
use Rattle.node_maps.specs.Places.{tree_height}
use Rattle.node_maps.proofs.Nodes.{length-of}
use Rattle.partial_tree.specs.EndPads.{end_pads, pads_end}
use Rattle.partial_tree.proofs.EndPads.{pad-read}
use Rattle.partial_tree.proofs.PadRows.{pad-in_row}
use Rattle.partial_tree.proofs.message.end_pads.reserve_end_pads.Goals as goal

pub layers-init : goal.layers-init
layers-init g c = record { seen = refl; keeps = λ l i has. has; room = λ k i is low. absurd (omega (arith, low)) }

pub reserve-requires-clause-layer : goal.reserve-requires-clause-layer
reserve-requires-clause-layer g c =
    let same : tree_height (g.N.NodeMap.seen c.layers.map).length ≡ tree_height c.args.shape =
    ap tree_height (length-of c.layers.invariant.seen ∙ c.requires) in
    omega (arith, same, c.layers-test.true, c.height-layer-end.ensures.value)

pub reserve-requires-clause-range : goal.reserve-requires-clause-range
reserve-requires-clause-range g c =
    let same : tree_height (g.N.NodeMap.seen c.layers.map).length ≡ tree_height c.args.shape =
    ap tree_height (length-of c.layers.invariant.seen ∙ c.requires) in
    subst (λ h. c.pad_row-first.result.0 + c.pad_row-first.result.1 ≤ 2 ^ (h - c.layers.layer)) (sym same) (omega (arith, c.pad_row-first.ensures.end))

pub layers-preserved : goal.layers-preserved
layers-preserved g c =
    let before = c.layers.invariant in
    let now = c.in_ok-reserve.ensures in
    record {
      seen = now.seen ∙ before.seen;
      keeps = λ l i has. now.keeps l i (before.keeps l i has);
      room = λ k i is less. elim (eq-or-lt_of_le (let to : k ≤ c.layers.layer = omega (arith, less) in to)) [
        | inr low ↦ now.keeps k i (before.room k i is low)
        | inl same ↦
            let there = pad-in_row c.args.shape c.layers.layer i c.pad_row-first.result.0 c.pad_row-first.result.1 is.0
            (ap (λ n. end_pads c.args.shape n i) (sym same) ∙ is.1) c.pad_row-first.ensures.first c.pad_row-first.ensures.end in
            subst (λ n. g.N.NodeMap.has_room c.reserve.new.self n i) (sym same) (now.room i there.0 there.1)
      ];
    }

pub returns-clause-room : goal.returns-clause-room
returns-clause-room g c = λ k i is. c.layers.invariant.room k i is (
    let low = pad-read c.args.shape k i is.0 is.1 in
    omega (arith, low.0, c.layers-test.false, c.height-layer-end.ensures.value)
    )
