use Rattle.std.proofs.Common.{◌≡◌, ◌+◌, ◌-◌, ◌<◌, ◌≤◌, inl, inr, refl, sym, ◌∙◌, ap, subst, arith, eq-or-lt_of_le}
use Rattle.std.proofs.lemmas.Bool.{false≢true}
use Rattle.node_maps.specs.Known.{look}
use Rattle.node_maps.specs.Places.{tree_height, IsKnown}
use Rattle.partial_tree.specs.EndPads.{end_pads}
use Rattle.partial_tree.proofs.EndPads.{pad-read}
use Rattle.partial_tree.proofs.PadRows.{pad-in_row, row-unknown}
use Rattle.partial_tree.proofs.message.end_pads.knows_end_pads.Goals as goal

pub layers-init : goal.layers-init
layers-init g c = λ k i v is low. absurd (omega (arith, low))

pub returns-then-not-knows-clause-new : goal.returns-then-not-knows-clause-new
returns-then-not-knows-clause-new g c =
    row-unknown c.args.shape (look (g.N.NodeMap.seen c.args.map.now).known) c.layers.layer c.pad_row-first.result.0 c.pad_row-first.result.1
    (omega (arith, c.layers-test.true, c.height-layer-end.ensures.value)) c.pad_row-first.ensures.first c.pad_row-first.ensures.end
    (λ known. false≢true (sym c.if-not-knows.true ∙ c.knows.ensures.1 known))

pub layers-preserved : goal.layers-preserved
layers-preserved g c = λ k i v is less. elim (eq-or-lt_of_le (let to : k ≤ c.layers.layer = omega (arith, less) in to)) [
  | inr low ↦ c.layers.invariant k i v is low
  | inl same ↦
      let K = look (g.N.NodeMap.seen c.args.map.now).known in
      let there = pad-in_row c.args.shape c.layers.layer i c.pad_row-first.result.0 c.pad_row-first.result.1 v
      (ap (λ n. end_pads c.args.shape n i) (sym same) ∙ is) c.pad_row-first.ensures.first c.pad_row-first.ensures.end in
      let at : c.pad_row-first.result.0 + (i - c.pad_row-first.result.0) ≡ i = omega (arith, there.0) in
      subst (λ n. IsKnown K n i) (sym same) (subst (λ n. IsKnown K c.layers.layer n) at (c.knows.ensures.0 c.if-not-knows.false
      (i - c.pad_row-first.result.0) (omega (arith, there.0, there.1))))
]

pub returns-clause-known : goal.returns-clause-known
returns-clause-known g c = λ k i v is. c.layers.invariant k i v is (
    let low = pad-read c.args.shape k i v is in
    omega (arith, low.0, c.layers-test.false, c.height-layer-end.ensures.value)
    )
