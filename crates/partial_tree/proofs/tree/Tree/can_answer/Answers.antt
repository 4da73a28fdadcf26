use Rattle.std.proofs.Common.{◌≡◌, ◌+◌, ◌<◌, sym, ap, ◌∙◌, subst, arith}
use Rattle.node_maps.specs.Places.{tree_height, IsKnown}
use Rattle.node_maps.specs.Known.{look}
use Rattle.node_maps.proofs.Nodes.{known-of}
use Rattle.partial_tree.specs.Claims.{GoodRange}
use Rattle.partial_tree.specs.Kept.{KeptTree}
use Rattle.partial_tree.proofs.tree.Tree.can_answer.Goals as goal

pub returns-in-Ok : goal.returns-in-Ok
returns-in-Ok g c =
    let ask = c.args.ask.now in
    let height : c.height.result ≡ tree_height c.args.self.now.length = c.height.ensures.value
    ∙ ap (λ (v : KeptTree). tree_height v.length) c.self.view_is in
    let known : (g.N.NodeMap.seen c.map.result.now).known ≡ c.args.self.now.state.known = known-of c.map.ensures
    ∙ ap (λ (v : KeptTree). v.state.known) c.self.view_is in (
      λ e. record {
        range = subst (λ h. GoodRange h ask) height c.in-Ok.ensures.good.0;
        base_known = λ j in'.
            let low : j < c.from-in-Ok.result = omega (arith, c.from-in-Ok.ensures) in
            subst (λ i. IsKnown (look c.args.self.now.state.known) ask.base (i + j)) c.from.ensures
            (subst (λ m. IsKnown (look m) ask.base (c.from.result + j)) known (c.knows.ensures.0 e j low));
      },
      λ can. c.knows.ensures.1 (λ j in'.
          let low : j < ask.length = omega (arith, c.from-in-Ok.ensures) in
          subst (λ i. IsKnown (look (g.N.NodeMap.seen c.map.result.now).known) ask.base (i + j)) (sym c.from.ensures)
          (subst (λ m. IsKnown (look m) ask.base (ask.index + j)) (sym known) (can.base_known j low))),
    )
