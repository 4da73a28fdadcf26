use Rattle.std.proofs.Common.{◌≡◌, sym, ap, ◌∙◌, subst}
use Rattle.node_maps.specs.Known.{look}
use Rattle.node_maps.specs.Runs.{AreKnown}
use Rattle.node_maps.proofs.Nodes.{known-of}
use Rattle.partial_tree.specs.Kept.{KeptTree}
use Rattle.partial_tree.proofs.tree.Tree.knows_leaves.Goals as goal

pub returns : goal.returns
returns g c =
    let known : (g.N.NodeMap.seen c.map.result.now).known ≡ c.args.self.now.state.known = known-of c.map.ensures
    ∙ ap (λ (v : KeptTree). v.state.known) c.self.view_is in (
      λ yes. subst (λ m. AreKnown (look m 0) c.args.from c.args.count) known (c.knows.ensures.0 yes),
      λ all. c.knows.ensures.1 (subst (λ m. AreKnown (look m 0) c.args.from c.args.count) (sym known) all),
    )
