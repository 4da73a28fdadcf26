use Rattle.std.proofs.Common.{ap, ◌∙◌}
use Rattle.std.specs.FinSet as set
use Rattle.node_maps.proofs.Nodes.{marked-of}
use Rattle.partial_tree.specs.Kept.{KeptTree}
use Rattle.partial_tree.proofs.tree.Tree.is_marked.Goals as goal

pub returns : goal.returns
returns g c =
    c.is_marked.ensures
    ∙ ap (λ m. set.contains m c.args.block) (marked-of c.map.ensures ∙ ap (λ (v : KeptTree). v.state.marked) c.self.view_is)
