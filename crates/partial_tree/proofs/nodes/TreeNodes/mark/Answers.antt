use Rattle.std.proofs.Common.{◌+◌, sym, ap, ◌∙◌}
use Rattle.std.specs.FinSet as set
use Rattle.node_maps.specs.Nodes.{Nodes}
use Rattle.node_maps.proofs.Nodes.{known-of, length-of}
use Rattle.partial_tree.proofs.nodes.TreeNodes.mark.Goals as goal

pub invariant_of-self : goal.invariant_of-self
invariant_of-self g c = (
  length-of c.mark_leaf.ensures.seen ∙ c.self.invariant.0,
  c.self.invariant.1,
  c.self.invariant.2,
  c.mark_leaf.ensures.held ∙ c.self.invariant.3 ∙ ap g.N.NodeMap.needed (sym (known-of c.mark_leaf.ensures.seen)),
)

pub returns-clause-count : goal.returns-clause-count
returns-clause-count g c = c.mark_leaf.ensures.count ∙ ap (λ (n : Nodes). set.len n.marked + c.mark_leaf.result) c.self.view_is
