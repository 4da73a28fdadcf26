use Rattle.std.proofs.Common.{ap, ◌∙◌}
use Rattle.node_maps.specs.Nodes.{Nodes, no_nodes, with_node}
use Rattle.node_maps.proofs.Nodes.{length-of}
use Rattle.partial_tree.proofs.nodes.TreeNodes.with_root.Goals as goal

pub invariant_of-result : goal.invariant_of-result
invariant_of-result g c = (
  length-of c.trim.ensures.seen ∙ length-of c.put.ensures.seen ∙ length-of c.reserve.ensures.seen ∙ length-of c.empty-map.ensures.seen,
  c.height-height.ensures.value,
  c.height-height.ensures.bound,
  c.trim.ensures.held,
)

pub returns-clause-root : goal.returns-clause-root
returns-clause-root g c =
    c.trim.ensures.seen ∙ c.put.ensures.seen
    ∙ ap (λ (n : Nodes). with_node n c.height-height.result 0 c.args.root) (c.reserve.ensures.seen ∙ c.empty-map.ensures.seen)
    ∙ ap (λ h. with_node (no_nodes c.args.shape) h 0 c.args.root) c.height-height.ensures.value
