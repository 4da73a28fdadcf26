use Rattle.std.proofs.Common.{◌≡◌, ◌∙◌, ◌≤◌, [], length, subst, rules}
use Rattle.node_maps.specs.Places.{tree_height}
use Rattle.partial_tree.specs.Fill.{pad_from}
use Rattle.node_maps.specs.Known.{look}
use Rattle.partial_tree.proofs.Layers.{layer-leads_as}
use Rattle.partial_tree.proofs.nodes.TreeNodes.fill.Goals as goal

pub store-requires-clause-leads : goal.store-requires-clause-leads
store-requires-clause-leads g c =
    let inside : c.args.layer ≤ tree_height c.self.inside.shape = subst (λ h. c.args.layer ≤ h) c.self.invariant.1 c.if-layer-self.false in
    let count : length c.args.hashes.now ≡ pad_from c.self.inside.shape c.args.layer = c.if-hashes-pad_from.false ∙ c.pad_from.ensures.value in
    layer-leads_as (record { root = []; length = c.self.inside.shape }) (look (g.N.NodeMap.seen c.self.inside.map).known) c.args.layer c.args.hashes inside
    count c.self.inside.height c.zero.result c.self.invariant.1 c.zero.ensures

pub returns-clause-stays : goal.returns-clause-stays
returns-clause-stays g c = search rules

pub returns-clause-filled : goal.returns-clause-filled
returns-clause-filled g c = search rules

pub returns-clause-refused : goal.returns-clause-refused
returns-clause-refused g c = search rules
