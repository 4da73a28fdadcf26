use Rattle.std.proofs.Common.{◌≡◌, ◌∙◌, sym, ap, subst}
use Rattle.std.specs.Bool.{OnTrue}
use Rattle.node_maps.specs.Known.{Known, look}
use Rattle.node_maps.specs.Nodes.{Nodes}
use Rattle.partial_tree.specs.Kept.{KeptTree}
use Rattle.partial_tree.specs.EndPads.{AreEndPadsKnown}
use Rattle.partial_tree.proofs.RowPads.{row_pads-known}
use Rattle.partial_tree.proofs.tree.Tree.has_row_pads.Goals as goal

pub returns-clause-known : goal.returns-clause-known
returns-clause-known g c =
    let m = c.args.self.now.state.known in
    let same : (g.N.NodeMap.seen c.map.result.now).known ≡ m =
    ap (λ (n : Nodes). n.known) c.map.ensures ∙ ap (λ (v : KeptTree). v.state.known) c.self.view_is in
    row_pads-known c.args.self.now.length c.args.first c.args.span (look m) c.knows_end_pads.result
    (subst (λ len. OnTrue c.knows_end_pads.result (AreEndPadsKnown len (look m))) c.shape-shape.ensures
    (subst (λ (k : Known). OnTrue c.knows_end_pads.result (AreEndPadsKnown c.shape-shape.result (look k))) same c.knows_end_pads.ensures.known))
