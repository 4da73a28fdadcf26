use Rattle.session.proofs.KeptTrees.{tree_of_number}
use Rattle.session.proofs.session.SessionOf.is_marked.Goals as goal

pub returns : goal.returns
returns g c =
    let a = c.index.result.now in
    let x = tree_of_number c.self.inside.asks _ _ c.self.invariant _ c.self.view_is c.args.tree c.requires a c.index.ensures in
    (a.state, x.is_tree.state_is, c.is_marked.ensures)
