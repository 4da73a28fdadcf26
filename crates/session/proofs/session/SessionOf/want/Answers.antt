use Rattle.partial_tree.specs.Kept.{info_of}
use Rattle.session.proofs.KeptTrees.{IsKeptTree, tree_of_number}
use Rattle.session.proofs.SessionCalls.{block_in}
use Rattle.session.proofs.session.SessionOf.want.Given.{Over}
use Rattle.session.proofs.session.SessionOf.want.Goals as goal
use Rattle.session.proofs.session.SessionOf.want.Goals.{After-index}

here : (g : Over) (c : After-index g) → IsKeptTree (g.T.HoldsTorrent.described c.self.inside.torrent) c.self.inside.trees.items c.self.inside.asks
    c.args.self.now c.args.tree c.index.result.now
here g c = tree_of_number c.self.inside.asks _ _ c.self.invariant _ c.self.view_is c.args.tree c.requires.tree c.index.result.now c.index.ensures

pub want-requires : goal.want-requires
want-requires g c = block_in (here g (goal.at.want-requires g c).After-index) c.args.block c.requires.block

pub returns : goal.returns
returns g c =
    let a = c.index.result.now in
    (info_of a, a.state, (here g (goal.at.returns g c).After-index).is_tree, c.want.ensures)
