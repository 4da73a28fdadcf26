use Rattle.std.proofs.Common.{arith}
use Rattle.session.proofs.KeptTrees.{IsKeptTree, number_within, tree_of_number}
use Rattle.session.proofs.MarkedLeaves.{TriesLeaf, tried-kept, tried-marked, tried-other, tried-stays, mark-keeps}
use Rattle.session.proofs.session.SessionOf.mark_leaf.Given.{Over}
use Rattle.session.proofs.session.SessionOf.mark_leaf.Goals as goal
use Rattle.session.proofs.session.SessionOf.mark_leaf.Goals.{After-index_mut, After-mark_leaf}

here : (g : Over) (c : After-index_mut g) → IsKeptTree (g.T.HoldsTorrent.described c.self.inside.torrent) c.self.inside.trees.items c.self.inside.asks
    c.args.self.now c.args.tree c.index_mut.result.now
here g c =
    tree_of_number c.self.inside.asks _ _ c.self.invariant _ c.self.view_is c.args.tree c.requires c.index_mut.result.now c.index_mut.ensures.value

tried : (g : Over) (c : After-mark_leaf g) → TriesLeaf (g.T.HoldsTorrent.described c.self.inside.torrent) c.self.inside.trees.items c.self.inside.asks
    c.args.tree c.index_mut.result.now c.mark_leaf.new.self c.args.block c.args.digest.now c.mark_leaf.result c.args.self.now
tried g c = record {
  before = here g (goal.at.After-mark_leaf g c).After-index_mut;
  marked = c.mark_leaf.ensures.marked;
  known = c.mark_leaf.ensures.known;
  stays = c.mark_leaf.ensures.stays;
  good = c.mark_leaf.ensures.good;
}

pub index_mut-requires : goal.index_mut-requires
index_mut-requires g c = omega (arith, c.self.inside.trees.ok, number_within c.self.inside.asks _ _ c.self.invariant _ c.self.view_is _ c.requires)

pub mark_leaf-requires : goal.mark_leaf-requires
mark_leaf-requires g c = record { good = (here g (goal.at.mark_leaf-requires g c).After-index_mut).good }

pub invariant_of-self : goal.invariant_of-self
invariant_of-self g c = tried-kept (tried g (goal.at.invariant_of-self g c).After-mark_leaf)

pub returns-clause-marked : goal.returns-clause-marked
returns-clause-marked g c = tried-marked (tried g (goal.at.returns-clause-marked g c).After-mark_leaf)

pub returns-clause-other : goal.returns-clause-other
returns-clause-other g c = tried-other (tried g (goal.at.returns-clause-other g c).After-mark_leaf)

pub returns-clause-stays : goal.returns-clause-stays
returns-clause-stays g c = tried-stays (tried g (goal.at.returns-clause-stays g c).After-mark_leaf)

pub returns-clause-keeps_known : goal.returns-clause-keeps_known
returns-clause-keeps_known g c =
    let x = tried g (goal.at.returns-clause-keeps_known g c).After-mark_leaf in
    mark-keeps _ c.args.tree c.args.block c.args.digest.now _ c.mark_leaf.result (tried-marked x) (tried-stays x)
