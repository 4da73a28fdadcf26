use Rattle.std.proofs.Common.{arith}
use Rattle.tree_laws.proofs.Keeping.{good_after_fill}
use Rattle.session.proofs.KeptTrees.{IsKeptTree, number_within, tree_of_number, tree-kept}
use Rattle.session.proofs.SessionCalls.{filled_all, fill_refused_all}
use Rattle.session.proofs.session.SessionOf.join_layer.Given.{Over}
use Rattle.session.proofs.session.SessionOf.join_layer.Goals as goal
use Rattle.session.proofs.session.SessionOf.join_layer.Goals.{After-index_mut}

here : (g : Over) (c : After-index_mut g) → IsKeptTree (g.T.HoldsTorrent.described c.self.inside.torrent) c.self.inside.trees.items c.self.inside.asks
    c.args.self.now c.args.tree c.index_mut.result.now
here g c =
    tree_of_number c.self.inside.asks _ _ c.self.invariant _ c.self.view_is c.args.tree c.requires c.index_mut.result.now c.index_mut.ensures.value

pub index_mut-requires : goal.index_mut-requires
index_mut-requires g c = omega (arith, c.self.inside.trees.ok, number_within c.self.inside.asks _ _ c.self.invariant _ c.self.view_is _ c.requires)

pub fill-requires : goal.fill-requires
fill-requires g c = (here g (goal.at.fill-requires g c).After-index_mut).good

pub invariant_of-self : goal.invariant_of-self
invariant_of-self g c =
    let x = here g (goal.at.invariant_of-self g c).After-index_mut in
    tree-kept x c.fill.new.self
    (good_after_fill _ _ c.args.layer c.args.hashes.now c.fill.result x.good c.recall_hashes.ensures c.fill.ensures.filled c.fill.ensures.refused)

pub returns-clause-filled : goal.returns-clause-filled
returns-clause-filled g c =
    filled_all (here g (goal.at.returns-clause-filled g c).After-index_mut) c.fill.new.self c.args.layer c.args.hashes.now c.fill.result
    c.fill.ensures.filled

pub returns-clause-refused : goal.returns-clause-refused
returns-clause-refused g c =
    fill_refused_all (here g (goal.at.returns-clause-refused g c).After-index_mut) c.fill.new.self c.args.layer c.args.hashes.now c.fill.result
    c.fill.ensures.refused
