use Rattle.std.proofs.Common.{arith}
use Rattle.tree_laws.proofs.Keeping.{stays_good_adopted}
use Rattle.session.proofs.KeptTrees.{IsKeptTree, number_within, tree_of_number, tree-kept}
use Rattle.session.proofs.SessionCalls.{filled_all, fill_refused_all, length_at}
use Rattle.session.proofs.session.SessionOf.take_over.Given.{Over}
use Rattle.session.proofs.session.SessionOf.take_over.Goals as goal
use Rattle.session.proofs.session.SessionOf.take_over.Goals.{After-index_mut}

here : (g : Over) (c : After-index_mut g) → IsKeptTree (g.T.HoldsTorrent.described c.self.inside.torrent) c.self.inside.trees.items c.self.inside.asks
    c.args.self.now c.args.tree c.index_mut.result.now
here g c =
    tree_of_number c.self.inside.asks _ _ c.self.invariant _ c.self.view_is c.args.tree c.requires.inside c.index_mut.result.now c.index_mut.ensures.value

pub index_mut-requires : goal.index_mut-requires
index_mut-requires g c = omega (arith, c.self.inside.trees.ok, number_within c.self.inside.asks _ _ c.self.invariant _ c.self.view_is _ c.requires.inside)

pub adopt-requires-clause-good : goal.adopt-requires-clause-good
adopt-requires-clause-good g c = (here g (goal.at.adopt-requires-clause-good g c).After-index_mut).good

pub adopt-requires-clause-length : goal.adopt-requires-clause-length
adopt-requires-clause-length g c =
    length_at (here g (goal.at.adopt-requires-clause-length g c).After-index_mut) c.args.grown.length c.requires.length

pub invariant_of-self : goal.invariant_of-self
invariant_of-self g c =
    tree-kept (here g (goal.at.invariant_of-self g c).After-index_mut) c.adopt.new.self
    (stays_good_adopted _ _ c.args.grown.leaves c.adopt.result c.adopt.ensures.adopted c.adopt.ensures.refused c.adopt.ensures.good)

pub returns-clause-adopted : goal.returns-clause-adopted
returns-clause-adopted g c =
    filled_all (here g (goal.at.returns-clause-adopted g c).After-index_mut) c.adopt.new.self 0 c.args.grown.leaves c.adopt.result c.adopt.ensures.adopted

pub returns-clause-refused : goal.returns-clause-refused
returns-clause-refused g c =
    fill_refused_all (here g (goal.at.returns-clause-refused g c).After-index_mut) c.adopt.new.self 0 c.args.grown.leaves c.adopt.result
    c.adopt.ensures.refused

pub returns-clause-only_mismatch : goal.returns-clause-only_mismatch
returns-clause-only_mismatch g c = c.adopt.ensures.only_mismatch
