use Rattle.std.proofs.Common.{refl, arith}
use Rattle.tree_laws.proofs.Keeping.{good_after_take}
use Rattle.session.proofs.KeptTrees.{IsKeptTree, number_within, tree_of_number, tree-kept}
use Rattle.session.proofs.Numbering.{no_root, stored_all, refused_all}
use Rattle.session.proofs.session.SessionOf.join_hashes.Given.{Over}
use Rattle.session.proofs.session.SessionOf.join_hashes.Goals as goal
use Rattle.session.proofs.session.SessionOf.join_hashes.Goals.{After-index_mut}

here : (g : Over) (c : After-index_mut g) → IsKeptTree (g.T.HoldsTorrent.described c.self.inside.torrent) c.self.inside.trees.items c.self.inside.asks
    c.args.self.now c.in-Some.number c.index_mut.result.now
here g c = tree_of_number c.self.inside.asks _ _ c.self.invariant _ c.self.view_is _ c.in-Some.ensures.within c.index_mut.result.now
    c.index_mut.ensures.value

pub index_mut-requires : goal.index_mut-requires
index_mut-requires g c =
    omega (arith, c.self.inside.trees.ok, number_within c.self.inside.asks _ _ c.self.invariant _ c.self.view_is _ c.in-Some.ensures.within)

pub take-requires : goal.take-requires
take-requires g c = (here g (goal.at.take-requires g c).After-index_mut).good

pub invariant_of-self : goal.invariant_of-self
invariant_of-self g c =
    let x = here g (goal.at.invariant_of-self g c).After-index_mut in
    tree-kept x c.take.new.self
    (good_after_take _ _ c.args.ask.now c.args.hashes.now c.take.result x.good c.recall_hashes.ensures c.take.ensures.taken c.take.ensures.refused)

pub returns-in-None-clause-refused : goal.returns-in-None-clause-refused
returns-in-None-clause-refused g c = (no_root c.args.self.now c.args.ask.now.root c.number_of.result c.number_of.ensures.only c.in-None.is, refl)

pub returns-in-Some-clause-stored : goal.returns-in-Some-clause-stored
returns-in-Some-clause-stored g c =
    stored_all (here g (goal.at.returns-in-Some-clause-stored g c).After-index_mut) c.args.ask.now c.in-Some.ensures.found c.take.new.self
    c.args.hashes.now c.take.result c.take.ensures.taken

pub returns-in-Some-clause-refused : goal.returns-in-Some-clause-refused
returns-in-Some-clause-refused g c =
    refused_all (here g (goal.at.returns-in-Some-clause-refused g c).After-index_mut) c.args.ask.now c.in-Some.ensures.found c.take.new.self
    c.args.hashes.now c.take.result c.take.ensures.refused
