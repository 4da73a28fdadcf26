use Rattle.std.proofs.Common.{arith}
use Rattle.tree_laws.proofs.Keeping.{good_after_block}
use Rattle.session.proofs.BlockTrees.{block_inside, marked_all, unmarked_all}
use Rattle.session.proofs.KeptTrees.{IsKeptTree, number_within, tree_of_number, tree-kept}
use Rattle.session.proofs.session.SessionOf.mark_in_file.Given.{Over}
use Rattle.session.proofs.session.SessionOf.mark_in_file.Goals as goal
use Rattle.session.proofs.session.SessionOf.mark_in_file.Goals.{After-index_mut}

here : (g : Over) (c : After-index_mut g) → IsKeptTree (g.T.HoldsTorrent.described c.self.inside.torrent) c.self.inside.trees.items c.self.inside.asks
    c.args.self.now c.tree_of_block-tree.result c.index_mut.result.now
here g c =
    tree_of_number c.self.inside.asks _ _ c.self.invariant _ c.self.view_is _ c.tree_of_block-tree.ensures.within c.index_mut.result.now
    c.index_mut.ensures.value

pub index_mut-requires : goal.index_mut-requires
index_mut-requires g c =
    omega (arith, c.self.inside.trees.ok, number_within c.self.inside.asks _ _ c.self.invariant _ c.self.view_is _ c.tree_of_block-tree.ensures.within)

pub take_hashed-requires-clause-good : goal.take_hashed-requires-clause-good
take_hashed-requires-clause-good g c = (here g (goal.at.take_hashed-requires-clause-good g c).After-index_mut).good

pub take_hashed-requires-clause-inside : goal.take_hashed-requires-clause-inside
take_hashed-requires-clause-inside g c =
    block_inside (here g (goal.at.take_hashed-requires-clause-inside g c).After-index_mut) c.tree_of_block-tree.ensures

pub take_hashed-requires-clause-digest : goal.take_hashed-requires-clause-digest
take_hashed-requires-clause-digest g c = c.requires.digest

pub invariant_of-self : goal.invariant_of-self
invariant_of-self g c =
    let x = here g (goal.at.invariant_of-self g c).After-index_mut in
    tree-kept x c.take_hashed.new.self
    (good_after_block _ _ c.args.block c.args.bytes.now c.take_hashed.result x.good c.take_hashed.ensures.taken c.take_hashed.ensures.refused)

pub returns-clause-marked : goal.returns-clause-marked
returns-clause-marked g c =
    marked_all (here g (goal.at.returns-clause-marked g c).After-index_mut) c.tree_of_block-tree.ensures c.take_hashed.new.self c.args.bytes.now
    c.take_hashed.result c.take_hashed.ensures.taken

pub returns-clause-refused : goal.returns-clause-refused
returns-clause-refused g c =
    unmarked_all (here g (goal.at.returns-clause-refused g c).After-index_mut) c.tree_of_block-tree.ensures c.take_hashed.new.self c.args.bytes.now
    c.take_hashed.result c.take_hashed.ensures.refused
