use Rattle.std.proofs.Common.{◌≡◌, arith}
use Rattle.session.specs.Pieces.{piece_span}
use Rattle.session.proofs.KeptTrees.{IsKeptTree, number_within, tree_of_number, tree-kept}
use Rattle.session.proofs.LeavesOfTrees.{span_there, piece_there, leaves_taken, leaves_refused, good_after_leaves}
use Rattle.session.proofs.session.SessionOf.join_leaves.Given.{Over}
use Rattle.session.proofs.session.SessionOf.join_leaves.Goals as goal
use Rattle.session.proofs.session.SessionOf.join_leaves.Goals.{After-index_mut}

-- the tree, and the layer of the nodes that cover its pieces
module _ (g : Over) (c : After-index_mut g) where
  here : IsKeptTree (g.T.HoldsTorrent.described c.self.inside.torrent) c.self.inside.trees.items c.self.inside.asks c.args.self.now c.args.tree
      c.index_mut.result.now
  here = tree_of_number c.self.inside.asks _ _ c.self.invariant _ c.self.view_is c.args.tree c.requires.tree c.index_mut.result.now
      c.index_mut.ensures.value

  span : c.piece_span-span.result ≡ piece_span c.args.self.now.torrent.piece_length c.index_mut.result.now.length
  span = span_there here c.piece_span-span.result c.piece_span-span.ensures.value

pub index_mut-requires : goal.index_mut-requires
index_mut-requires g c = omega (arith, c.self.inside.trees.ok, number_within c.self.inside.asks _ _ c.self.invariant _ c.self.view_is _ c.requires.tree)

pub take_leaves-requires-clause-good : goal.take_leaves-requires-clause-good
take_leaves-requires-clause-good g c = (here g (goal.at.take_leaves-requires-clause-good g c).After-index_mut).good

pub take_leaves-requires-clause-row : goal.take_leaves-requires-clause-row
take_leaves-requires-clause-row g c =
    let s = (goal.at.take_leaves-requires-clause-row g c).After-index_mut in
    piece_there (here g s) c.args.first _ (span g s) c.args.leaves.now c.requires.piece

pub invariant_of-self : goal.invariant_of-self
invariant_of-self g c =
    tree-kept (here g (goal.at.invariant_of-self g c).After-index_mut) c.take_leaves.new.self
    (good_after_leaves _ _ c.args.first c.piece_span-span.result c.args.leaves.now c.take_leaves.result c.take_leaves.ensures.good
    c.take_leaves.ensures.taken c.take_leaves.ensures.refused)

pub returns-clause-taken : goal.returns-clause-taken
returns-clause-taken g c =
    let s = (goal.at.returns-clause-taken g c).After-index_mut in
    leaves_taken (here g s) c.args.first _ (span g s) c.args.leaves.now c.requires.piece c.take_leaves.new.self c.take_leaves.result
    c.take_leaves.ensures.taken

pub returns-clause-refused : goal.returns-clause-refused
returns-clause-refused g c =
    let s = (goal.at.returns-clause-refused g c).After-index_mut in
    leaves_refused (here g s) c.args.first _ (span g s) c.args.leaves.now c.take_leaves.new.self c.take_leaves.result c.take_leaves.ensures.refused
