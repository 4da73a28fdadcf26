use Rattle.std.proofs.Common.{◌≡◌, length, refl, sym, ap, ◌∙◌, arith}
use Rattle.session.specs.Pieces.{piece_size, piece_span}
use Rattle.session.proofs.BlockTrees.{in_file}
use Rattle.session.proofs.KeptTrees.{IsKeptTree, number_within, tree_of_number, tree-kept}
use Rattle.session.proofs.LeavesOfTrees.{span_there}
use Rattle.session.proofs.PieceRows.{piece_row, piece_taken, piece_refused, good_after_piece}
use Rattle.session.proofs.session.SessionOf.take_from.Given.{Over}
use Rattle.session.proofs.session.SessionOf.take_from.Goals as goal
use Rattle.session.proofs.session.SessionOf.take_from.Goals.{After-index_mut}

-- the tree, the layer of the nodes that cover its pieces, and how many bytes there are
module _ (g : Over) (c : After-index_mut g) where
  here : IsKeptTree (g.T.HoldsTorrent.described c.self.inside.torrent) c.self.inside.trees.items c.self.inside.asks c.args.self.now c.tree_of_block-tree.result
      c.index_mut.result.now
  here = tree_of_number c.self.inside.asks _ _ c.self.invariant _ c.self.view_is _ c.tree_of_block-tree.ensures.within c.index_mut.result.now
      c.index_mut.ensures.value

  span : c.piece_span-span.result ≡ piece_span c.args.self.now.torrent.piece_length c.index_mut.result.now.length
  span = span_there here c.piece_span-span.result c.piece_span-span.ensures.value

  size : length c.args.bytes.now ≡ piece_size c.args.self.now.torrent.piece_length c.tree_of_block-tree.ensures.entry.length c.args.first
  size = c.if-bytes-size_of_piece.false ∙ c.size_of_piece.ensures c.tree_of_block-tree.ensures.entry c.tree_of_block-tree.ensures.there

pub index_mut-requires : goal.index_mut-requires
index_mut-requires g c =
    omega (arith, c.self.inside.trees.ok, number_within c.self.inside.asks _ _ c.self.invariant _ c.self.view_is _ c.tree_of_block-tree.ensures.within)

pub take_piece-requires-clause-good : goal.take_piece-requires-clause-good
take_piece-requires-clause-good g c = (here g (goal.at.take_piece-requires-clause-good g c).After-index_mut).good

pub take_piece-requires-clause-row : goal.take_piece-requires-clause-row
take_piece-requires-clause-row g c =
    let s = (goal.at.take_piece-requires-clause-row g c).After-index_mut in
    piece_row (here g s) c.tree_of_block-tree.ensures c.args.bytes.now (size g s) _ (span g s) c.requires.aligned

pub returns-then-bytes-size_of_piece-clause-refused : goal.returns-then-bytes-size_of_piece-clause-refused
returns-then-bytes-size_of_piece-clause-refused g c =
    let e = c.tree_of_block-tree.ensures in
    let other = c.if-bytes-size_of_piece.true in (
      (
        in_file e,
        λ is. other (is ∙ ap (λ n. piece_size c.args.self.now.torrent.piece_length n c.args.first) e.same_length
            ∙ sym (c.size_of_piece.ensures e.entry e.there)),
      ),
      refl,
    )

pub invariant_of-self : goal.invariant_of-self
invariant_of-self g c =
    tree-kept (here g (goal.at.invariant_of-self g c).After-index_mut) c.take_piece.new.self
    (good_after_piece c.index_mut.result.now c.take_piece.new.self c.args.first c.piece_span-span.result c.args.bytes.now c.take_piece.result
    c.take_piece.ensures.good c.take_piece.ensures.taken c.take_piece.ensures.refused)

pub returns-clause-taken : goal.returns-clause-taken
returns-clause-taken g c =
    let s = (goal.at.returns-clause-taken g c).After-index_mut in
    piece_taken (here g s) c.tree_of_block-tree.ensures c.args.bytes.now (size g s) _ (span g s) c.requires.aligned c.take_piece.new.self
    c.take_piece.result c.take_piece.ensures.taken

pub returns-clause-refused : goal.returns-clause-refused
returns-clause-refused g c =
    let s = (goal.at.returns-clause-refused g c).After-index_mut in
    piece_refused (here g s) c.tree_of_block-tree.ensures c.args.bytes.now (size g s) _ (span g s) c.take_piece.new.self c.take_piece.result
    c.take_piece.ensures.refused
