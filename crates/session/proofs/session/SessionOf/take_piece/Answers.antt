use Rattle.session.proofs.TakenPieces.{blocks-of_piece, pads-of_piece, known-after_piece}
use Rattle.session.proofs.OneTree.{gaps-after}
use Rattle.session.proofs.TruePieces.{true-piece}
use Rattle.session.proofs.session.SessionOf.take_piece.Goals as goal

pub returns-clause-taken_are_the_blocks : goal.returns-clause-taken_are_the_blocks
returns-clause-taken_are_the_blocks g c =
    blocks-of_piece c.args.self.now c.args.index c.args.bytes.now c.join_piece-taken.new.self c.join_piece-taken.result c.recall_closed_trees-2.ensures
    c.join_piece-taken.ensures.taken

pub returns-clause-end_pads : goal.returns-clause-end_pads
returns-clause-end_pads g c =
    pads-of_piece c.args.self.now c.args.index c.args.bytes.now c.join_piece-taken.new.self c.join_piece-taken.result c.join_piece-taken.ensures.taken

pub returns-clause-keeps_known : goal.returns-clause-keeps_known
returns-clause-keeps_known g c =
    known-after_piece c.args.self.now c.args.index c.args.bytes.now c.join_piece-taken.new.self c.join_piece-taken.result c.join_piece-taken.ensures.taken
    c.join_piece-taken.ensures.refused

pub returns-clause-takes_true_piece : goal.returns-clause-takes_true_piece
returns-clause-takes_true_piece g c =
    true-piece c.args.self.now c.recall_closed_trees.ensures c.args.index c.args.bytes.now c.join_piece-taken.new.self c.join_piece-taken.result
    c.join_piece-taken.ensures.taken c.join_piece-taken.ensures.refused

pub returns-clause-gaps : goal.returns-clause-gaps
returns-clause-gaps g c =
    gaps-after c.args.self.now c.join_piece-taken.new.self
    (known-after_piece c.args.self.now c.args.index c.args.bytes.now c.join_piece-taken.new.self c.join_piece-taken.result c.join_piece-taken.ensures.taken
    c.join_piece-taken.ensures.refused)
