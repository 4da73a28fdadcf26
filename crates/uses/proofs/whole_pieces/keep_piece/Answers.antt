use Rattle.uses.proofs.Kept.{piece-kept}
use Rattle.uses.proofs.whole_pieces.keep_piece.Goals as goal

pub returns-clause-kept : goal.returns-clause-kept
returns-clause-kept g c = piece-kept c.args.session.now c.args.index c.args.piece.now c.take_piece.result c.take_piece.new.self c.take_piece.ensures.taken
    c.take_piece.ensures.taken_are_the_blocks
