use Rattle.std.proofs.Common.{refl}
use Rattle.btcheck_c.proofs.block_calls.take_piece.Goals as goal

pub returns-clause-done : goal.returns-clause-done
returns-clause-done c = (
  c.take_piece.result,
  c.status_of_piece.ensures.done,
  (
    c.take_piece.new.self,
    refl,
    record {
      taken = c.take_piece.ensures.taken;
      refused = c.take_piece.ensures.refused;
      taken_are_the_blocks = c.take_piece.ensures.taken_are_the_blocks;
      keeps_known = c.take_piece.ensures.keeps_known;
      gaps = c.take_piece.ensures.gaps;
      takes_true_piece = c.take_piece.ensures.takes_true_piece;
    },
  ),
)
