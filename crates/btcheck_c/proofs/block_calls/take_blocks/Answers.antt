use Rattle.std.proofs.Common.{refl}
use Rattle.btcheck_c.proofs.block_calls.take_blocks.Goals as goal

pub returns-clause-done : goal.returns-clause-done
returns-clause-done c = (
  c.take_blocks.result,
  c.write_blocks.ensures.done,
  (
    c.take_blocks.new.self,
    refl,
    record {
      taken = c.take_blocks.ensures.taken;
      refused = c.take_blocks.ensures.refused;
      verified_are_the_blocks = c.take_blocks.ensures.verified_are_the_blocks;
      keeps_known = c.take_blocks.ensures.keeps_known;
      verifies_true_blocks = c.take_blocks.ensures.verifies_true_blocks;
    },
  ),
)
