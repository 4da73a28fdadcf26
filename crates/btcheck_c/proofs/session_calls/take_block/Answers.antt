use Rattle.std.proofs.Common.{refl}
use Rattle.btcheck_c.proofs.session_calls.take_block.Goals as goal

pub returns-clause-done : goal.returns-clause-done
returns-clause-done c = (
  c.take_block.result,
  c.status_of_block.ensures.done,
  (
    c.take_block.new.self,
    refl,
    record {
      verified = c.take_block.ensures.verified;
      refused = c.take_block.ensures.refused;
      verified_is_the_block = c.take_block.ensures.verified_is_the_block;
      keeps_known = c.take_block.ensures.keeps_known;
      verifies_true_block = c.take_block.ensures.verifies_true_block;
    },
  ),
)
