use Rattle.std.proofs.Common.{refl}
use Rattle.btcheck_c.proofs.session_calls.take_hashes.Goals as goal

pub returns-clause-done : goal.returns-clause-done
returns-clause-done c = (
  c.take_hashes.result,
  c.status_of_hashes.ensures.done,
  (
    c.take_hashes.new.self,
    refl,
    record {
      stored = c.take_hashes.ensures.stored;
      refused = c.take_hashes.ensures.refused;
      keeps_known = c.take_hashes.ensures.keeps_known;
      stores_true_hashes = c.take_hashes.ensures.stores_true_hashes;
      stores_answers = c.take_hashes.ensures.stores_answers;
      closes_one_gap = c.take_hashes.ensures.closes_one_gap;
    },
  ),
)
