use Rattle.std.proofs.Common.{refl}
use Rattle.btcheck_c.proofs.ask_calls.take_answer.Goals as goal

pub returns-clause-done : goal.returns-clause-done
returns-clause-done c = (
  c.take_answer.result,
  c.status_of_hashes.ensures.done,
  (
    c.take_answer.new.self,
    refl,
    record {
      stored = c.take_answer.ensures.stored;
      refused = c.take_answer.ensures.refused;
      keeps_known = c.take_answer.ensures.keeps_known;
      stores_true_hashes = c.take_answer.ensures.stores_true_hashes;
      stores_answers = c.take_answer.ensures.stores_answers;
      closes_one_gap = c.take_answer.ensures.closes_one_gap;
    },
  ),
)
