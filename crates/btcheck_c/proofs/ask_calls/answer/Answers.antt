use Rattle.std.proofs.Common.{refl}
use Rattle.btcheck_c.proofs.ask_calls.answer.Goals as goal

pub returns-clause-done : goal.returns-clause-done
returns-clause-done c = (refl, (c.answer_to.result, c.write_answer.ensures.done, c.answer_to.ensures))
