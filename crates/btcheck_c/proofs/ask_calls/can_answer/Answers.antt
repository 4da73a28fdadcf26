use Rattle.std.proofs.Common.{refl}
use Rattle.btcheck_c.proofs.ask_calls.can_answer.Goals as goal

pub returns : goal.returns
returns c = (refl, (c.can_answer.result, c.status_of_answer.ensures, c.can_answer.ensures))
