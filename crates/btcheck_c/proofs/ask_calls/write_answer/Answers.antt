use Rattle.std.proofs.Common.{rules, arith, refl}
use Rattle.std.proofs.lemmas.Grind.{common_steps}
use Rattle.btcheck_c.proofs.ask_calls.write_answer.Goals as goal

pub returns-in-Some-Reject-clause-unwritten : goal.returns-in-Some-Reject-clause-unwritten
returns-in-Some-Reject-clause-unwritten c = λ wrote. (refl, λ full. refl)

pub returns-then-len-room-clause-done : goal.returns-then-len-room-clause-done
returns-then-len-room-clause-done c = search rules

pub returns-else-len-room-clause-done : goal.returns-else-len-room-clause-done
returns-else-len-room-clause-done c = grind (arith, common_steps)
