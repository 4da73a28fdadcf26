use Rattle.std.proofs.Common.{refl, inl, inr}
use Rattle.btcheck_c.proofs.frame_taking.hold_whole.Goals as goal

pub returns-in-Err-clause-done : goal.returns-in-Err-clause-done
returns-in-Err-clause-done c = inr (c.in-Err.ensures.none, refl)

pub returns-in-Ok-clause-done : goal.returns-in-Ok-clause-done
returns-in-Ok-clause-done c = inl (c.in-Ok.message, (c.in-Ok.ensures.message, c.hold_message.ensures.done))
