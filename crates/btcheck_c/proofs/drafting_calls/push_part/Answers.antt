use Rattle.std.proofs.Common.{refl, inl, inr}
use Rattle.btcheck_c.proofs.drafting_calls.push_part.Goals as goal

pub returns-in-Err : goal.returns-in-Err
returns-in-Err c = inr (inr (refl, (c.push.new.self, refl, c.in-Err.ensures.kind, c.in-Err.ensures.refused, c.in-Err.ensures.memory)))

pub returns-in-Ok : goal.returns-in-Ok
returns-in-Ok c = inl (refl, (c.push.new.self, refl, c.in-Ok.ensures.kind, c.in-Ok.ensures.fed))
