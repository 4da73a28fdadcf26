use Rattle.std.proofs.Common.{refl, inl, inr, arith}
use Rattle.btcheck_c.proofs.frame_calls.take_frame.Goals as goal

pub returns-then-body-clause-done : goal.returns-then-body-clause-done
returns-then-body-clause-done c = let long = c.if-body.true in inr (inr (refl, (omega arith, refl)))

pub returns-in-BadSize-clause-done : goal.returns-in-BadSize-clause-done
returns-in-BadSize-clause-done c = inr (inl (refl, ((c.in-BadSize.id, c.in-BadSize.len, c.in-BadSize.ensures), refl)))

pub returns-in-Message-clause-done : goal.returns-in-Message-clause-done
returns-in-Message-clause-done c = inl (record {
  message = c.in-Message.message;
  means = c.in-Message.ensures;
  verdict = c.step.result;
  is = c.write_verdict.ensures.done;
  step = c.step.ensures.is_safe;
})
