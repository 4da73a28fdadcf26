use Rattle.std.proofs.Common.{refl, rules}
use Rattle.commands.proofs.outcomes.gather.Goals as goal

pub returns-in_ok-refuse-in-Err-Refused : goal.returns-in_ok-refuse-in-Err-Refused
returns-in_ok-refuse-in-Err-Refused g c = (
  c.in_ok-refuse-in-Err-Refused.ensures.status,
  c.in-Err-Refused.refusal,
  c.in-Err-Refused.path,
  search rules,
  search rules,
)

pub returns-in-Ok : goal.returns-in-Ok
returns-in-Ok g c = (c.in-Ok.ensures.gathers, refl)
