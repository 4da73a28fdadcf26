use Rattle.commands.proofs.outcomes.refuse.Goals as goal

pub returns-in-Ok : goal.returns-in-Ok
returns-in-Ok g c = record {
  status = c.status.ensures;
  line = c.in-Ok.ensures;
  known = c.in_default.not-NoMemory;
  fault = tt;
}
