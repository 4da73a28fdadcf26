use Rattle.std.proofs.Common.{refl}
use Rattle.opening.proofs.open.refusal_of.Goals as goal

pub returns-in_default : goal.returns-in_default
returns-in_default c = record {
  memory = λ is. absurd (c.in_default.not-NoMemory is);
  memory_only = λ is. cc;
  other = λ _. refl;
}
