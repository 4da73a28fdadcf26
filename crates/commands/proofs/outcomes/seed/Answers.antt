use Rattle.std.proofs.Common.{rules}
use Rattle.commands.proofs.outcomes.seed.Goals as goal

pub returns-in-Ok-clause-seeded : goal.returns-in-Ok-clause-seeded
returns-in-Ok-clause-seeded g c = search rules
