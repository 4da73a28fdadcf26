use Rattle.std.proofs.Common.{rules}
use Rattle.parts.proofs.verdicts.worse_v1.Goals as goal

pub returns-in-Bad-Bad : goal.returns-in-Bad-Bad
returns-in-Bad-Bad c = search rules
