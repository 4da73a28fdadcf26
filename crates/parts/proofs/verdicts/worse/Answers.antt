use Rattle.std.proofs.Common.{rules}
use Rattle.parts.proofs.verdicts.worse.Goals as goal

pub returns-in-Bad-Bad : goal.returns-in-Bad-Bad
returns-in-Bad-Bad c = search rules

pub returns-in-Good-default-2 : goal.returns-in-Good-default-2
returns-in-Good-default-2 c = search rules
