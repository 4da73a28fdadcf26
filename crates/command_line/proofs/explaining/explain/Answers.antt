use Rattle.std.proofs.Common.{refl}
use Rattle.command_line.proofs.explaining.explain.Goals as goal

pub returns-in-true-clause-refused : goal.returns-in-true-clause-refused
returns-in-true-clause-refused c = λ not_shown. refl
