use Rattle.std.proofs.Common.{rules}
use Rattle.c_layouts.proofs.status.status_of_answer.Goals as goal

pub returns-else-holds : goal.returns-else-holds
returns-else-holds c = search rules
