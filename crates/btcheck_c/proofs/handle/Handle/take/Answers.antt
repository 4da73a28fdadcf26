use Rattle.std.proofs.Common.{rules}
use Rattle.btcheck_c.proofs.handle.Handle.take.Goals as goal

pub returns-else-full-clause-taken : goal.returns-else-full-clause-taken
returns-else-full-clause-taken c = search rules
