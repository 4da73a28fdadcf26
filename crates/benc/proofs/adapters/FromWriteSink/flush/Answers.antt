use Rattle.std.proofs.Common.{rules}
use Rattle.benc.proofs.adapters.FromWriteSink.flush.Goals as goal

pub returns-in-Err-clause-flushes : goal.returns-in-Err-clause-flushes
returns-in-Err-clause-flushes g c = search rules
