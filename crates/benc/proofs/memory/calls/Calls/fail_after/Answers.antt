use Rattle.std.proofs.Common.{refl}
use Rattle.benc.proofs.memory.calls.Calls.fail_after.Goals as goal

pub returns-clause-fails : goal.returns-clause-fails
returns-clause-fails c = refl
