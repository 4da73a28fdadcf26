use Rattle.std.proofs.Common.{rules}
use Rattle.benc.proofs.fault.FaultKind.name.Goals as goal

pub returns-in-BadLength : goal.returns-in-BadLength
returns-in-BadLength c = search rules
