use Rattle.std.proofs.Common.{rules}
use Rattle.replays.proofs.report.Ending.is_fault.Goals as goal

pub returns-in_default : goal.returns-in_default
returns-in_default c = search rules
