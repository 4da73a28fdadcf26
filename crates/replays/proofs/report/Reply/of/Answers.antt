use Rattle.std.proofs.Common.{rules}
use Rattle.replays.proofs.report.Reply.of.Goals as goal

pub returns-in-Out : goal.returns-in-Out
returns-in-Out c = search rules
