use Rattle.std.proofs.Common.{rules}
use Rattle.replays.proofs.report.Reply.to_incoming.Goals as goal

pub returns-in-Request-Rejected : goal.returns-in-Request-Rejected
returns-in-Request-Rejected c = search rules
