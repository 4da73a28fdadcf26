use Rattle.std.proofs.Common.{rules}
use Rattle.command_line.proofs.finding.is_plain.Goals as goal

pub returns : goal.returns
returns c = search rules
