use Rattle.std.proofs.Common.{rules, tests}
use Rattle.benc.proofs.parser.if_asked.Goals as goal

pub returns : goal.returns
returns c = search (rules, tests)
