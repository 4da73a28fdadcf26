use Rattle.std.proofs.Common.{rules}
use Rattle.c_layouts.proofs.asked.read_ask.Goals as goal

pub returns : goal.returns
returns c = search rules
