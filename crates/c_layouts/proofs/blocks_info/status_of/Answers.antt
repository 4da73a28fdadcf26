use Rattle.std.proofs.Common.{rules}
use Rattle.c_layouts.proofs.blocks_info.status_of.Goals as goal

pub returns-in-Some : goal.returns-in-Some
returns-in-Some c = search rules
