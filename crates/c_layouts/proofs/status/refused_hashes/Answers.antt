use Rattle.std.proofs.Common.{rules}
use Rattle.c_layouts.proofs.status.refused_hashes.Goals as goal

pub returns : goal.returns
returns c = search rules
