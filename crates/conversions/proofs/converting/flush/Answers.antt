use Rattle.std.proofs.Common.{rules}
use Rattle.conversions.proofs.converting.flush.Goals as goal

pub returns : goal.returns
returns g c = search rules
