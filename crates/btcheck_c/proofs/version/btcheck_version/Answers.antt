use Rattle.std.proofs.Common.{rules}
use Rattle.btcheck_c.proofs.version.btcheck_version.Goals as goal

pub returns : goal.returns
returns c = search rules
