use Rattle.std.proofs.Common.{rules}
use Rattle.session.proofs.session.SessionOf.is_open.Goals as goal

pub returns : goal.returns
returns g c = search rules
