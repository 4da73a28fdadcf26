use Rattle.std.proofs.Common.{rules}
use Rattle.btcheck_c.proofs.session_calls.btcheck_session_free.Goals as goal

pub returns : goal.returns
returns c = search rules
