use Rattle.session_laws.proofs.ClosedCalls.{call-closed}
use Rattle.session_laws.proofs.laws.calls_keep_trees_closed.Goals as goal

pub returns : goal.returns
returns c = call-closed
