use Rattle.session.proofs.Runs.{run-true}
use Rattle.session_laws.proofs.laws.run_keeps_promises.Goals as goal

pub returns : goal.returns
returns c = run-true
