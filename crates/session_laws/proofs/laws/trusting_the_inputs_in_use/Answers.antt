use Rattle.session_laws.proofs.InUse.{messages-in_use, trees-in_use, file-in_use, trusted-runs_of_inputs}
use Rattle.session_laws.proofs.laws.trusting_the_inputs_in_use.Goals as goal

pub returns : goal.returns
returns c = record {
  messages = messages-in_use;
  trees = trees-in_use;
  file = file-in_use;
  runs = trusted-runs_of_inputs;
}
