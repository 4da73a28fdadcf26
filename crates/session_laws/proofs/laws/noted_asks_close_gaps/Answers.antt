use Rattle.chains.proofs.Chains.{Chain-weaker}
use Rattle.session.specs.Noted.{NotedStep, IsSafeNotedStep}
use Rattle.session.proofs.NotedRounds.{run-noted-open, incoming-opens, run-noted-law, noted-round-fewer}
use Rattle.session.specs.NotedRounds.{IsNotedRoundRun}
use Rattle.session_laws.proofs.RepeatedRounds.{noted-closes, rounds-count, rounds-done}
use Rattle.session_laws.proofs.laws.noted_asks_close_gaps.Goals as goal

pub returns : goal.returns
returns c = record {
  stays = run-noted-open;
  ours = incoming-opens;
  keeps = run-noted-law;
  round = noted-round-fewer;
  all = rounds-count IsNotedRoundRun noted-closes;
  done = rounds-done IsNotedRoundRun noted-closes;
  safe = Chain-weaker IsSafeNotedStep NotedStep (λ S x v S' s. s.allowed);
}
