use Rattle.chains.proofs.Chains.{Chain-weaker}
use Rattle.session.specs.Session.{Step}
use Rattle.session.specs.SafeStep.{IsSafeStep}
use Rattle.session.proofs.RoundRuns.{run-gaps, round-fewer}
use Rattle.session_laws.proofs.CallRounds.{calls-join, safe-keeps}
use Rattle.session.specs.Rounds.{IsRoundRun}
use Rattle.session_laws.specs.Calls.{IsCallRound}
use Rattle.session_laws.proofs.RepeatedRounds.{run-closes, call-closes, rounds-count, rounds-done}
use Rattle.session_laws.proofs.laws.rounds_close_gaps.Goals as goal

pub returns : goal.returns
returns c = record {
  never_rise = run-gaps;
  round = round-fewer;
  all = rounds-count IsRoundRun run-closes;
  done = rounds-done IsRoundRun run-closes;
  calls = rounds-count IsCallRound call-closes;
  calls_done = rounds-done IsCallRound call-closes;
  joined = calls-join;
  run_keeps = safe-keeps;
  safe = Chain-weaker IsSafeStep Step (λ S m v S' s. s.allowed);
}
