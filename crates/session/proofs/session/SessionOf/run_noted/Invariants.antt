use Rattle.std.proofs.Common.{◌≡◌, ◌≤◌, length, take, vec_len, vec_capacity}
use Rattle.std.specs.List.{All}
use Rattle.chains.specs.Chain.{Chain}
use Rattle.session.specs.Noted.{IsSafeNotedStep}
use Rattle.session.specs.NotedRounds.{HasDirectedHashes}
use Rattle.session.proofs.session.SessionOf.run_noted.Given as goal

-- the messages so far are a run that does no harm, and the verdicts of the rest have room
abbrev pub invariant-messages : goal.invariant-messages
invariant-messages g l = record {
  run : Chain IsSafeNotedStep l.fn.self (take l.direction-index l.messages) l.verdicts.items l.self;
  hashes : All HasDirectedHashes (take l.direction-index l.messages);
  stated : vec_len l.verdicts ≡ l.direction-index;
  room : length l.messages ≤ vec_capacity l.verdicts;
}
