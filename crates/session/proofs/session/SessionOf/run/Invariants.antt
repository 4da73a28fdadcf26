use Rattle.std.proofs.Common.{◌≡◌, ◌≤◌, length, take, vec_len, vec_capacity}
use Rattle.std.specs.List.{All}
use Rattle.session.specs.Session.{HasHashes}
use Rattle.chains.specs.Chain.{Chain}
use Rattle.session.specs.SafeStep.{IsSafeStep}
use Rattle.session.proofs.session.SessionOf.run.Given as goal

-- the messages so far are a run that does no harm, and the verdicts of the rest have room
abbrev pub invariant-messages : goal.invariant-messages
invariant-messages g l = record {
  run : Chain IsSafeStep l.fn.self (take l.message-index l.messages) l.verdicts.items l.self;
  hashes : All HasHashes (take l.message-index l.messages);
  stated : vec_len l.verdicts ≡ l.message-index;
  room : length l.messages ≤ vec_capacity l.verdicts;
}
