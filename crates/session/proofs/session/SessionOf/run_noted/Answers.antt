use Rattle.std.proofs.Common.{◌≡◌, ◌+◌, List, take, sym, subst, arith}
use Rattle.std.specs.List.{All}
use Rattle.std.proofs.lemmas.List.{take_all}
use Rattle.wire.specs.declared.message.Message.{Message}
use Rattle.wire.specs.Records.{Directed}
use Rattle.session.specs.declared.verdict.Verdict.{Verdict}
use Rattle.chains.specs.Chain.{Chain}
use Rattle.session.specs.Noted.{NotedStep, IsSafeNotedStep}
use Rattle.session.specs.NotedRounds.{HasDirectedHashes}
use Rattle.chains.proofs.Cases.{All-next}
use Rattle.chains.proofs.Chains.{Chain-next, Chain-weaker}
use Rattle.session.proofs.NotedRounds.{run-noted-gaps, run-noted-open, noted-round-fewer}
use Rattle.session.proofs.session.SessionOf.run_noted.Goals as goal

pub messages-preserved : goal.messages-preserved
messages-preserved g c = record {
  run = subst (λ (vs : List Verdict). Chain IsSafeNotedStep c.args.self.now (take (c.messages.direction-index + 1) c.args.messages.now) vs
      c.step_noted.new.self) (sym c.push_reserved.ensures.items)
      (Chain-next IsSafeNotedStep c.args.self.now c.messages.self c.step_noted.new.self c.args.messages.now c.messages.direction-index c.messages.verdicts.items
      _ c.step_noted.result
      c.messages-test.true c.messages.invariant.run c.step_noted.ensures.is_safe);
  hashes = All-next HasDirectedHashes c.args.messages.now c.messages.direction-index _ c.messages-test.true c.messages.invariant.hashes
      c.recall_message_hashes.ensures;
  stated = omega (arith, c.push_reserved.ensures.len, c.messages.invariant.stated);
  room = omega (arith, c.push_reserved.ensures.capacity, c.messages.invariant.room);
}

pub returns-clause-is_safe : goal.returns-clause-is_safe
returns-clause-is_safe g c =
    let whole : take c.messages.direction-index c.args.messages.now ≡ c.args.messages.now = take_all c.messages.direction-index c.args.messages.now
    c.messages-test.false in
    subst (λ (ms : List (Directed Message)). Chain IsSafeNotedStep c.args.self.now ms c.messages.verdicts.items c.messages.self) whole c.messages.invariant.run

pub returns-clause-gaps : goal.returns-clause-gaps
returns-clause-gaps g c =
    run-noted-gaps c.args.self.now c.args.messages.now c.messages.verdicts.items c.messages.self
    (Chain-weaker IsSafeNotedStep NotedStep (λ S m v S' s. s.allowed) c.args.self.now c.args.messages.now c.messages.verdicts.items c.messages.self
    (returns-clause-is_safe g c))

pub returns-clause-keeps_open : goal.returns-clause-keeps_open
returns-clause-keeps_open g c =
    run-noted-open c.args.self.now c.args.messages.now c.messages.verdicts.items c.messages.self
    (Chain-weaker IsSafeNotedStep NotedStep (λ S m v S' s. s.allowed) c.args.self.now c.args.messages.now c.messages.verdicts.items c.messages.self
    (returns-clause-is_safe g c))

pub returns-clause-round : goal.returns-clause-round
returns-clause-round g c =
    let whole : take c.messages.direction-index c.args.messages.now ≡ c.args.messages.now = take_all c.messages.direction-index c.args.messages.now
    c.messages-test.false in
    noted-round-fewer c.args.self.now c.recall_distinct_roots.ensures c.args.messages.now c.messages.verdicts.items c.messages.self
    c.recall_closed_trees.ensures
    (subst (All HasDirectedHashes) whole c.messages.invariant.hashes)
    (Chain-weaker IsSafeNotedStep NotedStep (λ S m v S' s. s.allowed) c.args.self.now c.args.messages.now c.messages.verdicts.items c.messages.self
    (returns-clause-is_safe g c))
