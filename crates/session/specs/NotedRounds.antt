-- Rounds of a session that notes what it asks for: messages that end with the true answer to what
-- was wanted before them, and noted before that answer.
use mathlib.Core.Logic.{inl, inr}
use Rattle.std.specs.Prelude.{◌≡◌, ◌⊎◌, ℕ, List, [], ◌∷◌, ◌++◌, Some, slice_get}
use Rattle.std.specs.Borrow.{Bor}
use Rattle.std.specs.List.{All}
use Rattle.wire.specs.declared.form.Direction.TheVariants.{In, Out}
use Rattle.wire.specs.declared.message.Ask.{Ask}
use Rattle.wire.specs.declared.message.Message.{Message}
use Rattle.wire.specs.declared.message.Message.TheVariants as message
use Rattle.wire.specs.Records.{Directed}
use Rattle.partial_tree.specs.declared.refusal.HashRefusal.TheVariants.{NoMemory}
use Rattle.session.specs.declared.verdict.Verdict.{Verdict}
use Rattle.session.specs.declared.verdict.Verdict.TheVariants as verdict
use Rattle.node_maps.specs.Digest.{Hash}
use Rattle.node_maps.specs.Known.{look}
use Rattle.session.specs.Session.{SessionSeen, HasFewerGaps, HasHashes}
use Rattle.session.specs.Wanted.{IsWantedAnswer}
use Rattle.session.specs.Rounds.{LacksMemoryAtLast, Collides}
use Rattle.session.specs.Noted.{IsOpenAsk, NotedStep}
use Rattle.chains.specs.Chain.{Chain}

-- the hashes of a message have 32 bytes each, in either direction
abbrev pub HasDirectedHashes : Directed Message → Type 0
HasDirectedHashes x = HasHashes x.1

-- message k is our own request for this
abbrev pub IsAskedAt : List (Directed Message) → Ask → ℕ → Type 0
IsAskedAt ms ask k = slice_get ms k ≡ Some (Out, message.Request ask)

-- the ask is open before the first message, or one of them is our request for it
abbrev pub IsAskMade : SessionSeen → List (Directed Message) → Ask → Type 0
IsAskMade S ms ask = IsOpenAsk S ask ⊎ ((k : ℕ) × IsAskedAt ms ask k)

-- messages that end with the true answer for f to an ask that was wanted of tree n before the
-- first, and that was noted before the answer
pub record IsNotedRound (S : SessionSeen) (n : ℕ) (f : List ℕ) (ms : List (Directed Message))
    : Type 0 where
  pub ask : Ask
  pub answer : Bor (List Hash)
  pub wants : IsWantedAnswer S n f ask answer.now
  pub before : List (Directed Message)
  pub ends : ms ≡ before ++ (In, message.Hashes ask answer) ∷ []
  pub noted : IsAskMade S before ask

-- memory was refused for noting the request
abbrev pub LacksMemoryToNote : (S : SessionSeen) (ms : List (Directed Message)) (ask : Ask)
    → IsAskMade S ms ask → List Verdict → Type 0
LacksMemoryToNote S ms ask (inl was_open) vs = ⊥
LacksMemoryToNote S ms ask (inr (k, at)) vs = slice_get vs k ≡ Some (verdict.HashRefused NoMemory)

-- if the messages are a round, the gaps are fewer than before it, or memory was refused for its
-- answer or for noting its request, or a collision is named
abbrev pub NotedRoundLeavesFewer : SessionSeen → List (Directed Message) → List Verdict
    → SessionSeen → Type 0
NotedRoundLeavesFewer S ms vs S' = (n : ℕ) (f : List ℕ) (round : IsNotedRound S n f ms)
    → HasFewerGaps S' n round.wants.tree (look round.wants.state.known) ⊎ (LacksMemoryAtLast vs
    ⊎ (LacksMemoryToNote S round.before round.ask round.noted vs ⊎ Collides S' n f))

-- a run over a round, with memory for its answer and for noting its request
pub record IsNotedRoundRun (n : ℕ) (f : List ℕ) (S S' : SessionSeen) : Type 0 where
  pub messages : List (Directed Message)
  pub verdicts : List Verdict
  pub hashes : All HasDirectedHashes messages
  pub round : IsNotedRound S n f messages
  pub run : Chain NotedStep S messages verdicts S'
  pub memory : ¬ LacksMemoryAtLast verdicts
  pub memory_to_note : ¬ LacksMemoryToNote S round.before round.ask round.noted verdicts
