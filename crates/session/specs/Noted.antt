-- A session that notes what it asks for, and takes hashes only in answer to an open ask (BEP 52,
-- "hash request" and "hashes").
use Rattle.std.specs.Prelude.{◌≡◌, ◌⊎◌, ℕ, ◌+◌, ◌<◌, true, List, ⊤}
use Rattle.std.specs.FinSet as finite
use Rattle.wire.specs.declared.form.Direction.TheVariants.{In, Out}
use Rattle.wire.specs.declared.message.Ask.{Ask}
use Rattle.wire.specs.declared.message.Message.{Message}
use Rattle.wire.specs.declared.message.Message.TheVariants as message
use Rattle.wire.specs.Records.{Directed}
use Rattle.partial_tree.specs.declared.refusal.HashRefusal.{HashRefusal}
use Rattle.partial_tree.specs.declared.refusal.HashRefusal.TheVariants.{NoMemory, Unasked}
use Rattle.node_maps.specs.Digest.{Hash}
use Rattle.node_maps.specs.Places.{IsKnown}
use Rattle.node_maps.specs.Known.{look}
use Rattle.session.specs.declared.verdict.Verdict.{Verdict}
use Rattle.session.specs.declared.verdict.Verdict.TheVariants as verdict
use Rattle.session.specs.Asks.{AskSet}
use Rattle.session.specs.Session.{SessionSeen, IsAsked, IsStored, IsHashRefused, Step}
use Rattle.session.specs.SafeStep.{KeepsKnown, IsSafeStep}

-- a request of our own for this went out, and no hashes have answered it yet
abbrev pub IsOpenAsk : SessionSeen → Ask → Type 0
IsOpenAsk S ask = finite.contains S.asks ask ≡ true

-- a session with the same trees, whose open asks are the same and this one
abbrev pub with_ask : SessionSeen → Ask → SessionSeen
with_ask S ask = record S { asks = finite.insert S.asks ask }

-- a session with the same trees, whose open asks are the same but for this one
abbrev pub without_ask : SessionSeen → Ask → SessionSeen
without_ask S ask = record S { asks = finite.remove S.asks ask }

-- the same trees and marks, while these asks are open
abbrev pub asking : AskSet → SessionSeen → SessionSeen
asking asks S = record S { asks = asks }

-- the hashes answer an open ask: what they claim is joined to its tree, with c more places, and the
-- ask is closed
pub record IsAnswerStored (S : SessionSeen) (ask : Ask) (hashes : List Hash) (c : ℕ)
    (S' : SessionSeen) : Type 0 where
  pub was_open : IsOpenAsk S ask
  pub joined : SessionSeen
  pub stored : IsStored S ask hashes c joined
  pub state_after : S' ≡ without_ask joined ask

-- nobody asked for the hashes; or somebody did, and r is why they are refused
abbrev pub IsAnswerRefused : SessionSeen → Ask → List Hash → HashRefusal → Type 0
IsAnswerRefused S ask hashes Unasked = ¬ IsOpenAsk S ask
IsAnswerRefused S ask hashes r = IsOpenAsk S ask × IsHashRefused S ask hashes r

-- a message that came in: hashes are taken if their ask is open; all else is a step
abbrev pub StepIn : SessionSeen → Message → Verdict → SessionSeen → Type 0
StepIn S (message.Hashes ask hashes) (verdict.Stored c) S' =
    IsAnswerStored S ask hashes.now c S'
StepIn S (message.Hashes ask hashes) (verdict.HashRefused r) S' =
    IsAnswerRefused S ask hashes.now r × (S' ≡ S)
StepIn S m v S' = Step S m v S'

-- a message that went out: the ask of a request is open from then on, unless it was not and memory
-- is refused for it
abbrev pub StepOut : SessionSeen → Message → Verdict → SessionSeen → Type 0
StepOut S (message.Request ask) verdict.Noted S' = S' ≡ with_ask S ask
StepOut S (message.Request ask) (verdict.HashRefused NoMemory) S' = ¬ IsOpenAsk S ask × (S' ≡ S)
StepOut S (message.Request ask) v S' = ⊥
StepOut S m verdict.Sent S' = S' ≡ S
StepOut S m v S' = ⊥

-- from the state S the message, which came in or went out, may get the verdict v and leave S'
abbrev pub NotedStep : SessionSeen → Directed Message → Verdict → SessionSeen → Type 0
NotedStep S (In, m) v S' = StepIn S m v S'
NotedStep S (Out, m) v S' = StepOut S m v S'

-- ---- what each step keeps

-- hashes are awaited if their ask is open, and each other message is
abbrev pub IsAwaited : SessionSeen → Message → Type 0
IsAwaited S (message.Hashes ask hashes) = IsOpenAsk S ask
IsAwaited S m = ⊤

-- the hashes that are asked for are known, so far as the base range goes
pub record IsBaseKnown (S : SessionSeen) (ask : Ask) : Type 0 where
  pub asked : IsAsked S ask
  pub known : (j : ℕ) → j < ask.length → IsKnown (look asked.state.known) ask.base (ask.index + j)

-- no ask is opened by what came in
abbrev pub OpensOnlyOurs : SessionSeen → Directed Message → SessionSeen → Type 0
OpensOnlyOurs S (In, m) S' = (ask : Ask) → IsOpenAsk S' ask → IsOpenAsk S ask
OpensOnlyOurs S (Out, m) S' = Unit {0}

-- an open ask stays open until its base range is known
abbrev pub KeepsOpen : SessionSeen → SessionSeen → Type 0
KeepsOpen S S' = (ask : Ask) → IsOpenAsk S ask → IsOpenAsk S' ask ⊎ IsBaseKnown S' ask

-- What came in makes a safe step but for the open asks, if it is awaited. What is known stays,
-- whatever came in or went out; nobody else opens an ask, or closes it without its answer.
pub record IsSafeNotedStep (S : SessionSeen) (x : Directed Message) (v : Verdict)
    (S' : SessionSeen) : Type 0 where
  pub allowed : NotedStep S x v S'
  pub known_stays : KeepsKnown S S'
  pub is_safe : (m : Message) → x ≡ (In, m) → IsAwaited S m → IsSafeStep S m v (asking S.asks S')
  pub opens_only_ours : OpensOnlyOurs S x S'
  pub keeps_open : KeepsOpen S S'
