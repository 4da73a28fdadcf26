-- Rounds of calls of any kind, one after the other: messages, whole layers and trees, pieces.
use Rattle.std.specs.Prelude.{◌≢◌, ℕ, List}
use Rattle.std.specs.Borrow.{Bor}
use Rattle.wire.specs.declared.message.Ask.{Ask}
use Rattle.wire.specs.declared.message.Message.{Message as Sent}
use Rattle.wire.specs.declared.message.Message.TheVariants as message
use Rattle.partial_tree.specs.declared.refusal.HashRefusal.TheVariants.{NoMemory}
use Rattle.session.specs.declared.verdict.Verdict.{Verdict as Said}
use Rattle.session.specs.declared.verdict.Verdict.TheVariants as verdict
use Rattle.node_maps.specs.Digest.{Hash}
use Rattle.session.specs.Session.{SessionSeen, HasHashes, Step}
use Rattle.chains.specs.Chain.{Chain}
use Rattle.session.specs.SafeStep.{KeepsKnown, IsSafeStep}
use Rattle.session.specs.Wanted.{IsWantedAnswer}
use Rattle.session.specs.Rounds.{IsLater, AreAtMostGaps, MakeAllKnown}

-- calls and then calls are calls
abbrev pub CallsJoin : Type 0
CallsJoin = (S M S' : SessionSeen) → IsLater S M → IsLater M S' → IsLater S S'

-- a run keeps what is known, as each of its steps does
abbrev pub SafeRunKeepsKnown : Type 0
SafeRunKeepsKnown = (S : SessionSeen) (ms : List Sent) (vs : List Said) (S' : SessionSeen)
    → Chain IsSafeStep S ms vs S' → KeepsKnown S S'

-- calls, the last of which brings the true answer for f to an ask that was wanted of tree n in a
-- state between them, with memory for it
pub record IsCallRound (n : ℕ) (f : List ℕ) (S S' : SessionSeen) : Type 0 where
  pub wanting : SessionSeen
  pub until_wanted : IsLater S wanting
  pub ask : Ask
  pub answer : Bor (List Hash)
  pub wants : IsWantedAnswer wanting n f ask answer.now
  pub before : SessionSeen
  pub until_answered : IsLater wanting before
  pub hashes : HasHashes (message.Hashes ask answer)
  pub said : Said
  pub step : Step before (message.Hashes ask answer) said S'
  pub memory : said ≢ verdict.HashRefused NoMemory

-- k rounds of any calls, one after the other, leave k gaps fewer, or a collision is named
abbrev pub CallRoundsAreAtMostGaps : Type 0
CallRoundsAreAtMostGaps = AreAtMostGaps IsCallRound

-- after as many of them as there were gaps each block's leaf is known, or a collision is named
abbrev pub CallRoundsMakeAllKnown : Type 0
CallRoundsMakeAllKnown = MakeAllKnown IsCallRound
