-- The laws of sessions for one who trusts SHA-256: for every test on inputs within which no two
-- different ones have one digest, nothing is left of the named collisions, if what a session and a
-- file give to SHA-256 passes the test.
use Rattle.std.specs.Prelude.{ℕ, Bool, List, Option, Result}
use Rattle.std.specs.List.{All}
use Rattle.wire.specs.declared.message.Ask.{Ask as Asked}
use Rattle.wire.specs.declared.message.Message.{Message as Sent}
use Rattle.wire.specs.Records.{Directed}
use Rattle.partial_tree.specs.declared.refusal.HashRefusal.{HashRefusal as HashesRefused}
use Rattle.partial_tree.specs.declared.refusal.BlockRefusal.{BlockRefusal as BlockRefused}
use Rattle.session.specs.declared.verdict.Verdict.{Verdict as Said}
use Rattle.node_maps.specs.Digest.{Hash}
use Rattle.partial_tree.specs.Trust.{PassesTest, HasNoCollision, AreInputsOf}
use Rattle.chains.specs.Chain.{Chain}
use Rattle.session.specs.Session.{SessionSeen, IsFileBlock}
use Rattle.session.specs.SafeStep.{StoresTrueHashes, StoresAnswers, TakesTrueBlock, IsSafeStep}
use Rattle.session.specs.Wanted.{WantedClosesOneGap}
use Rattle.session.specs.Rounds.{Collides}
use Rattle.session.specs.Noted.{IsSafeNotedStep}
use Rattle.session.specs.Trusted.{AreJoinsOfTrees, HasBlocksOf, IsTrustedBlock, StoresTrusted, StoresTrustedAnswers, TrustedClosesOneGap, TakesTrustedBlock}
use Rattle.session.specs.Trusted.{IsTrustedStep, IsTrustedNotedStep}

-- a verified block is that block of each file that fits
abbrev pub TrustedBlockIsTheBlock : Type 0
TrustedBlockIsTheBlock = (test : List ℕ → Bool) → HasNoCollision (PassesTest test)
    → (S : SessionSeen) (file b : ℕ) (bytes : List ℕ) → IsFileBlock S file b bytes
    → PassesTest test bytes → AreJoinsOfTrees (PassesTest test) S
    → IsTrustedBlock (PassesTest test) S file b bytes

-- true hashes that lead to a known node are stored, unless memory is refused
abbrev pub TrustedHashesAreStored : Type 0
TrustedHashesAreStored = (test : List ℕ → Bool) → HasNoCollision (PassesTest test)
    → (S : SessionSeen) (ask : Asked) (hashes : List Hash) (r : Result ℕ HashesRefused)
    → StoresTrueHashes S ask hashes r → AreJoinsOfTrees (PassesTest test) S
    → StoresTrusted (PassesTest test) S ask hashes r

-- so is what another session of the torrent answers
abbrev pub TrustedAnswersAreStored : Type 0
TrustedAnswersAreStored = (test : List ℕ → Bool) → HasNoCollision (PassesTest test)
    → (S : SessionSeen) (ask : Asked) (hashes : List Hash) (r : Result ℕ HashesRefused)
    → StoresAnswers S ask hashes r → AreJoinsOfTrees (PassesTest test) S
    → StoresTrustedAnswers (PassesTest test) S ask hashes r

-- the true answer to what is wanted leaves exactly one gap fewer, unless memory is refused for it
abbrev pub TrustedAnswerClosesOneGap : Type 0
TrustedAnswerClosesOneGap = (test : List ℕ → Bool) → HasNoCollision (PassesTest test)
    → (S : SessionSeen) (ask : Asked) (hashes : List Hash) (r : Result ℕ HashesRefused)
    (S' : SessionSeen) → WantedClosesOneGap S ask hashes r S' → AreJoinsOfTrees (PassesTest test) S
    → TrustedClosesOneGap (PassesTest test) S ask hashes r S'

-- the true block of a known leaf is not refused
abbrev pub TrustedBlockIsTaken : Type 0
TrustedBlockIsTaken = (test : List ℕ → Bool) → HasNoCollision (PassesTest test)
    → (S : SessionSeen) (file b : ℕ) (bytes : List ℕ) (r : Option BlockRefused)
    → TakesTrueBlock S file b bytes r → AreJoinsOfTrees (PassesTest test) S
    → TakesTrustedBlock (PassesTest test) S file b bytes r

-- no file and tree collide, so that rounds leave fewer gaps until all is known
abbrev pub TrustedRoundsNameNone : Type 0
TrustedRoundsNameNone = (test : List ℕ → Bool) → HasNoCollision (PassesTest test)
    → (S : SessionSeen) → AreJoinsOfTrees (PassesTest test) S
    → (n : ℕ) (f : List ℕ) → AreInputsOf (PassesTest test) f → ¬ Collides S n f

-- all of this holds at each step of a run, if the blocks of its messages pass, and what is known at
-- its end
abbrev pub TrustedRuns : Type 0
TrustedRuns = (test : List ℕ → Bool) → HasNoCollision (PassesTest test)
    → (S : SessionSeen) (ms : List Sent) (vs : List Said) (S' : SessionSeen)
    → Chain IsSafeStep S ms vs S' → All (HasBlocksOf (PassesTest test)) ms
    → AreJoinsOfTrees (PassesTest test) S' → Chain (IsTrustedStep (PassesTest test)) S ms vs S'

-- so it is where a session notes what it asks for
abbrev pub TrustedNotedRuns : Type 0
TrustedNotedRuns = (test : List ℕ → Bool) → HasNoCollision (PassesTest test)
    → (S : SessionSeen) (ms : List (Directed Sent)) (vs : List Said) (S' : SessionSeen)
    → Chain IsSafeNotedStep S ms vs S' → All (λ x. HasBlocksOf (PassesTest test) x.1) ms
    → AreJoinsOfTrees (PassesTest test) S' → Chain (IsTrustedNotedStep (PassesTest test)) S ms vs S'
