-- The law of what each run of messages keeps.
use Rattle.std.specs.Prelude.{List}
use Rattle.std.specs.List.{All}
use Rattle.wire.specs.declared.message.Message.{Message as Sent}
use Rattle.session.specs.declared.verdict.Verdict.{Verdict as Said}
use Rattle.session.specs.Session.{SessionSeen, HasClosedTrees, HasHashes, Step, IsTrueStep}
use Rattle.chains.specs.Chain.{Chain}

-- a run keeps all trees closed, and each block that it verifies is the block of every file that
-- fits, or a collision is named
abbrev pub RunKeepsPromises : Type 0
RunKeepsPromises = (S : SessionSeen) (ms : List Sent) (vs : List Said) (S' : SessionSeen)
    → HasClosedTrees S → All HasHashes ms
    → Chain Step S ms vs S' → Chain IsTrueStep S ms vs S' × HasClosedTrees S'
