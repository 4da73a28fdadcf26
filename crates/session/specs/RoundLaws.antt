-- The laws of gaps and rounds over whole runs.
use Rattle.std.specs.Prelude.{◌≡◌, ℕ, ◌<◌, List, None}
use Rattle.std.specs.List.{All}
use Rattle.wire.specs.declared.message.Message.{Message as Sent}
use Rattle.session.specs.declared.verdict.Verdict.{Verdict as Said}
use Rattle.hashtree.specs.Tree.{block_count}
use Rattle.node_maps.specs.Digest.{Hash}
use Rattle.partial_tree.specs.TreeRoot.{TreeRoot as Tree, Fits}
use Rattle.node_maps.specs.Places.{tree_height, PartialTree}
use Rattle.partial_tree.specs.Closed.{IsClosed, whole}
use Rattle.partial_tree.specs.Claims.{top_layer, top_index, answer_of}
use Rattle.partial_tree.specs.Gaps.{gaps, want_ask, want_of}
use Rattle.session.specs.Session.{SessionSeen, HasClosedTrees, HasDistinctRoots, HasHashes, Step}
use Rattle.chains.specs.Chain.{Chain}
use Rattle.session.specs.SafeStep.{IsSafeStep}
use Rattle.session.specs.Rounds.{IsRoundRun, HasNoMoreGaps, RoundLeavesFewer, AreAtMostGaps, MakeAllKnown}

-- if no gap is left, nothing is wanted
abbrev pub NoGapMeansNothingWanted : Type 0
NoGapMeansNothingWanted = (t : Tree) (K : PartialTree) → gaps t.length K ≡ 0
    → (b : ℕ) → b < block_count t.length → want_of t K b ≡ None

-- if nothing is wanted, no gap is left
abbrev pub NothingWantedMeansNoGap : Type 0
NothingWantedMeansNoGap = (t : Tree) (K : PartialTree)
    → ((b : ℕ) → b < block_count t.length → want_of t K b ≡ None) → gaps t.length K ≡ 0

-- the true answer for f to what is wanted for block b
abbrev pub wanted_answer : Tree → List ℕ → ℕ → List Hash
wanted_answer t f b = answer_of (tree_height t.length) (whole f) (want_ask t b)

-- the true answer to what is wanted leads to the root, which each closed tree knows
abbrev pub WantedAnswerLeadsToRoot : Type 0
WantedAnswerLeadsToRoot = (t : Tree) (K : PartialTree) (f : List ℕ) (b : ℕ)
    → IsClosed t K → Fits f t.length t.root → b < block_count t.length → K 0 b ≡ None
    → (top_layer (want_ask t b) (wanted_answer t f b) ≡ tree_height t.length)
    × (top_index (want_ask t b) (wanted_answer t f b) ≡ 0)

-- a run leaves no tree with more gaps
abbrev pub RunGapsNeverRise : Type 0
RunGapsNeverRise = (S : SessionSeen) (ms : List Sent) (vs : List Said) (S' : SessionSeen)
    → Chain Step S ms vs S' → HasNoMoreGaps S S'

-- a run over a round leaves fewer gaps, unless memory was refused for its answer or a collision
-- is named
abbrev pub RoundsCloseGaps : Type 0
RoundsCloseGaps = (S : SessionSeen) → HasDistinctRoots S
    → (ms : List Sent) (vs : List Said) (S' : SessionSeen) → HasClosedTrees S → All HasHashes ms
    → Chain Step S ms vs S' → RoundLeavesFewer S ms vs S'

-- k rounds, one after the other, leave k gaps fewer, or a collision is named
abbrev pub RoundsAreAtMostGaps : Type 0
RoundsAreAtMostGaps = AreAtMostGaps IsRoundRun

-- after as many rounds as there were gaps each block's leaf is known, or a collision is named
abbrev pub RoundsMakeAllKnown : Type 0
RoundsMakeAllKnown = MakeAllKnown IsRoundRun

-- a run of safe steps, as `Session::run` gives it, is a run
abbrev pub SafeRunIsRun : Type 0
SafeRunIsRun = (S : SessionSeen) (ms : List Sent) (vs : List Said) (S' : SessionSeen)
    → Chain IsSafeStep S ms vs S' → Chain Step S ms vs S'
