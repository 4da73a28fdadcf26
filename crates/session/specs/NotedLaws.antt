-- The laws of sessions that note what they ask for, and of the replay of a conversion.
use Rattle.std.specs.Prelude.{◌≡◌, ◌≢◌, ℕ, List, [], ◌∷◌}
use Rattle.std.specs.List.{All, AllZip, AllByRecursion}
use Rattle.wire.specs.declared.form.Direction.TheVariants.{In, Out}
use Rattle.wire.specs.declared.frame.Frame.{Frame as FrameRead}
use Rattle.wire.specs.declared.message.Ask.{Ask as Asked}
use Rattle.wire.specs.declared.message.Message.{Message as Sent}
use Rattle.wire.specs.Meaning.{Means}
use Rattle.wire.specs.Records.{Directed, MeansDirected, messages_in, directed_messages}
use Rattle.wire.specs.Conversion.{conversion, converted_messages}
use Rattle.session.specs.declared.verdict.Verdict.{Verdict as Said}
use Rattle.session.specs.declared.verdict.Verdict.TheVariants.{HashRefused}
use Rattle.partial_tree.specs.declared.refusal.HashRefusal.TheVariants.{NoMemory}
use Rattle.chains.specs.Chain.{Chain}
use Rattle.session.specs.Session.{SessionSeen, HasClosedTrees, HasDistinctRoots, Step}
use Rattle.session.specs.Rounds.{HasNoMoreGaps, AreAtMostGaps, MakeAllKnown}
use Rattle.session.specs.Noted.{IsOpenAsk, asking, NotedStep, IsSafeNotedStep, KeepsOpen}
use Rattle.session.specs.NotedRounds.{HasDirectedHashes, NotedRoundLeavesFewer, IsNotedRoundRun}

-- ---- memory aside

-- the verdicts on what came in
abbrev pub incoming : List (Directed Sent) → List Said → List Said
incoming [] vs = []
incoming (m ∷ ms) [] = []
incoming ((In, m) ∷ ms) (v ∷ vs) = v ∷ incoming ms vs
incoming ((Out, m) ∷ ms) (v ∷ vs) = incoming ms vs

-- memory was refused for no request that went out
abbrev pub AllNoted : List (Directed Sent) → List Said → Type 0
AllNoted [] vs = Unit {0}
AllNoted (m ∷ ms) [] = Unit {0}
AllNoted ((In, m) ∷ ms) (v ∷ vs) = AllNoted ms vs
AllNoted ((Out, m) ∷ ms) (v ∷ vs) = (v ≢ HashRefused NoMemory) × AllNoted ms vs

-- memory was refused for nothing
abbrev pub HadMemory : List Said → Type 0
HadMemory vs = AllByRecursion (λ v. v ≢ HashRefused NoMemory) vs

-- ---- the replay of a conversion

-- if memory was refused for no request, the run of a conversion gives what came in the verdicts of
-- a run of form 1, those out of memory among them, and leaves that run's trees and marks
abbrev pub ConversionRunsAsFormOne : Type 0
ConversionRunsAsFormOne =
    (S : SessionSeen) (ms : List Sent) (vs : List Said) (S' : SessionSeen)
    → Chain NotedStep S (converted_messages ms) vs S' → AllNoted (converted_messages ms) vs
    → Chain Step S ms (incoming (converted_messages ms) vs) (asking S.asks S')

-- each run of form 1 is that of its conversion, whatever asks are open before it
abbrev pub FormOneRunsAsConversion : Type 0
FormOneRunsAsConversion =
    (S : SessionSeen) (ms : List Sent) (vs : List Said) (T : SessionSeen)
    → Chain Step S ms vs T
    → (ws : List Said) × (S' : SessionSeen) × Chain NotedStep S (converted_messages ms) ws S'
    × AllNoted (converted_messages ms) ws × (incoming (converted_messages ms) ws ≡ vs)
    × (asking S.asks S' ≡ T)

-- if memory was refused for no request, what is read of the converted bodies runs as what is read
-- of the bodies, with the same verdicts on what came in, and the same last trees and marks
abbrev pub ConversionReplaysAsFormOne : Type 0
ConversionReplaysAsFormOne = (S : SessionSeen) (bodies : List (List ℕ))
    (fs : List FrameRead) (gs : List (Directed FrameRead)) (vs : List Said) (S' : SessionSeen)
    → AllZip Means bodies fs → AllZip MeansDirected (conversion bodies) gs
    → Chain NotedStep S (directed_messages gs) vs S' → AllNoted (directed_messages gs) vs
    → Chain Step S (messages_in fs) (incoming (directed_messages gs) vs) (asking S.asks S')

-- with memory for all, the messages and the state determine the verdicts and the last state
abbrev pub OneRunWithMemory : Type 0
OneRunWithMemory = (S : SessionSeen) → HasDistinctRoots S
    → (ms : List Sent) (vs ws : List Said) (S' T : SessionSeen)
    → Chain Step S ms vs S' → Chain Step S ms ws T → HadMemory vs → HadMemory ws
    → (vs ≡ ws) × (S' ≡ T)

-- with memory for all, a conversion gives what came in the verdicts of form 1, in order, and the
-- same last trees and marks
abbrev pub ConversionGivesTheSame : Type 0
ConversionGivesTheSame = (S : SessionSeen) → HasDistinctRoots S → (bodies : List (List ℕ))
    (fs : List FrameRead) (gs : List (Directed FrameRead)) (vs ws : List Said) (T S' : SessionSeen)
    → AllZip Means bodies fs → AllZip MeansDirected (conversion bodies) gs
    → Chain Step S (messages_in fs) vs T → HadMemory vs
    → Chain NotedStep S (directed_messages gs) ws S' → HadMemory ws
    → (incoming (directed_messages gs) ws ≡ vs) × (asking S.asks S' ≡ T)

-- ---- poison does no harm to one who notes

-- a noted ask is open until the hashes of its base range are known
abbrev pub NotedStaysOpen : Type 0
NotedStaysOpen = (S : SessionSeen) (ms : List (Directed Sent)) (vs : List Said) (S' : SessionSeen)
    → Chain NotedStep S ms vs S' → KeepsOpen S S'

-- what came in opens no ask
abbrev pub IncomingOpensNothing : Type 0
IncomingOpensNothing =
    (S : SessionSeen) (ms : List Sent) (vs : List Said) (S' : SessionSeen)
    → Chain (λ s m v s'. NotedStep s (In, m) v s') S ms vs S' → (ask : Asked) → IsOpenAsk S' ask
    → IsOpenAsk S ask

-- a run keeps all trees closed, and leaves no tree with more gaps
abbrev pub NotedRunKeeps : Type 0
NotedRunKeeps =
    (S : SessionSeen) (ms : List (Directed Sent)) (vs : List Said) (S' : SessionSeen)
    → HasClosedTrees S → All HasDirectedHashes ms → Chain NotedStep S ms vs S'
    → HasClosedTrees S' × HasNoMoreGaps S S'

-- a run over a round leaves fewer gaps, unless memory was refused for its answer or for noting its
-- request, or a collision is named
abbrev pub NotedRoundsCloseGaps : Type 0
NotedRoundsCloseGaps = (S : SessionSeen) → HasDistinctRoots S
    → (ms : List (Directed Sent)) (vs : List Said) (S' : SessionSeen)
    → HasClosedTrees S → All HasDirectedHashes ms
    → Chain NotedStep S ms vs S' → NotedRoundLeavesFewer S ms vs S'

-- k rounds, one after the other, leave k gaps fewer, or a collision is named
abbrev pub NotedRoundsAreAtMostGaps : Type 0
NotedRoundsAreAtMostGaps = AreAtMostGaps IsNotedRoundRun

-- after as many rounds as there were gaps each block's leaf is known, or a collision is named
abbrev pub NotedRoundsMakeAllKnown : Type 0
NotedRoundsMakeAllKnown = MakeAllKnown IsNotedRoundRun

-- a run of safe steps, as `Session::run_noted` gives it, is such a run
abbrev pub SafeNotedRunIsRun : Type 0
SafeNotedRunIsRun =
    (S : SessionSeen) (ms : List (Directed Sent)) (vs : List Said) (S' : SessionSeen)
    → Chain IsSafeNotedStep S ms vs S' → Chain NotedStep S ms vs S'
