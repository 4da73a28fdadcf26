-- Rounds: messages that end with the true answer to what was wanted before them.
use Rattle.std.specs.Prelude.{◌≡◌, ◌⊎◌, ℕ, zero, suc, ◌+◌, ◌<◌, ◌≤◌, List, [], ◌∷◌, ◌++◌}
use Rattle.std.specs.Borrow.{Bor}
use Rattle.std.specs.List.{All}
use Rattle.wire.specs.declared.message.Ask.{Ask}
use Rattle.wire.specs.declared.message.Message.{Message}
use Rattle.wire.specs.declared.message.Message.TheVariants as message
use Rattle.partial_tree.specs.declared.refusal.HashRefusal.TheVariants.{NoMemory}
use Rattle.session.specs.declared.verdict.Verdict.{Verdict}
use Rattle.session.specs.declared.verdict.Verdict.TheVariants as verdict
use Rattle.node_maps.specs.Digest.{Hash}
use Rattle.partial_tree.specs.TreeRoot.{TreeRoot}
use Rattle.partial_tree.specs.Closed.{Collision, whole}
use Rattle.partial_tree.specs.Gaps.{gaps}
use Rattle.node_maps.specs.Known.{look}
use Rattle.node_maps.specs.Places.{IsKnown}
use Rattle.hashtree.specs.Tree.{block_count}
use Rattle.session.specs.Session.{SessionSeen, TreeState, IsTree, HasClosedTrees, HasDistinctRoots, HasFewerGaps, HasHashes, Step}
use Rattle.session.specs.SafeStep.{KeepsKnown}
use Rattle.session.specs.Wanted.{IsWantedAnswer}
use Rattle.chains.specs.Chain.{Chain}

-- what every call that changes a session says of it, and so what any number of them do: each tree
-- is closed, the roots differ, and what was known is known
pub record IsLater (S S' : SessionSeen) : Type 0 where
  pub closed : HasClosedTrees S'
  pub distinct : HasDistinctRoots S'
  pub keeps : KeepsKnown S S'

-- messages that end with the true answer for f to an ask that was wanted of tree n before the
-- first
pub record IsRound (S : SessionSeen) (n : ℕ) (f : List ℕ) (ms : List Message) : Type 0 where
  pub ask : Ask
  pub answer : Bor (List Hash)
  pub wants : IsWantedAnswer S n f ask answer.now
  pub before : List Message
  pub ends : ms ≡ before ++ message.Hashes ask answer ∷ []

-- memory was refused for the last message
abbrev pub LacksMemoryAtLast : List Verdict → Type 0
LacksMemoryAtLast vs =
    (earlier : List Verdict) × (vs ≡ earlier ++ verdict.HashRefused NoMemory ∷ [])

-- f and what is known of tree n name a collision
abbrev pub Collides : SessionSeen → ℕ → List ℕ → Type 0
Collides S n f =
    (tree : TreeRoot) × (s : TreeState) × IsTree S n tree s × Collision (whole f) (look s.known)

-- each tree has at most the gaps that it had
abbrev pub HasNoMoreGaps : SessionSeen → SessionSeen → Type 0
HasNoMoreGaps S S' = (n : ℕ) (tree : TreeRoot) (s : TreeState) → IsTree S n tree s
    → (later : TreeState) × IsTree S' n tree later
    × (gaps tree.length (look later.known) ≤ gaps tree.length (look s.known))

-- if the messages are a round, the gaps are fewer than before it, or memory was refused for its
-- answer, or a collision is named
abbrev pub RoundLeavesFewer : SessionSeen → List Message → List Verdict → SessionSeen → Type 0
RoundLeavesFewer S ms vs S' = (n : ℕ) (f : List ℕ) (round : IsRound S n f ms)
    → HasFewerGaps S' n round.wants.tree (look round.wants.state.known)
    ⊎ (LacksMemoryAtLast vs ⊎ Collides S' n f)

-- a run over a round, with memory for its answer
pub record IsRoundRun (n : ℕ) (f : List ℕ) (S S' : SessionSeen) : Type 0 where
  pub messages : List Message
  pub verdicts : List Verdict
  pub hashes : All HasHashes messages
  pub round : IsRound S n f messages
  pub run : Chain Step S messages verdicts S'
  pub memory : ¬ LacksMemoryAtLast verdicts

-- k runs of this kind, one after the other
abbrev pub Repeated : (SessionSeen → SessionSeen → Type 0) → ℕ → SessionSeen → SessionSeen → Type 0
Repeated R zero S S' = S' ≡ S
Repeated R (suc k) S S' = (M : SessionSeen) × R S M × Repeated R k M S'

-- k runs of this kind over rounds for f and tree n, one after the other, leave k gaps fewer, or a
-- collision is named
abbrev pub AreAtMostGaps : (ℕ → List ℕ → SessionSeen → SessionSeen → Type 0) → Type 0
AreAtMostGaps R = (S S' : SessionSeen) → HasDistinctRoots S
    → (n : ℕ) (f : List ℕ) (k : ℕ) → HasClosedTrees S → Repeated (R n f) k S S'
    → (tree : TreeRoot) (s : TreeState) → IsTree S n tree s
    → ((later : TreeState) × IsTree S' n tree later
    × (gaps tree.length (look later.known) + k ≤ gaps tree.length (look s.known)))
    ⊎ Collides S' n f

-- after as many of them as there were gaps each block's leaf is known, or a collision is named
abbrev pub MakeAllKnown : (ℕ → List ℕ → SessionSeen → SessionSeen → Type 0) → Type 0
MakeAllKnown R = (S S' : SessionSeen) → HasDistinctRoots S
    → (n : ℕ) (f : List ℕ) (tree : TreeRoot) (s : TreeState) → HasClosedTrees S
    → IsTree S n tree s
    → Repeated (R n f) (gaps tree.length (look s.known)) S S'
    → ((later : TreeState) × IsTree S' n tree later
    × ((b : ℕ) → b < block_count tree.length → IsKnown (look later.known) 0 b))
    ⊎ Collides S' n f
