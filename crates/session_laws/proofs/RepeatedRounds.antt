-- Rounds one after the other: the gaps fall at each, and so there are at most as many rounds as gaps.
use Rattle.std.proofs.Common.{◌⊎◌, ℕ, zero, suc, ◌+◌, ◌<◌, ◌≤◌, List, inl, inr, sym, subst, arith}
use Rattle.hashtree.specs.Tree.{block_count}
use Rattle.node_maps.specs.Known.{look}
use Rattle.node_maps.specs.Places.{IsKnown}
use Rattle.partial_tree.specs.TreeRoot.{TreeRoot}
use Rattle.partial_tree.specs.Closed.{whole}
use Rattle.partial_tree.specs.Gaps.{gaps}
use Rattle.tree_laws.proofs.Wanted.{gaps-none}
use Rattle.session.specs.Session.{SessionSeen, TreeState, IsTree, HasClosedTrees, HasDistinctRoots, HasFewerGaps}
use Rattle.session.specs.SafeStep.{KeepsKnown}
use Rattle.session.specs.Rounds.{IsLater, IsRoundRun, Repeated, Collides, AreAtMostGaps, MakeAllKnown}
use Rattle.session.specs.NotedRounds.{IsNotedRoundRun}
use Rattle.session_laws.specs.Calls.{IsCallRound}
use Rattle.session_laws.proofs.CallRounds.{same-gaps, call-later, call-fewer}
use Rattle.session.proofs.OneTree.{keeps-same, keeps-then}
use Rattle.session.proofs.Rounds.{collision-keeps}
use Rattle.session.proofs.RoundRuns.{run-later, round-fewer}
use Rattle.session.proofs.NotedRounds.{run-noted-later, noted-round-fewer}

-- ---- runs of any kind that close gaps

-- what a run of this kind does: tree n has fewer gaps after it, or a collision is named
pub record ClosesGaps (n : ℕ) (f : List ℕ) (R : SessionSeen → SessionSeen → Type 0) : Type 0 where
  later : (S M : SessionSeen) → HasClosedTrees S → HasDistinctRoots S → R S M → IsLater S M
  fewer : (S M : SessionSeen) → HasClosedTrees S → HasDistinctRoots S → R S M → (tree : TreeRoot) (s : TreeState) → IsTree S n tree s
      → HasFewerGaps M n tree (look s.known) ⊎ Collides M n f

module _ (n : ℕ) (f : List ℕ) (R : SessionSeen → SessionSeen → Type 0) (kind : ClosesGaps n f R) where
  repeated-keeps : (k : ℕ) (S S' : SessionSeen) → HasClosedTrees S → HasDistinctRoots S → Repeated R k S S' → KeepsKnown S S'
  repeated-keeps zero S S' closed distinct e = keeps-same S S' e
  repeated-keeps (suc k) S S' closed distinct (M, r, rest) =
      let on : IsLater S M = kind.later S M closed distinct r in
      keeps-then S M S' on.keeps (repeated-keeps k M S' on.closed on.distinct rest)

  repeated-count : (k : ℕ) (S S' : SessionSeen) → HasDistinctRoots S → HasClosedTrees S → Repeated R k S S' → (tree : TreeRoot) (s : TreeState)
      → IsTree S n tree s
      → ((later : TreeState) × IsTree S' n tree later × (gaps tree.length (look later.known) + k ≤ gaps tree.length (look s.known))) ⊎ Collides S' n f
  repeated-count zero S S' distinct closed e tree s at = inl (s, subst (λ U. IsTree U n tree s) (sym e) at, omega arith)
  repeated-count (suc k) S S' distinct closed (M, r, rest) tree s at =
      let on : IsLater S M = kind.later S M closed distinct r in
      elim (kind.fewer S M closed distinct r tree s at) [
        | inr (tr, m, m_at, collision) ↦
            let (last, last_at, keeps) = repeated-keeps k M S' on.closed on.distinct rest n tr m m_at in
            inr (tr, last, last_at, collision-keeps (whole f) (look m.known) (look last.known) keeps collision)
        | inl (m, m_at, fewer) ↦
            elim (repeated-count k M S' on.distinct on.closed rest tree m m_at) [
              | inl (later, later_at, le) ↦ inl (later, later_at, omega arith)
              | inr collides ↦ inr collides
            ]
      ]

  repeated-done : (S S' : SessionSeen) → HasDistinctRoots S → HasClosedTrees S → (tree : TreeRoot) (s : TreeState) → IsTree S n tree s
      → Repeated R (gaps tree.length (look s.known)) S S'
      → ((later : TreeState) × IsTree S' n tree later × ((b : ℕ) → b < block_count tree.length → IsKnown (look later.known) 0 b)) ⊎ Collides S' n f
  repeated-done S S' distinct closed tree s at rounds = elim (repeated-count (gaps tree.length (look s.known)) S S' distinct closed rounds tree s at) [
    | inl (later, later_at, le) ↦ inl (later, later_at, λ b inside. gaps-none tree.length (look later.known) (omega arith) b inside)
    | inr collides ↦ inr collides
  ]

module _ (R : ℕ → List ℕ → SessionSeen → SessionSeen → Type 0) (kind : (n : ℕ) (f : List ℕ) → ClosesGaps n f (R n f)) where
  pub rounds-count : AreAtMostGaps R
  rounds-count S S' distinct n f k closed rounds tree s at = repeated-count n f (R n f) (kind n f) k S S' distinct closed rounds tree s at

  pub rounds-done : MakeAllKnown R
  rounds-done S S' distinct n f tree s closed at rounds = repeated-done n f (R n f) (kind n f) S S' distinct closed tree s at rounds

-- ---- so do runs of form 1, runs that note what they ask for, and calls of any kind

pub run-closes : (n : ℕ) (f : List ℕ) → ClosesGaps n f (IsRoundRun n f)
run-closes n f = record {
  later = λ S M closed distinct r. run-later S closed distinct r.messages r.verdicts M r.hashes r.run;
  fewer = λ S M closed distinct r tree s at. elim (round-fewer S distinct r.messages r.verdicts M closed r.hashes r.run n f r.round) [
    | inl fewer ↦ inl (same-gaps r.round.wants.is_tree at fewer)
    | inr (inl lacks) ↦ absurd (r.memory lacks)
    | inr (inr collides) ↦ inr collides
  ];
}

pub noted-closes : (n : ℕ) (f : List ℕ) → ClosesGaps n f (IsNotedRoundRun n f)
noted-closes n f = record {
  later = λ S M closed distinct r. run-noted-later S closed distinct r.messages r.verdicts M r.hashes r.run;
  fewer = λ S M closed distinct r tree s at. elim (noted-round-fewer S distinct r.messages r.verdicts M closed r.hashes r.run n f r.round) [
    | inl fewer ↦ inl (same-gaps r.round.wants.is_tree at fewer)
    | inr (inl lacks) ↦ absurd (r.memory lacks)
    | inr (inr (inl lacks)) ↦ absurd (r.memory_to_note lacks)
    | inr (inr (inr collides)) ↦ inr collides
  ];
}

pub call-closes : (n : ℕ) (f : List ℕ) → ClosesGaps n f (IsCallRound n f)
call-closes n f = record {
  later = λ S M closed distinct r. call-later n f S M r;
  fewer = λ S M closed distinct r tree s at. call-fewer n f S M r tree s at;
}
