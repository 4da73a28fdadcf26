-- A round of calls of any kind leaves fewer gaps.
use Rattle.std.proofs.Common.{◌⊎◌, ℕ, ◌<◌, ◌≤◌, List, inl, inr, refl, sym, ◌∙◌, subst₂, arith}
use Rattle.std.proofs.lemmas.Option.{same_Some}
use Rattle.chains.specs.Chain.{Chain}
use Rattle.chains.proofs.Chains.{Chain-within}
use Rattle.wire.specs.declared.message.Message.{Message}
use Rattle.wire.specs.declared.message.Message.TheVariants as message
use Rattle.session.specs.declared.verdict.Verdict.{Verdict}
use Rattle.node_maps.specs.Known.{look}
use Rattle.partial_tree.specs.TreeRoot.{TreeRoot}
use Rattle.partial_tree.specs.Gaps.{gaps}
use Rattle.tree_laws.proofs.Wanted.{gaps-fall}
use Rattle.session.specs.Session.{SessionSeen, TreeState, IsTree, HasFewerGaps}
use Rattle.session.specs.Rounds.{IsLater, Collides}
use Rattle.session.specs.SafeStep.{KeepsKnown, IsSafeStep}
use Rattle.session.proofs.OneTree.{keeps-same, keeps-then}
use Rattle.session.proofs.Runs.{effect, step-closed, step-keeps, step-torrent}
use Rattle.session.proofs.Rounds.{later-distinct, answered-fewer}
use Rattle.session_laws.specs.Calls.{IsCallRound}

-- ---- any number of calls

pub calls-join : (S M S' : SessionSeen) → IsLater S M → IsLater M S' → IsLater S S'
calls-join S M S' a b = record { closed = b.closed; distinct = b.distinct; keeps = keeps-then S M S' a.keeps b.keeps }

pub safe-keeps : (S : SessionSeen) (ms : List Message) (vs : List Verdict) (S' : SessionSeen) → Chain IsSafeStep S ms vs S' → KeepsKnown S S'
safe-keeps = Chain-within IsSafeStep KeepsKnown (λ A. keeps-same A A refl) keeps-then (λ A m v B s. s.known_stays)

-- ---- a round

-- a tree has one number, so the gaps that a round speaks of are those of this tree
pub same-gaps : {S M : SessionSeen} {n : ℕ} {a b : TreeRoot} {s t : TreeState} → IsTree S n a s → IsTree S n b t → HasFewerGaps M n a (look s.known)
    → HasFewerGaps M n b (look t.known)
same-gaps {S} {M} {n} {a} {b} {s} {t} at here fewer =
    subst₂ (λ tr st. HasFewerGaps M n tr (look st.known)) (same_Some a b (sym at.tree_is ∙ here.tree_is)) (same_Some s t (sym at.state_is ∙ here.state_is))
    fewer

module _ (n : ℕ) (f : List ℕ) (S M : SessionSeen) (r : IsCallRound n f S M) where
  pub call-later : IsLater S M
  call-later =
      let last : IsLater r.before M = record {
        closed = step-closed r.before (message.Hashes r.ask r.answer) M r.until_answered.closed r.hashes
            (effect r.before (message.Hashes r.ask r.answer) r.said M r.step);
        distinct = later-distinct r.before M (step-torrent r.before (message.Hashes r.ask r.answer) r.said M r.step) r.until_answered.distinct;
        keeps = step-keeps r.before (message.Hashes r.ask r.answer) r.said M r.step;
      } in
      calls-join S r.wanting M r.until_wanted (calls-join r.wanting r.before M r.until_answered last)

  pub call-fewer : (tree : TreeRoot) (s : TreeState) → IsTree S n tree s → HasFewerGaps M n tree (look s.known) ⊎ Collides M n f
  call-fewer tree s at =
      let (mid, mid_is, keeps) = r.until_wanted.keeps n tree s at in
      let no_more : gaps tree.length (look mid.known) ≤ gaps tree.length (look s.known) = gaps-fall tree.length (look s.known) (look mid.known) keeps in
      elim (answered-fewer r.wanting r.before M r.until_wanted.closed r.until_answered n f r.ask r.answer r.wants r.said r.memory r.step) [
        | inl fewer ↦
            let (m, m_at, less) = same-gaps r.wants.is_tree mid_is fewer in
            let all : gaps tree.length (look m.known) < gaps tree.length (look s.known) = omega (arith, less, no_more) in
            inl (m, m_at, all)
        | inr collides ↦ inr collides
      ]
