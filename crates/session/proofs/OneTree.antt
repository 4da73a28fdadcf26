-- One tree of a session changes, and the others stay.
use Rattle.std.proofs.Common.{◌≡◌, ℕ, List, set, Some, Result, Ok, Err, IfOk, IfErr, inl, inr, sym, ap, ap₂, ◌∙◌, subst}
use Rattle.std.specs.Prelude.{slice_get}
use Rattle.std.proofs.lemmas.Bool.{cases_eq}
use Rattle.std.proofs.lemmas.Option.{same_Some}
use Rattle.node_maps.specs.Known.{look}
use Rattle.partial_tree.specs.Closed.{Keeps}
use Rattle.partial_tree.specs.TreeRoot.{TreeRoot}
use Rattle.node_maps.specs.Digest.{Hash}
use Rattle.partial_tree.specs.declared.refusal.HashRefusal.{HashRefusal}
use Rattle.partial_tree.specs.Fill.{fill_claims}
use Rattle.partial_tree.proofs.Joining.{joined-keeps}
use Rattle.session.specs.Session.{SessionSeen, TreeState, IsTree, IsFilled, IsFillRefused}
use Rattle.session.specs.Layouts.{roots}
use Rattle.session.specs.SafeStep.{KeepsKnown}
use Rattle.session.specs.Rounds.{HasNoMoreGaps}
use Rattle.session.proofs.States.{set-write, set-other}
use Rattle.tree_laws.proofs.Wanted.{gaps-fall}

-- the tree that changed, with its new state
pub tree-after : (S : SessionSeen) (n : ℕ) (tree : TreeRoot) (before after : TreeState) (S' : SessionSeen) → IsTree S n tree before
    → S' ≡ record S { trees = set S.trees n after } → IsTree S' n tree after
tree-after S n tree before after S' at is = record {
  tree_is = ap (λ U. slice_get (roots U) n) is ∙ at.tree_is;
  state_is = ap (λ U. slice_get U.trees n) is ∙ set-write S.trees n after before at.state_is;
}

-- what is known stays known if nothing changes, and through one state after the other
pub keeps-same : (S S' : SessionSeen) → S' ≡ S → KeepsKnown S S'
keeps-same S S' e n tree s at = (s, subst (λ U. IsTree U n tree s) (sym e) at, λ l i v k. k)

pub keeps-then : (S M S' : SessionSeen) → KeepsKnown S M → KeepsKnown M S' → KeepsKnown S S'
keeps-then S M S' first next n tree s at =
    let (mid, mid_is, a) = first n tree s at in
    let (later, later_is, b) = next n tree mid mid_is in
    (later, later_is, λ l i v k. b l i v (a l i v k))

-- if it keeps what it knows, so does the session
pub one-keeps : (S : SessionSeen) (n : ℕ) (before after : TreeState) (S' : SessionSeen) → slice_get S.trees n ≡ Some before
    → S' ≡ record S { trees = set S.trees n after } → Keeps (look before.known) (look after.known) → KeepsKnown S S'
one-keeps S n before after S' there is keeps k tree s at = elim (cases_eq k n) [
  | inl same ↦
      let state : before ≡ s = same_Some before s (sym there ∙ sym (ap (slice_get S.trees) same) ∙ at.state_is) in (
        after,
        record {
          tree_is = ap (λ U. slice_get (roots U) k) is ∙ at.tree_is;
          state_is = ap₂ (λ U i. slice_get U.trees i) is same ∙ set-write S.trees n after before there;
        },
        subst (λ (st : TreeState). Keeps (look st.known) (look after.known)) state keeps,
      )
  | inr other ↦ (
    s,
    record {
      tree_is = ap (λ U. slice_get (roots U) k) is ∙ at.tree_is;
      state_is = ap (λ U. slice_get U.trees k) is ∙ set-other S.trees n k after s other at.state_is;
    },
    λ l i v known. known,
  )
]

-- a session that keeps what it knows has no more gaps
pub gaps-after : (S S' : SessionSeen) → KeepsKnown S S' → HasNoMoreGaps S S'
gaps-after S S' keeps n tree s at =
    let later = keeps n tree s at in
    (later.0, later.1, gaps-fall tree.length (look s.known) (look later.0.known) later.2)

-- a layer keeps what is known
pub fill-keeps : (S : SessionSeen) (n layer : ℕ) (hashes : List Hash) (S' : SessionSeen) (r : Result ℕ HashRefusal)
    → IfOk r (λ c. IsFilled S n layer hashes c S') → IfErr r (λ x. IsFillRefused S n layer hashes x × (S' ≡ S)) → KeepsKnown S S'
fill-keeps S n layer hashes S' (Err x) filled refused = keeps-same S S' refused.1
fill-keeps S n layer hashes S' (Ok c) h refused = one-keeps S n h.before h.after S' h.is_tree.state_is h.state_after
    (λ l i v known. h.taken.1.joined_is l i ∙ joined-keeps (look h.before.known) (fill_claims h.tree.length layer hashes) l i v known)
