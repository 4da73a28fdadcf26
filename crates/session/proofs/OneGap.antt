-- The true answer to what is wanted leaves exactly one gap fewer.
use Rattle.std.proofs.Common.{◌≡◌, ℕ, ◌≤◌, Result, Ok, Err, IfOk, IfErr, List, None, inl, inr, sym, ap, ◌∙◌, subst}
use Rattle.wire.specs.declared.message.Ask.{Ask}
use Rattle.partial_tree.specs.declared.refusal.HashRefusal.{HashRefusal}
use Rattle.partial_tree.specs.declared.refusal.HashRefusal.TheVariants.{NoMemory}
use Rattle.node_maps.specs.Digest.{Hash}
use Rattle.node_maps.specs.Known.{look}
use Rattle.node_maps.specs.Places.{tree_height}
use Rattle.partial_tree.specs.Closed.{IsClosed, whole}
use Rattle.partial_tree.specs.Claims.{IsAccepted, answer_of}
use Rattle.partial_tree.specs.Gaps.{want_ask}
use Rattle.tree_laws.proofs.Wanted.{true_answer-accepted}
use Rattle.session.specs.Session.{SessionSeen, HasClosedTrees, HasDistinctRoots, IsStored, IsHashRefused}
use Rattle.session.specs.Wanted.{IsWantedAnswer, HasOneGapFewer, WantedClosesOneGap}
use Rattle.session.proofs.Rounds.{wanted-is, want-tall, stored-one_fewer, only-memory}

module _ (S : SessionSeen) (closed_trees : HasClosedTrees S) (distinct : HasDistinctRoots S) (ask : Ask) (hashes : List Hash) (S' : SessionSeen)
    (n : ℕ) (f : List ℕ) (w : IsWantedAnswer S n f ask hashes) where
  unknown : look w.state.known 0 w.block ≡ None
  unknown = (wanted-is w.tree (look w.state.known) w.block ask w.wanted).0

  ask-is : ask ≡ want_ask w.tree w.block
  ask-is = (wanted-is w.tree (look w.state.known) w.block ask w.wanted).1

  is_closed : IsClosed w.tree (look w.state.known)
  is_closed = closed_trees.closed n w.tree w.state w.is_tree

  tall : 1 ≤ tree_height w.tree.length
  tall = want-tall w.tree (look w.state.known) w.block is_closed w.inside unknown

  module _ (ok : IsAccepted w.tree.length (look w.state.known) (want_ask w.tree w.block)
      (answer_of (tree_height w.tree.length) (whole f) (want_ask w.tree w.block))) where
    accepted : IsAccepted w.tree.length (look w.state.known) (want_ask w.tree w.block) hashes
    accepted =
        subst (IsAccepted w.tree.length (look w.state.known) (want_ask w.tree w.block))
        (sym (w.is_answer ∙ ap (answer_of (tree_height w.tree.length) (whole f)) ask-is)) ok

    stored-closes : (c : ℕ) → IsStored S ask hashes c S' → HasOneGapFewer S' n w.tree (look w.state.known)
    stored-closes c stored =
        stored-one_fewer n w.tree w.block w.inside (look w.state.known) S S' distinct w.state w.is_tree tall (λ l i v e. e)
        unknown hashes accepted c (subst (λ a. IsStored S a hashes c S') ask-is stored) unknown

    refused-only : (r : HashRefusal) → IsHashRefused S ask hashes r → r ≡ NoMemory
    refused-only r refused =
        only-memory n w.tree w.block w.inside (look w.state.known) S S' distinct w.state w.is_tree tall (λ l i v e. e)
        unknown hashes accepted r (subst (λ a. IsHashRefused S a hashes r) ask-is refused)

pub wanted-closes : (S : SessionSeen) → HasClosedTrees S → HasDistinctRoots S → (ask : Ask) (hashes : List Hash)
    (r : Result ℕ HashRefusal) (S' : SessionSeen) → IfOk r (λ c. IsStored S ask hashes c S')
    → IfErr r (λ x. IsHashRefused S ask hashes x × (S' ≡ S)) → WantedClosesOneGap S ask hashes r S'
wanted-closes S closed_trees distinct ask hashes (Ok c) S' stored refused = λ n f w.
    elim (true_answer-accepted w.tree w.block (tall S closed_trees distinct ask hashes S' n f w) w.inside (look w.state.known) f
    (is_closed S closed_trees distinct ask hashes S' n f w) w.fits) [
      | inr collision ↦ inr (inr collision)
      | inl ok ↦ inl (stored-closes S closed_trees distinct ask hashes S' n f w ok c stored)
    ]
wanted-closes S closed_trees distinct ask hashes (Err x) S' stored refused = λ n f w.
    elim (true_answer-accepted w.tree w.block (tall S closed_trees distinct ask hashes S' n f w) w.inside (look w.state.known) f
    (is_closed S closed_trees distinct ask hashes S' n f w) w.fits) [
      | inr collision ↦ inr (inr collision)
      | inl ok ↦ inr (inl (ap Err (refused-only S closed_trees distinct ask hashes S' n f w ok x refused.0)))
    ]
