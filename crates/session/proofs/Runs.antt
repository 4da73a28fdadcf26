-- Runs of a session: its trees stay closed, nothing is lost, and each verified block is the file's.
use Rattle.std.proofs.Common.{◌≡◌, ℕ, List, length, Some, inl, inr, refl, sym, ap, ◌∙◌, subst, subst₂}
use Rattle.std.specs.Prelude.{slice_get}
use Rattle.std.specs.List.{All}
use Rattle.std.specs.FinSet as leaves
use Rattle.std.proofs.lemmas.Option.{same_Some}
use Rattle.std.proofs.lemmas.List.{length-set}
use Rattle.partial_tree.specs.TreeRoot.{TreeRoot}
use Rattle.wire.specs.declared.message.Ask.{Ask}
use Rattle.wire.specs.declared.message.Message.{Message}
use Rattle.wire.specs.declared.message.Message.TheVariants as message
use Rattle.session.specs.declared.verdict.Verdict.{Verdict}
use Rattle.session.specs.declared.verdict.Verdict.TheVariants as verdict
use Rattle.node_maps.specs.Digest.{Hash, IsHash}
use Rattle.partial_tree.specs.Closed.{IsClosed}
use Rattle.partial_tree.specs.Claims.{claims, joined}
use Rattle.node_maps.specs.Known.{Known, look}
use Rattle.session.specs.Session.{SessionSeen, TreeState, HasClosedTrees, IsStored, AreTaken, Step, IsTrueVerdict, IsTrueStep, HasHashes}
use Rattle.session.specs.Blocks.{BlocksSeen}
use Rattle.session.specs.Layouts.{roots}
use Rattle.chains.specs.Chain.{Chain}
use Rattle.partial_tree.proofs.Joining.{joined-closed, joined-keeps}
use Rattle.partial_tree.proofs.Keeping.{closed-same}
use Rattle.session.proofs.States.{set-read}
use Rattle.session.specs.SafeStep.{KeepsKnown}
use Rattle.chains.proofs.Chains.{Chain-kept, Chain-same, Chain-weaker, Chain-with, Chain-within}
use Rattle.session.proofs.OneTree.{one-keeps, keeps-same, keeps-then}
use Rattle.session.proofs.Entries.{Later, AreLater, chain-closed, chain-torrent, chain-known, taken-blocks}

-- what a step does to the state
pub data Effect (S : SessionSeen) (m : Message) (S' : SessionSeen) : Type 0 where
  unchanged : S' ≡ S → Effect S m S'
  stored : (ask : Ask) (hashes : List Hash) (c : ℕ) → (HasHashes m → All IsHash hashes) → IsStored S ask hashes c S' → Effect S m S'
  taken : (index begin : ℕ) (bytes : List ℕ) (v : BlocksSeen) → AreTaken S index begin bytes v S' → Effect S m S'

pub effect : (S : SessionSeen) (m : Message) (v : Verdict) (S' : SessionSeen) → Step S m v S' → Effect S m S'
effect S (message.Hashes ask hashes) (verdict.Stored c) S' h = stored ask hashes.now c (λ x. x) h
effect S (message.Hashes ask hashes) (verdict.HashRefused r) S' h = unchanged h.1
effect S (message.Piece index begin bytes) (verdict.Blocks v) S' h = taken index begin bytes.now v h
effect S (message.Piece index begin bytes) (verdict.BlockRefused r) S' h = unchanged h.1
effect S (message.Request ask) verdict.Answered S' h = unchanged h.1
effect S (message.Request ask) verdict.Rejected S' h = unchanged h.1
effect S (message.Reject ask) verdict.RejectNoted S' h = unchanged h
effect S message.KeepAlive verdict.KeepAlive S' h = unchanged h
effect S (message.Other id size) (verdict.Skipped id') S' h = unchanged h.1
effect S m v S' h = absurd h

-- ---- steps keep the trees closed

module _ (S : SessionSeen) (closed_trees : HasClosedTrees S) where
  stored-closed : (ask : Ask) (hashes : List Hash) (c : ℕ) (S' : SessionSeen) → All IsHash hashes → (h : IsStored S ask hashes c S')
      → IsClosed h.asked.tree (look h.after.known)
  stored-closed ask hashes c S' all h =
      closed-same h.asked.tree (joined (look h.asked.state.known) (claims ask hashes)) (look h.after.known) (λ l i. sym (h.taken.1.joined_is l i))
      (joined-closed h.asked.tree (look h.asked.state.known) ask hashes
      (closed_trees.closed h.asked.number h.asked.tree h.asked.state h.asked.is_tree) all h.taken.0)

  stored-keeps : (ask : Ask) (hashes : List Hash) (c : ℕ) (S' : SessionSeen) → (h : IsStored S ask hashes c S')
      → (l i : ℕ) (v : Hash) → look h.asked.state.known l i ≡ Some v → look h.after.known l i ≡ Some v
  stored-keeps ask hashes c S' h l i v e = h.taken.1.joined_is l i ∙ joined-keeps (look h.asked.state.known) (claims ask hashes) l i v e

  -- the torrent's trees stay
  before : {S' : SessionSeen} {ts : List TreeState} (k : ℕ) (tree : TreeRoot) → S' ≡ record S { trees = ts } → slice_get (roots S') k ≡ Some tree
      → slice_get (roots S) k ≡ Some tree
  before k tree e at = ap (λ U. slice_get (roots U) k) (sym e) ∙ at

  one_tree : (n k : ℕ) (a b : TreeRoot) → k ≡ n → slice_get (roots S) k ≡ Some a → slice_get (roots S) n ≡ Some b → a ≡ b
  one_tree n k a b same p q = same_Some a b (sym p ∙ ap (slice_get (roots S)) same ∙ q)

  closed-stored : (ask : Ask) (hashes : List Hash) (c : ℕ) (S' : SessionSeen) → All IsHash hashes → IsStored S ask hashes c S' → HasClosedTrees S'
  closed-stored ask hashes c S' all h = record {
    count = ap (λ U. length U.trees) h.state_after ∙ length-set S.trees h.asked.number h.after ∙ closed_trees.count
        ∙ ap (λ U. length (roots U)) (sym h.state_after);
    closed = λ k tree s at. elim (set-read S.trees h.asked.number k h.after s (ap (λ U. slice_get U.trees k) (sym h.state_after) ∙ at.state_is)) [
      | inl (same, is) ↦ subst₂ (λ tr st. IsClosed tr (look st.known))
          (sym (one_tree h.asked.number k tree h.asked.tree same (before k tree (h.state_after) at.tree_is) h.asked.is_tree.tree_is)) (sym is)
          (stored-closed ask hashes c S' all h)
      | inr (other, old) ↦ closed_trees.closed k tree s (record { tree_is = before k tree (h.state_after) at.tree_is; state_is = old })
    ];
    marks = λ k tree s at i marked. elim (set-read S.trees h.asked.number k h.after s (ap (λ U. slice_get U.trees k) (sym h.state_after) ∙ at.state_is)) [
      | inl (same, is) ↦
          let (v, e) = closed_trees.marks h.asked.number h.asked.tree h.asked.state h.asked.is_tree i (ap (λ m. leaves.contains m i) (sym h.marks_stay)
          ∙ ap (λ st. leaves.contains st.marked i) (sym is) ∙ marked) in
          (v, ap (λ st. look st.known 0 i) is ∙ stored-keeps ask hashes c S' h 0 i v e)
      | inr (other, old) ↦ closed_trees.marks k tree s (record { tree_is = before k tree (h.state_after) at.tree_is; state_is = old }) i marked
    ];
  }

-- ---- steps

-- a tree that knows what it knew keeps it
pub later-keeps : (S S' : SessionSeen) → AreLater S S' → KeepsKnown S S'
later-keeps S S' later n tree s at =
    let a : Later S' n tree s = later n tree s at in
    (a.later, a.later_is, λ l i v e. ap (λ (K : Known). look K l i) a.known ∙ e)

pub step-closed : (S : SessionSeen) (m : Message) (S' : SessionSeen) → HasClosedTrees S → HasHashes m → Effect S m S' → HasClosedTrees S'
step-closed S m S' closed_trees all (unchanged e) = subst HasClosedTrees (sym e) closed_trees
step-closed S m S' closed_trees all (stored ask hashes c has h) = closed-stored S closed_trees ask hashes c S' (has all) h
step-closed S m S' closed_trees all (taken index begin bytes v h) = chain-closed v.file S _ v.refusals S' closed_trees h.each

pub effect-keeps : (S : SessionSeen) (m : Message) (S' : SessionSeen) → Effect S m S' → KeepsKnown S S'
effect-keeps S m S' (unchanged e) = keeps-same S S' e
effect-keeps S m S' (stored ask hashes c has h) = one-keeps S h.asked.number h.asked.state h.after S' h.asked.is_tree.state_is h.state_after
    (λ l i v k. h.taken.1.joined_is l i ∙ joined-keeps (look h.asked.state.known) (claims ask hashes) l i v k)
effect-keeps S m S' (taken index begin bytes v h) = later-keeps S S' (chain-known v.file S _ v.refusals S' h.each)

pub step-keeps : (S : SessionSeen) (m : Message) (v : Verdict) (S' : SessionSeen) → Step S m v S' → KeepsKnown S S'
step-keeps S m v S' step = effect-keeps S m S' (effect S m v S' step)

pub verdict-true : (S : SessionSeen) (m : Message) (v : Verdict) (S' : SessionSeen) → HasClosedTrees S → Step S m v S' → IsTrueVerdict S m v
verdict-true S m v S' closed_trees h = λ index begin sent entries is said.
    taken-blocks S closed_trees index begin sent.now entries S' (subst₂ (λ (p : Message) (w : Verdict). Step S p w S') is said h)

-- a step keeps the torrent
pub effect-torrent : (S : SessionSeen) (m : Message) (S' : SessionSeen) → Effect S m S' → S'.torrent ≡ S.torrent
effect-torrent S m S' (unchanged e) = ap (λ U. U.torrent) e
effect-torrent S m S' (stored ask hashes c has h) = ap (λ U. U.torrent) h.state_after
effect-torrent S m S' (taken index begin bytes v h) = chain-torrent v.file S _ v.refusals S' h.each

pub step-torrent : (S : SessionSeen) (m : Message) (v : Verdict) (S' : SessionSeen) → Step S m v S' → S'.torrent ≡ S.torrent
step-torrent S m v S' step = effect-torrent S m S' (effect S m v S' step)

-- ---- whole runs

pub run-torrent : (S : SessionSeen) (ms : List Message) (vs : List Verdict) (S' : SessionSeen) → Chain Step S ms vs S' → S'.torrent ≡ S.torrent
run-torrent = Chain-same Step (λ (A : SessionSeen). A.torrent) step-torrent

pub run-keeps : (S : SessionSeen) (ms : List Message) (vs : List Verdict) (S' : SessionSeen) → Chain Step S ms vs S' → KeepsKnown S S'
run-keeps = Chain-within Step KeepsKnown (λ A. keeps-same A A refl) keeps-then step-keeps

-- a run keeps the trees closed, and each of its verdicts keeps its promise
keeps-closed : (S : SessionSeen) (m : Message) (v : Verdict) (S' : SessionSeen) → HasClosedTrees S → HasHashes m → Step S m v S' → HasClosedTrees S'
keeps-closed S m v S' closed_trees has step = step-closed S m S' closed_trees has (effect S m v S' step)

pub run-closed : (S : SessionSeen) (ms : List Message) (vs : List Verdict) (S' : SessionSeen) → HasClosedTrees S → All HasHashes ms → Chain Step S ms vs S'
    → HasClosedTrees S'
run-closed = Chain-kept Step HasClosedTrees HasHashes keeps-closed

pub run-true : (S : SessionSeen) (ms : List Message) (vs : List Verdict) (S' : SessionSeen) → HasClosedTrees S → All HasHashes ms → Chain Step S ms vs S'
    → Chain IsTrueStep S ms vs S' × HasClosedTrees S'
run-true S ms vs S' closed_trees all run = (
  Chain-weaker (λ (A : SessionSeen) (m : Message) (v : Verdict) (B : SessionSeen). HasClosedTrees A × Step A m v B) IsTrueStep
      (λ A m v B at. (at.1, verdict-true A m v B at.0 at.1)) S ms vs S'
      (Chain-with Step HasClosedTrees HasHashes keeps-closed S ms vs S' closed_trees all run),
  run-closed S ms vs S' closed_trees all run,
)
