-- A round: whatever the messages before it did, the true answer to what was wanted leaves fewer gaps.
use Rattle.std.proofs.Common.{◌≡◌, ◌≢◌, ◌⊎◌, ℕ, ◌+◌, ◌*◌, ◌^◌, ◌<◌, ◌≤◌, List, map, Option, Some, None, cond, is_none, inl, inr, refl, sym, ap, ap₂, ◌∙◌}
use Rattle.std.proofs.Common.{subst, subst₂, arith, Bor}
use Rattle.std.specs.Prelude.{slice_get}
use Rattle.std.proofs.lemmas.Option.{same_Some, none-some}
use Rattle.std.proofs.lemmas.Bool.{cases_lt}
use Rattle.partial_tree.specs.TreeRoot.{TreeRoot}
use Rattle.node_maps.specs.Places.{tree_height, PartialTree, IsKnown}
use Rattle.wire.specs.declared.message.Ask.{Ask}
use Rattle.partial_tree.specs.declared.refusal.HashRefusal.{HashRefusal}
use Rattle.partial_tree.specs.declared.refusal.HashRefusal.TheVariants.{UnknownRoot, BadRange, BadCount, BadPad, Unanchored, Mismatch, NoMemory, Unasked}
use Rattle.wire.specs.declared.message.Message.TheVariants as message
use Rattle.session.specs.declared.verdict.Verdict.{Verdict}
use Rattle.session.specs.declared.verdict.Verdict.TheVariants as verdict
use Rattle.node_maps.specs.Digest.{Hash}
use Rattle.hashtree.specs.Tree.{block_count}
use Rattle.partial_tree.specs.Closed.{Keeps, IsClosed, Collision, whole}
use Rattle.partial_tree.specs.Claims.{claims, joined, Refuses, IsAccepted, answer_of}
use Rattle.partial_tree.specs.Gaps.{gaps, want_ask, want_of}
use Rattle.node_maps.specs.Known.{look}
use Rattle.session.specs.Session.{SessionSeen, TreeState, IsTree, HasClosedTrees, IsAsked, IsStored, IsHashRefused, HasDistinctRoots, HasFewerGaps}
use Rattle.session.specs.Session.{Step}
use Rattle.opening.specs.Description.{Description}
use Rattle.session.specs.Layouts.{roots, root_of_entry}
use Rattle.session.specs.Wanted.{HasOneGapFewer, IsWantedAnswer}
use Rattle.session.specs.Rounds.{IsLater, Collides}
use Rattle.hashtree.proofs.Heights.{height_enough}
use Rattle.partial_tree.proofs.Joining.{accepted-no_fault}
use Rattle.tree_laws.proofs.Wanted.{true_answer-accepted, want-fewer, want-one_fewer}
use Rattle.chains.proofs.Cases.{some_or_none}
use Rattle.session.proofs.Runs.{step-keeps}
use Rattle.session.proofs.States.{set-write}

-- ---- what is wanted

pub wanted-none : (t : TreeRoot) (K : PartialTree) (b : ℕ) → IsKnown K 0 b → want_of t K b ≡ None
wanted-none t K b (v, known) = ap (λ (o : Option Hash). cond (is_none o) (Some (want_ask t b)) None) known

pub wanted-some : (t : TreeRoot) (K : PartialTree) (b : ℕ) → K 0 b ≡ None → want_of t K b ≡ Some (want_ask t b)
wanted-some t K b none = ap (λ (o : Option Hash). cond (is_none o) (Some (want_ask t b)) None) none

pub wanted-is : (t : TreeRoot) (K : PartialTree) (b : ℕ) (ask : Ask) → want_of t K b ≡ Some ask → (K 0 b ≡ None) × (ask ≡ want_ask t b)
wanted-is t K b ask e = elim (some_or_none (K 0 b)) [
  | inl known ↦ absurd (none-some ask (sym (wanted-none t K b known) ∙ e))
  | inr none ↦ (none, same_Some ask (want_ask t b) (sym e ∙ wanted-some t K b none))
]

-- a leaf that is not known is not the root
pub want-tall : (t : TreeRoot) (K : PartialTree) (b : ℕ) → IsClosed t K → b < block_count t.length → K 0 b ≡ None → 1 ≤ tree_height t.length
want-tall t K b closed in' none = elim (cases_lt (tree_height t.length) 1) [
  | inr tall ↦ tall
  | inl low ↦
      let flat : tree_height t.length ≡ 0 = omega arith in
      let enough : block_count t.length ≤ 2 ^ tree_height t.length = height_enough (block_count t.length) in
      let one : block_count t.length ≤ 2 ^ 0 = subst (λ k. block_count t.length ≤ 2 ^ k) flat enough in
      let first : 0 ≡ b = omega arith in
      absurd (none-some t.root (sym none ∙ sym (ap₂ K flat first) ∙ closed.root_known))
]

-- the tree that an ask names is the one tree with its root
pub asked-is : (S : SessionSeen) (ask : Ask) (n : ℕ) (tree : TreeRoot) (s : TreeState) → HasDistinctRoots S → IsTree S n tree s → tree.root ≡ ask.root
    → (a : IsAsked S ask) → (a.number ≡ n) × (a.tree ≡ tree) × (a.state ≡ s)
asked-is S ask n tree s distinct at root a =
    let same : a.number ≡ n = distinct a.number n a.tree tree a.is_tree.tree_is at.tree_is (a.has_root ∙ sym root) in (
      same,
      same_Some a.tree tree (sym a.is_tree.tree_is ∙ ap (slice_get (roots S)) same ∙ at.tree_is),
      same_Some a.state s (sym a.is_tree.state_is ∙ ap (slice_get S.trees) same ∙ at.state_is),
    )

module _ (n : ℕ) (tree : TreeRoot) (b : ℕ) (in' : b < block_count tree.length) (K : PartialTree) where
  module _ (S S' : SessionSeen) (distinct : HasDistinctRoots S) (s : TreeState) (at : IsTree S n tree s) (tall : 1 ≤ tree_height tree.length)
      (keeps : Keeps K (look s.known)) (none : K 0 b ≡ None)
      (hashes : List Hash) (ok : IsAccepted tree.length (look s.known) (want_ask tree b) hashes) where
    stored-joined : (c : ℕ) → IsStored S (want_ask tree b) hashes c S' → (later : TreeState) × IsTree S' n tree later
        × (look later.known ≡ joined (look s.known) (claims (want_ask tree b) hashes))
    stored-joined c h =
        let (same, one, state) = asked-is S (want_ask tree b) n tree s distinct at refl h.asked in (
          h.after,
          record {
            tree_is = ap (λ U. slice_get (roots U) n) h.state_after ∙ at.tree_is;
            state_is = ap₂ (λ U i. slice_get U.trees i) h.state_after (sym same)
                ∙ set-write S.trees h.asked.number h.after h.asked.state h.asked.is_tree.state_is;
          },
          λ i l j. (h.taken.1.joined_is l j ∙ ap (λ st. joined (look st.known) (claims (want_ask tree b) hashes) l j) state) i,
        )

    stored-fewer : (c : ℕ) → IsStored S (want_ask tree b) hashes c S' → HasFewerGaps S' n tree K
    stored-fewer c h =
        let (later, later_is, after) = stored-joined c h in (
          later,
          later_is,
          subst (λ L. gaps tree.length L < gaps tree.length K) (sym after)
              (want-fewer tree b tall in' (look s.known) hashes ok K keeps none),
        )

    pub stored-one_fewer : (c : ℕ) → IsStored S (want_ask tree b) hashes c S' → look s.known 0 b ≡ None
        → HasOneGapFewer S' n tree (look s.known)
    stored-one_fewer c h now =
        let (later, later_is, after) = stored-joined c h in (
          later,
          later_is,
          subst (λ L. gaps tree.length L + 1 ≡ gaps tree.length (look s.known)) (sym after)
              (want-one_fewer tree b tall in' (look s.known) hashes ok now),
        )

    fault-never : (r : HashRefusal) → (a : IsAsked S (want_ask tree b)) → Refuses a.tree.length (look a.state.known) (want_ask tree b) hashes r → ⊥
    fault-never r a refused =
        let (same, one, state) = asked-is S (want_ask tree b) n tree s distinct at refl a in
        accepted-no_fault a.tree (look a.state.known) (want_ask tree b) hashes r
        (subst₂ (λ tr st. IsAccepted tr.length (look st.known) (want_ask tree b) hashes) (sym one) (sym state) ok) refused.fault

    pub only-memory : (r : HashRefusal) → IsHashRefused S (want_ask tree b) hashes r → r ≡ NoMemory
    only-memory UnknownRoot h = absurd (h n tree at.tree_is refl)
    only-memory NoMemory h = refl
    only-memory BadRange (a, h) = absurd (fault-never BadRange a h)
    only-memory BadCount (a, h) = absurd (fault-never BadCount a h)
    only-memory BadPad (a, h) = absurd (fault-never BadPad a h)
    only-memory Unanchored (a, h) = absurd (fault-never Unanchored a h)
    only-memory Mismatch (a, h) = absurd (fault-never Mismatch a h)
    only-memory Unasked (a, h) = absurd (fault-never Unasked a h)

  pub answer-fewer : (S S' : SessionSeen) → HasDistinctRoots S → (s : TreeState) → IsTree S n tree s → 1 ≤ tree_height tree.length → Keeps K (look s.known)
      → K 0 b ≡ None
      → (hs : Bor (List Hash)) → IsAccepted tree.length (look s.known) (want_ask tree b) hs.now
      → (v : Verdict) → v ≢ verdict.HashRefused NoMemory → Step S (message.Hashes (want_ask tree b) hs) v S' → HasFewerGaps S' n tree K
  answer-fewer S S' distinct s at tall keeps none hs ok (verdict.Stored c) memory h = stored-fewer S S' distinct s at tall keeps none hs.now ok c h
  answer-fewer S S' distinct s at tall keeps none hs ok (verdict.HashRefused r) memory h =
      absurd (memory (ap verdict.HashRefused (only-memory S S' distinct s at tall keeps none hs.now ok r h.0)))
  answer-fewer S S' distinct s at tall keeps none hs ok v memory h = absurd h

pub collision-keeps : (J K L : PartialTree) → Keeps K L → Collision J K → Collision J L
collision-keeps J K L keeps c = record {
  layer = c.layer;
  index = c.index;
  J_left = c.J_left;
  J_right = c.J_right;
  K_left = c.K_left;
  K_right = c.K_right;
  J_left_known = c.J_left_known;
  J_right_known = c.J_right_known;
  K_left_known = keeps c.layer (2 * c.index) c.K_left c.K_left_known;
  K_right_known = keeps c.layer (2 * c.index + 1) c.K_right c.K_right_known;
  differ = c.differ;
  one_digest = c.one_digest;
}

-- the roots stay distinct, since the torrent stays
pub later-distinct : (S M : SessionSeen) → M.torrent ≡ S.torrent → HasDistinctRoots S → HasDistinctRoots M
later-distinct S M same distinct = λ i k x y p q e. distinct i k x y
    (ap (λ (d : Description). slice_get (map root_of_entry d.trees) i) (sym same) ∙ p)
    (ap (λ (d : Description). slice_get (map root_of_entry d.trees) k) (sym same) ∙ q) e

-- the true answer to what was wanted of an earlier session leaves fewer gaps than that had, if memory is not refused for it, or a collision is named
pub answered-fewer : (S N S' : SessionSeen) → HasClosedTrees S → IsLater S N → (n : ℕ) (f : List ℕ) (ask : Ask) (answer : Bor (List Hash))
    → (w : IsWantedAnswer S n f ask answer.now) → (v : Verdict) → v ≢ verdict.HashRefused NoMemory → Step N (message.Hashes ask answer) v S'
    → HasFewerGaps S' n w.tree (look w.state.known) ⊎ Collides S' n f
answered-fewer S N S' closed_trees later n f ask answer w v memory step =
    let (none, is) = wanted-is w.tree (look w.state.known) w.block ask w.wanted in
    let tall : 1 ≤ tree_height w.tree.length = want-tall w.tree (look w.state.known) w.block (closed_trees.closed n w.tree w.state w.is_tree) w.inside none in
    let (now, now_is, keeps) = later.keeps n w.tree w.state w.is_tree in
    let stated : answer.now ≡ answer_of (tree_height w.tree.length) (whole f) (want_ask w.tree w.block) =
    w.is_answer ∙ ap (answer_of (tree_height w.tree.length) (whole f)) is in
    elim (true_answer-accepted w.tree w.block tall w.inside (look now.known) f (later.closed.closed n w.tree now now_is) w.fits) [
      | inr collision ↦
          let (last, last_is, kept) = step-keeps N (message.Hashes ask answer) v S' step n w.tree now now_is in
          inr (w.tree, last, last_is, collision-keeps (whole f) (look now.known) (look last.known) kept collision)
      | inl ok ↦ inl (answer-fewer n w.tree w.block w.inside (look w.state.known) N S' later.distinct now now_is tall keeps none answer
          (subst (IsAccepted w.tree.length (look now.known) (want_ask w.tree w.block)) (sym stated) ok) v memory
          (subst (λ a. Step N (message.Hashes a answer) v S') is step))
    ]
