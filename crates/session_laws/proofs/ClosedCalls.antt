-- Calls of any kind keep the trees of a session closed.
use Rattle.std.proofs.Common.{◌≡◌, ℕ, ◌+◌, ◌<◌, List, [], ◌∷◌, length, set, get_or, true, Some, None, Bor, inl, inr, refl}
use Rattle.std.proofs.Common.{sym, ap, ◌∙◌, subst, subst₂, arith}
use Rattle.std.specs.Prelude.{slice_get}
use Rattle.std.specs.FinSet as leaves
use Rattle.std.specs.List.{All}
use Rattle.std.proofs.lemmas.List.{length-set}
use Rattle.std.proofs.lemmas.Option.{same_Some, slice_get-get_or, slice_get_within}
use Rattle.hashtree.specs.Tree.{block, block_count}
use Rattle.node_maps.specs.Digest.{Hash, IsHash}
use Rattle.node_maps.specs.Known.{Known, look}
use Rattle.node_maps.specs.Places.{IsKnown}
use Rattle.partial_tree.specs.Claims.{AreHashes, joined}
use Rattle.partial_tree.specs.Closed.{IsClosed, Keeps}
use Rattle.partial_tree.specs.Fill.{fill_claims}
use Rattle.partial_tree.specs.Joins.{TakesLayer}
use Rattle.partial_tree.specs.LeafPieces.{leaves_in}
use Rattle.partial_tree.specs.LeafRows.{IsLeafRow, TakesRow, row_joins}
use Rattle.partial_tree.specs.TreeRoot.{TreeRoot}
use Rattle.partial_tree.proofs.Digests.{is_hash}
use Rattle.partial_tree.proofs.Joining.{joined-keeps}
use Rattle.partial_tree.proofs.Keeping.{closed-same}
use Rattle.partial_tree.proofs.LeafPieces.{leaf-at, length-leaves, piece-row}
use Rattle.partial_tree.proofs.PaddedRows.{row_joins-closed}
use Rattle.partial_tree.proofs.WholeLayers.{fill-closed}
use Rattle.session.specs.Layouts.{roots}
use Rattle.session.specs.Pieces.{IsLeafMarked, IsTakenFrom, piece_span}
use Rattle.session.specs.Session.{SessionSeen, TreeState, IsTree, HasClosedTrees}
use Rattle.session.proofs.Entries.{chain-closed}
use Rattle.session.proofs.NotedSteps.{noted-closed}
use Rattle.session.proofs.Runs.{effect, step-closed}
use Rattle.session.proofs.States.{set-read}
use Rattle.session.proofs.TakenLeaves.{row-keeps}
use Rattle.session.proofs.TakenPieces.{known-leaf}
use Rattle.session_laws.specs.Calling.{Call, CallDoes, Filled, MarkedLeaf, TookBlock, TookLeaves, TookMessage, TookNoted, TookPiece}
use Rattle.session_laws.specs.ClosedCalls.{IsGivenHashes}
use Rattle.session_laws.proofs.CalledMarks.{insert-marks, run-marks-of}

abbrev borrowed : List Hash → Bor (List Hash)
borrowed hashes = record { ref_ptr = (0, 0); now = hashes }

-- one tree has another state: if that is closed and knows its marks, all trees are
module _ (S S' : SessionSeen) (n : ℕ) (tree : TreeRoot) (before after : TreeState) (at : IsTree S n tree before)
    (is : S' ≡ record S { trees = set S.trees n after }) (closed : HasClosedTrees S) where
  earlier : (k : ℕ) (t : TreeRoot) → slice_get (roots S') k ≡ Some t → slice_get (roots S) k ≡ Some t
  earlier k t e = ap (λ U. slice_get (roots U) k) (sym is) ∙ e

  one_root : (k : ℕ) (t : TreeRoot) → k ≡ n → slice_get (roots S') k ≡ Some t → t ≡ tree
  one_root k t same e = same_Some t tree (sym (earlier k t e) ∙ ap (slice_get (roots S)) same ∙ at.tree_is)

  pub one-closed : IsClosed tree (look after.known) → ((i : ℕ) → leaves.contains after.marked i ≡ true → IsKnown (look after.known) 0 i)
      → HasClosedTrees S'
  one-closed shut marks = record {
    count = ap (λ U. length U.trees) is ∙ length-set S.trees n after ∙ closed.count ∙ ap (λ U. length (roots U)) (sym is);
    closed = λ k t s there. elim (set-read S.trees n k after s (ap (λ U. slice_get U.trees k) (sym is) ∙ there.state_is)) [
      | inl (same, new) ↦ subst₂ (λ tr st. IsClosed tr (look st.known)) (sym (one_root k t same there.tree_is)) (sym new) shut
      | inr (other, old) ↦ closed.closed k t s (record { tree_is = earlier k t there.tree_is; state_is = old })
    ];
    marks = λ k t s there i marked. elim (set-read S.trees n k after s (ap (λ U. slice_get U.trees k) (sym is) ∙ there.state_is)) [
      | inl (same, new) ↦
          let (v, e) = marks i (ap (λ st. leaves.contains st.marked i) (sym new) ∙ marked) in
          (v, ap (λ st. look st.known 0 i) new ∙ e)
      | inr (other, old) ↦ closed.marks k t s (record { tree_is = earlier k t there.tree_is; state_is = old }) i marked
    ];
  }

  -- marks that were there are known, if all that was known is
  pub marked-before : Keeps (look before.known) (look after.known) → (i : ℕ) → leaves.contains before.marked i ≡ true → IsKnown (look after.known) 0 i
  marked-before keeps i marked = let (v, e) = closed.marks n tree before at i marked in (v, keeps 0 i v e)

  pub same-marks-closed : IsClosed tree (look after.known) → Keeps (look before.known) (look after.known) → after.marked ≡ before.marked
      → HasClosedTrees S'
  same-marks-closed shut keeps same =
      one-closed shut (λ i marked. marked-before keeps i (ap (λ m. leaves.contains m i) (sym same) ∙ marked))

-- ---- rows of leaves and layers

row-shut : (tree : TreeRoot) (first k : ℕ) (hashes : List Hash) (before after : Known) (c : ℕ) → IsLeafRow tree.length first k (length hashes)
    → IsClosed tree (look before) → AreHashes hashes → TakesRow tree.length first k hashes before c after → IsClosed tree (look after)
row-shut tree first k hashes before after c row closed all taken =
    closed-same tree (joined (look before) (row_joins tree.length first k hashes)) (look after) (λ l i. sym (taken.1.joined_is l i))
    (row_joins-closed tree (look before) first k (borrowed hashes) row closed all taken.0)

layer-shut : (tree : TreeRoot) (layer : ℕ) (hashes : List Hash) (before after : Known) (c : ℕ) → IsClosed tree (look before) → AreHashes hashes
    → TakesLayer tree.length layer hashes before c after → IsClosed tree (look after)
layer-shut tree layer hashes before after c closed all (ok, joins) =
    closed-same tree (joined (look before) (fill_claims tree.length layer hashes)) (look after) (λ l i. sym (joins.joined_is l i))
    (fill-closed tree (look before) layer hashes ok.layer_inside ok.right_count closed all ok.agrees)

layer-keeps : (tree : TreeRoot) (layer : ℕ) (hashes : List Hash) (before after : Known) (c : ℕ) → TakesLayer tree.length layer hashes before c after
    → Keeps (look before) (look after)
layer-keeps tree layer hashes before after c taken l i v known =
    taken.1.joined_is l i ∙ joined-keeps (look before) (fill_claims tree.length layer hashes) l i v known

leaves-are : (bytes : List ℕ) → AreHashes (leaves_in bytes)
leaves-are bytes = λ j d low.
    let inside : j < block_count (length bytes) = omega (arith, low, length-leaves bytes) in
    let same = same_Some _ _ (sym (slice_get-get_or (leaves_in bytes) j d low) ∙ slice_get-get_or (leaves_in bytes) j [] low) in
    subst IsHash (sym (same ∙ leaf-at bytes j inside)) (is_hash (block bytes j))

-- ---- calls

piece-closed : (S : SessionSeen) (file first : ℕ) (bytes : List ℕ) (S' : SessionSeen) → HasClosedTrees S → IsTakenFrom S file first bytes S'
    → HasClosedTrees S'
piece-closed S file first bytes S' closed h =
    let p = h.in_file in let k = piece_span S.torrent.piece_length p.tree.length in
    let row : IsLeafRow p.tree.length first k (length (leaves_in bytes)) = piece-row p.tree.length first k bytes h.row in
    let keeps : Keeps (look p.state.known) (look h.after.known) =
    row-keeps p.tree.length first k (leaves_in bytes) p.state.known h.after.known h.count h.taken in
    one-closed S S' p.tree_number p.tree p.state h.after p.is_tree h.state_after closed
    (row-shut p.tree first k (leaves_in bytes) p.state.known h.after.known h.count row (closed.closed p.tree_number p.tree p.state p.is_tree)
    (leaves-are bytes) h.taken)
    (λ i marked. elim (run-marks-of p.state.marked first (block_count (length bytes)) i (ap (λ m. leaves.contains m i) (sym h.marks) ∙ marked)) [
      | inr old ↦ marked-before S S' p.tree_number p.tree p.state h.after p.is_tree h.state_after closed keeps i old
      | inl (j, low, here) ↦
          let few : j < length (leaves_in bytes) = omega (arith, low, length-leaves bytes) in
          let leaf : Hash = get_or (leaves_in bytes) j [] in (
            leaf,
            subst (λ b. look h.after.known 0 b ≡ Some leaf) here
                (known-leaf p.tree first k (borrowed (leaves_in bytes)) row p.state.known h.after.known h.count h.taken j few),
          )
    ])

leaf-closed : (S : SessionSeen) (n b : ℕ) (digest : Hash) (S' : SessionSeen) → HasClosedTrees S → IsLeafMarked S n b digest S' → HasClosedTrees S'
leaf-closed S n b digest S' closed (s, there, known, is) =
    let low : n < length (roots S) = omega (arith, slice_get_within S.trees n s there, closed.count) in
    let tree : TreeRoot = get_or (roots S) n (record { root = []; length = 0 }) in
    let at : IsTree S n tree s = record { tree_is = slice_get-get_or (roots S) n (record { root = []; length = 0 }) low; state_is = there } in
    one-closed S S' n tree s (record s { marked = leaves.insert s.marked b }) at is closed (closed.closed n tree s at)
    (λ i marked. elim (insert-marks s.marked b i marked) [
      | inl now ↦ (digest, ap (λ k. look s.known 0 k) (sym now) ∙ known)
      | inr old ↦ closed.marks n tree s at i old
    ])

pub call-closed : (S : SessionSeen) (call : Call) (S' : SessionSeen) → HasClosedTrees S → IsGivenHashes call → CallDoes S call S' → HasClosedTrees S'
call-closed S (TookMessage m v) S' closed all h = step-closed S m S' closed all (effect S m v S' h)
call-closed S (TookNoted m v) S' closed all h = noted-closed S m v S' closed all h
call-closed S (TookBlock index begin bytes file b) S' closed all h =
    chain-closed file S (record { number = b; bytes = bytes } ∷ []) (None ∷ []) S' closed (S', h.1, refl)
call-closed S (TookPiece index bytes file first) S' closed all h = piece-closed S file first bytes S' closed h.1
call-closed S (TookLeaves n first hashes c) S' closed all h =
    let k = piece_span S.torrent.piece_length h.tree.length in
    same-marks-closed S S' n h.tree h.before h.after h.is_tree h.state_after closed
    (row-shut h.tree first k hashes h.before.known h.after.known c h.row (closed.closed n h.tree h.before h.is_tree) all h.taken)
    (row-keeps h.tree.length first k hashes h.before.known h.after.known c h.taken) h.marks_stay
call-closed S (Filled n layer hashes c) S' closed all h =
    same-marks-closed S S' n h.tree h.before h.after h.is_tree h.state_after closed
    (layer-shut h.tree layer hashes h.before.known h.after.known c (closed.closed n h.tree h.before h.is_tree) all h.taken)
    (layer-keeps h.tree layer hashes h.before.known h.after.known c h.taken) h.marks_stay
call-closed S (MarkedLeaf n b digest) S' closed all h = leaf-closed S n b digest S' closed h
