-- What follows of the leaves of a piece that were taken, and of true ones.
use Rattle.std.proofs.Common.{◌≡◌, ◌⊎◌, ℕ, ◌+◌, ◌/◌, ◌^◌, ◌<◌, ◌≤◌, List, [], length, Some, Result, Ok, Err, IfOk, IfErr, inl, inr, refl, sym, ap, ◌∙◌, subst}
use Rattle.std.proofs.Common.{subst₂}
use Rattle.std.specs.Prelude.{slice_get}
use Rattle.std.specs.Borrow.{Bor}
use Rattle.std.proofs.lemmas.Option.{same_Some, none-some, slice_get-get_or, get_or_from_slice_get}
use Rattle.sha2.specs.Sha256.{sha256}
use Rattle.hashtree.specs.Tree.{block}
use Rattle.node_maps.specs.Digest.{Hash}
use Rattle.node_maps.specs.Known.{Known, look}
use Rattle.node_maps.specs.Places.{IsKnown}
use Rattle.partial_tree.specs.Closed.{Collision, Keeps, whole}
use Rattle.partial_tree.specs.TreeRoot.{TreeRoot, Fits}
use Rattle.partial_tree.specs.LeafRows.{row_joins, RowRefuses, TakesRow}
use Rattle.partial_tree.specs.declared.refusal.PieceRefusal.{PieceRefusal}
use Rattle.partial_tree.specs.declared.refusal.PieceRefusal.TheVariants.{BadPlace, BadSize, Unproved, BadPiece, NoMemory}
use Rattle.partial_tree.proofs.Joining.{joined-keeps}
use Rattle.session.specs.Session.{SessionSeen, TreeState, IsTree, HasClosedTrees}
use Rattle.session.specs.SafeStep.{KeepsKnown}
use Rattle.session.specs.Pieces.{HasPiece, AreLeavesTaken, AreLeavesRefused, AreLeavesKnown, HasEndPads, TakesTrueLeaves, piece_span}
use Rattle.session.proofs.OneTree.{keeps-same, one-keeps, tree-after}
use Rattle.session.proofs.TakenPieces.{known-leaf}
use Rattle.session.proofs.TruePieces.{true-row}
use Rattle.hashtree.specs.Tree.{block_count}
use Rattle.opening.specs.Description.{Description}
use Rattle.partial_tree.specs.EndPads.{AreEndPadsKnown}
use Rattle.tree_laws.proofs.EndPads.{row-brings}

abbrev borrowed : List Hash → Bor (List Hash)
borrowed leaves = record { ref_ptr = (0, 0); now = leaves }

-- a row keeps what is known
pub row-keeps : (len first k : ℕ) (leaves : List Hash) (before after : Known) (c : ℕ) → TakesRow len first k leaves before c after
    → Keeps (look before) (look after)
row-keeps len first k leaves before after c taken l i v known = taken.1.joined_is l i ∙ joined-keeps (look before) (row_joins len first k leaves) l i v known

module _ (S : SessionSeen) (n first : ℕ) (leaves : List Hash) (S' : SessionSeen) where
  pub leaves-known : (r : Result ℕ PieceRefusal) → IfOk r (λ c. AreLeavesTaken S n first leaves c S') → IfOk r (λ _. AreLeavesKnown S' n first leaves)
  leaves-known (Err x) taken = tt
  leaves-known (Ok c) h = λ tree s at j low.
      let state : h.after ≡ s = same_Some h.after s (sym (tree-after S n h.tree h.before h.after S' h.is_tree h.state_after).state_is ∙ at.state_is) in
      ap (λ (st : TreeState). look st.known 0 (first + j)) (sym state)
      ∙ known-leaf h.tree first (piece_span S.torrent.piece_length h.tree.length) (borrowed leaves) h.row h.before.known h.after.known c h.taken j low
      ∙ sym (slice_get-get_or leaves j [] low)

  -- those of the last piece bring the pads beside the file's end
  pub leaves-bring : (r : Result ℕ PieceRefusal) → IfOk r (λ c. AreLeavesTaken S n first leaves c S') → IfOk r (λ _. HasEndPads S' n first)
  leaves-bring (Err x) taken = tt
  leaves-bring (Ok c) h = λ tree s at reach.
      let there : IsTree S' n h.tree h.after = tree-after S n h.tree h.before h.after S' h.is_tree h.state_after in
      let state : h.after ≡ s = same_Some h.after s (sym there.state_is ∙ at.state_is) in
      let one : h.tree ≡ tree = same_Some h.tree tree (sym there.tree_is ∙ at.tree_is) in
      let torrent : S'.torrent ≡ S.torrent = ap (λ (U : SessionSeen). U.torrent) h.state_after in
      let reach' : block_count h.tree.length ≤ first + 2 ^ piece_span S.torrent.piece_length h.tree.length =
      subst (λ (d : Description). block_count h.tree.length ≤ first + 2 ^ piece_span d.piece_length h.tree.length) torrent
      (subst (λ (r : TreeRoot). block_count r.length ≤ first + 2 ^ piece_span S'.torrent.piece_length r.length) (sym one) reach) in
      subst₂ (λ (r : TreeRoot) (st : TreeState). AreEndPadsKnown r.length (look st.known)) one state
      (row-brings h.tree.length first (piece_span S.torrent.piece_length h.tree.length) leaves h.before.known h.after.known c h.taken reach')

  pub leaves-keep : (r : Result ℕ PieceRefusal) → IfOk r (λ c. AreLeavesTaken S n first leaves c S')
      → IfErr r (λ x. AreLeavesRefused S n first leaves x × (S' ≡ S)) → KeepsKnown S S'
  leaves-keep (Err x) taken refused = keeps-same S S' refused.1
  leaves-keep (Ok c) h refused = one-keeps S n h.before h.after S' h.is_tree.state_is h.state_after
      (row-keeps h.tree.length first (piece_span S.torrent.piece_length h.tree.length) leaves h.before.known h.after.known c h.taken)

module _ (S : SessionSeen) (closed : HasClosedTrees S) (n first : ℕ) (leaves : List Hash) (piece : HasPiece S n first (length leaves)) where
  module _ (tree : TreeRoot) (s : TreeState) (f : List ℕ) (at : IsTree S n tree s) (fits : Fits f tree.length tree.root)
      (are : (j : ℕ) → j < length leaves → slice_get leaves j ≡ Some (sha256 (block f (first + j))))
      (known : IsKnown (look s.known) (piece_span S.torrent.piece_length tree.length) (first / 2 ^ piece_span S.torrent.piece_length tree.length)) where
    fault : (x : PieceRefusal) → RowRefuses tree.length (look s.known) first (piece_span S.torrent.piece_length tree.length) leaves x
        → (x ≡ NoMemory) ⊎ Collision (whole f) (look s.known)
    fault BadPlace h = absurd h
    fault BadSize h = absurd h
    fault NoMemory h = inl refl
    fault Unproved h = absurd (none-some known.0 (sym h ∙ known.1))
    fault BadPiece h =
        elim (true-row tree f fits first (piece_span S.torrent.piece_length tree.length) (borrowed leaves) (piece tree at.tree_is)
        (λ j low. get_or_from_slice_get leaves j (sha256 (block f (first + j))) [] (are j low)) (look s.known) (closed.closed n tree s at)) [
          | inl agreed ↦ absurd (h.1.differ (agreed h.1.layer h.1.index h.1.in_J h.1.in_K h.1.J_known h.1.K_known))
          | inr collision ↦ inr collision
        ]

    refused : (x : PieceRefusal) → AreLeavesRefused S n first leaves x → (x ≡ NoMemory) ⊎ Collision (whole f) (look s.known)
    refused x h =
        let one : h.tree ≡ tree = same_Some h.tree tree (sym h.is_tree.tree_is ∙ at.tree_is) in
        let state : h.before ≡ s = same_Some h.before s (sym h.is_tree.state_is ∙ at.state_is) in
        fault x (subst₂ (λ (t : TreeRoot) (st : TreeState). RowRefuses t.length (look st.known) first (piece_span S.torrent.piece_length t.length)
        leaves x) one state
        h.refuses)

  pub true-leaves : (S' : SessionSeen) (r : Result ℕ PieceRefusal) → IfErr r (λ x. AreLeavesRefused S n first leaves x × (S' ≡ S))
      → TakesTrueLeaves S n first leaves r
  true-leaves S' (Ok c) h = λ tree s f at fits are known. inl (c, refl)
  true-leaves S' (Err x) h = λ tree s f at fits are known. elim (refused tree s f at fits are known x h.0) [
    | inl memory ↦ inr (inl (ap Err memory))
    | inr collision ↦ inr (inr collision)
  ]
