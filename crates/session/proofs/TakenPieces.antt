-- What follows of a piece that was taken: each of its blocks is the block, and what is known stays known.
use Rattle.std.proofs.Common.{◌≡◌, ℕ, ◌+◌, ◌<◌, List, [], length, get_or, Some, Result, Ok, Err, IfOk, IfErr, inl, inr, sym, ap, ◌∙◌, subst, arith}
use Rattle.std.specs.Borrow.{Bor}
use Rattle.chains.proofs.Cases.{some_or_none}
use Rattle.sha2.specs.Sha256.{sha256}
use Rattle.hashtree.specs.Tree.{block, block_count}
use Rattle.node_maps.specs.Digest.{Hash}
use Rattle.node_maps.specs.Known.{Known, look}
use Rattle.partial_tree.specs.TreeRoot.{TreeRoot}
use Rattle.partial_tree.specs.LeafRows.{row_claims, row_pads, row_joins, IsLeafRow, TakesRow}
use Rattle.partial_tree.specs.LeafPieces.{leaves_in}
use Rattle.partial_tree.specs.declared.refusal.PieceRefusal.{PieceRefusal}
use Rattle.partial_tree.proofs.ClaimValues.{first_of_two, second_of_two}
use Rattle.partial_tree.proofs.Joining.{joined-keeps}
use Rattle.partial_tree.proofs.TakenRows.{claimed-leaf}
use Rattle.partial_tree.proofs.LeafPieces.{leaf-at, length-leaves, piece-row}
use Rattle.session.specs.Session.{SessionSeen, IsTree, HasClosedTrees}
use Rattle.session.specs.Layouts.{tree_of}
use Rattle.session.specs.SafeStep.{KeepsKnown}
use Rattle.session.specs.Pieces.{IsTakenFrom, IsTakenPiece, IsPieceRefused, ArePieceBlocks, HasFileEndPads, piece_span}
use Rattle.session.proofs.OneTree.{one-keeps, tree-after}
use Rattle.session.proofs.Entries.{says-block}
use Rattle.std.proofs.Common.{◌≤◌, ◌^◌, subst₂}
use Rattle.std.proofs.lemmas.Option.{same_Some}
use Rattle.opening.specs.Description.{Description}
use Rattle.partial_tree.specs.EndPads.{AreEndPadsKnown}
use Rattle.partial_tree.specs.Kept.{TreeState}
use Rattle.tree_laws.proofs.EndPads.{row-brings}

module _ (t : TreeRoot) (first k : ℕ) (hashes : Bor (List Hash)) (row : IsLeafRow t.length first k (length hashes.now)) where
  pub known-leaf : (before after : Known) (c : ℕ) → TakesRow t.length first k hashes.now before c after → (j : ℕ)
      → j < length hashes.now
      → look after 0 (first + j) ≡ Some (get_or hashes.now j [])
  known-leaf before after c (ok, joins) j low =
      let claim = claimed-leaf t first k hashes row j low in
      joins.joined_is 0 (first + j) ∙ elim (some_or_none (look before 0 (first + j))) [
        | inl (u, known) ↦ first_of_two (look before 0 (first + j)) (row_joins t.length first k hashes.now 0 (first + j)) _
            (known ∙ ap Some (ok.agrees 0 (first + j) u (get_or hashes.now j []) known claim))
        | inr none ↦ second_of_two (look before 0 (first + j)) (row_joins t.length first k hashes.now 0 (first + j)) none
            ∙ first_of_two (row_claims first k hashes.now 0 (first + j)) (row_pads t.length first k 0 (first + j)) (get_or hashes.now j []) claim
      ]

module _ (S : SessionSeen) (file first : ℕ) (bytes : List ℕ) (S' : SessionSeen) (h : IsTakenFrom S file first bytes S') where
  abbrev k : ℕ
  k = piece_span S.torrent.piece_length h.in_file.tree.length

  abbrev leaves : Bor (List Hash)
  leaves = record { ref_ptr = (0, 0); now = leaves_in bytes }

  -- each block of a piece that was taken is that block
  pub piece-blocks : HasClosedTrees S' → ArePieceBlocks S' bytes file first
  piece-blocks closed j low =
      let row : IsLeafRow h.in_file.tree.length first k (length (leaves_in bytes)) = piece-row h.in_file.tree.length first k bytes h.row in
      let few : j < length (leaves_in bytes) = omega (arith, low, length-leaves bytes) in
      let inside : first + j < block_count h.in_file.tree.length = omega (arith, few, row.count_is) in
      let known : look h.after.known 0 (first + j) ≡ Some (sha256 (block bytes j)) =
      known-leaf h.in_file.tree first k leaves row h.in_file.state.known h.after.known h.count h.taken j few ∙ ap Some (leaf-at bytes j low) in
      says-block S' closed file (record { number = first + j; bytes = block bytes j }) h.in_file.tree_number h.in_file.tree h.after
      (ap (λ U. tree_of U file) h.state_after ∙ h.in_file.of_file) (tree-after S h.in_file.tree_number h.in_file.tree
      h.in_file.state h.after S' h.in_file.is_tree h.state_after) (inside, known)

  -- the last piece brings the pads beside the file's end
  pub piece-brings : HasFileEndPads S' file first
  piece-brings n of tree s at reach =
      let there : IsTree S' h.in_file.tree_number h.in_file.tree h.after =
      tree-after S h.in_file.tree_number h.in_file.tree h.in_file.state h.after S' h.in_file.is_tree h.state_after in
      let number : n ≡ h.in_file.tree_number = same_Some n h.in_file.tree_number (sym of ∙ ap (λ U. tree_of U file) h.state_after ∙ h.in_file.of_file) in
      let at' : IsTree S' h.in_file.tree_number tree s = subst (λ m. IsTree S' m tree s) number at in
      let state : h.after ≡ s = same_Some h.after s (sym there.state_is ∙ at'.state_is) in
      let one : h.in_file.tree ≡ tree = same_Some h.in_file.tree tree (sym there.tree_is ∙ at'.tree_is) in
      let torrent : S'.torrent ≡ S.torrent = ap (λ (U : SessionSeen). U.torrent) h.state_after in
      let reach' : block_count h.in_file.tree.length ≤ first + 2 ^ piece_span S.torrent.piece_length h.in_file.tree.length =
      subst (λ (d : Description). block_count h.in_file.tree.length ≤ first + 2 ^ piece_span d.piece_length h.in_file.tree.length) torrent
      (subst (λ (r : TreeRoot). block_count r.length ≤ first + 2 ^ piece_span S'.torrent.piece_length r.length) (sym one) reach) in
      subst₂ (λ (r : TreeRoot) (st : TreeState). AreEndPadsKnown r.length (look st.known)) one state
      (row-brings h.in_file.tree.length first k (leaves_in bytes) h.in_file.state.known h.after.known h.count h.taken reach')

  -- what is known stays known
  pub piece-keeps : KeepsKnown S S'
  piece-keeps = one-keeps S h.in_file.tree_number h.in_file.state h.after S' h.in_file.is_tree.state_is h.state_after
      (λ l i v known. h.taken.1.joined_is l i
      ∙ joined-keeps (look h.in_file.state.known) (row_joins h.in_file.tree.length first k (leaves_in bytes)) l i v known)

pub blocks-of_piece : (S : SessionSeen) (index : ℕ) (bytes : List ℕ) (S' : SessionSeen) (r : Result (ℕ × ℕ) PieceRefusal) → HasClosedTrees S'
    → IfOk r (λ p. IsTakenPiece S index bytes p.0 p.1 S') → IfOk r (λ p. ArePieceBlocks S' bytes p.0 p.1)
blocks-of_piece S index bytes S' (Ok p) closed taken = piece-blocks S p.0 p.1 bytes S' taken.1 closed
blocks-of_piece S index bytes S' (Err x) closed taken = tt

pub pads-of_piece : (S : SessionSeen) (index : ℕ) (bytes : List ℕ) (S' : SessionSeen) (r : Result (ℕ × ℕ) PieceRefusal)
    → IfOk r (λ p. IsTakenPiece S index bytes p.0 p.1 S') → IfOk r (λ p. HasFileEndPads S' p.0 p.1)
pads-of_piece S index bytes S' (Ok p) taken = piece-brings S p.0 p.1 bytes S' taken.1
pads-of_piece S index bytes S' (Err x) taken = tt

pub known-after_piece : (S : SessionSeen) (index : ℕ) (bytes : List ℕ) (S' : SessionSeen) (r : Result (ℕ × ℕ) PieceRefusal)
    → IfOk r (λ p. IsTakenPiece S index bytes p.0 p.1 S') → IfErr r (λ x. IsPieceRefused S index bytes x × (S' ≡ S)) → KeepsKnown S S'
known-after_piece S index bytes S' (Ok p) taken refused = piece-keeps S p.0 p.1 bytes S' taken.1
known-after_piece S index bytes S' (Err x) taken refused = λ n tree s at. (s, subst (λ U. IsTree U n tree s) (sym refused.1) at, λ l i v known. known)
