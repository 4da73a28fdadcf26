-- The leaves of a true piece agree with what is known, or a collision is named.
use Rattle.std.proofs.Common.{◌≡◌, ◌⊎◌, ℕ, ◌+◌, ◌-◌, ◌*◌, ◌/◌, ◌^◌, ◌<◌, ◌≤◌, List, [], length, get_or, replicate, Some}
use Rattle.std.proofs.Common.{Result, Ok, Err, IfOk, IfErr, inl, inr, refl, sym, ap, ◌∙◌, subst, arith}
use Rattle.std.proofs.Common.{div-add-mod'}
use Rattle.std.specs.Prelude.{slice_get}
use Rattle.std.specs.Borrow.{Bor}
use Rattle.std.proofs.lemmas.Bool.{cases_lt}
use Rattle.std.proofs.lemmas.Nat.{mul-le}
use Rattle.std.proofs.lemmas.List.{get_or_append_left, get_or-append_right, get_or-replicate}
use Rattle.std.proofs.lemmas.Option.{same_Some, none-some, slice_get_within, get_or_from_slice_get}
use Rattle.sha2.specs.Sha256.{sha256}
use Rattle.hashtree.specs.Tree.{block, block_count, node, zero_hash}
use Rattle.hashtree.proofs.Heights.{height_enough, pow_split}
use Rattle.hashtree.proofs.Zeros.{zero_hash-zero}
use Rattle.node_maps.specs.Digest.{Hash}
use Rattle.node_maps.specs.Known.{look}
use Rattle.node_maps.specs.Places.{tree_height, PartialTree, IsTreePlace, IsKnown}
use Rattle.partial_tree.specs.Closed.{IsClosed, Collision, whole}
use Rattle.partial_tree.specs.TreeRoot.{TreeRoot, Fits}
use Rattle.partial_tree.specs.Claims.{cover, base_hash, uncle_hash, IsAgreed, IsHeldBy}
use Rattle.partial_tree.specs.LeafRows.{row_ask, padded_leaves, row_claims, IsLeafRow}
use Rattle.partial_tree.specs.LeafPieces.{leaves_in}
use Rattle.partial_tree.specs.declared.refusal.PieceRefusal.{PieceRefusal}
use Rattle.partial_tree.specs.declared.refusal.PieceRefusal.TheVariants.{BadPlace, BadSize, Unproved, BadPiece, NoMemory}
use Rattle.partial_tree.proofs.ClaimValues.{either, base-read, uncle-read}
use Rattle.partial_tree.proofs.LeafRows.{full}
use Rattle.partial_tree.proofs.LeafPieces.{leaf-at, length-leaves, piece-row}
use Rattle.tree_laws.proofs.Trees.{node-leaf, node-pad}
use Rattle.tree_laws.proofs.Whole.{whole-at, whole-closed}
use Rattle.tree_laws.proofs.Stored.{agreed_or_collision, said-claims}
use Rattle.opening.specs.Places.{place_of}
use Rattle.session.specs.Session.{SessionSeen, TreeState, IsInFile, HasClosedTrees}
use Rattle.session.specs.Pieces.{IsTakenPiece, IsPieceRefused, IsRefusedFrom, TakesTruePiece, PieceFault, piece_span, piece_size}
use Rattle.session.proofs.Entries.{same_tree, same_state}

module _ (t : TreeRoot) (f : List ℕ) (fits : Fits f t.length t.root) (first k : ℕ) (hashes : Bor (List Hash))
    (row : IsLeafRow t.length first k (length hashes.now))
    (true_leaves : (j : ℕ) → j < length hashes.now → get_or hashes.now j [] ≡ sha256 (block f (first + j))) where
  -- the row lies in the tree
  within : first + 2 ^ k ≤ 2 ^ tree_height t.length
  within =
      let q = first / 2 ^ k in
      let whole_part : first ≡ first / 2 ^ k * 2 ^ k = omega (arith, div-add-mod' first (2 ^ k), row.aligned) in
      let enough : block_count t.length ≤ 2 ^ tree_height t.length = height_enough (block_count t.length) in
      let split : 2 ^ (tree_height t.length - k) * 2 ^ k ≡ 2 ^ tree_height t.length = pow_split (tree_height t.length) k row.span_inside in
      elim (cases_lt (first / 2 ^ k) (2 ^ (tree_height t.length - k))) [
        | inl low ↦
            let up : (first / 2 ^ k + 1) * 2 ^ k ≤ 2 ^ (tree_height t.length - k) * 2 ^ k =
            mul-le (first / 2 ^ k + 1) (2 ^ k) (2 ^ (tree_height t.length - k)) (2 ^ k) (omega (arith, low)) (omega arith) in
            let more : (first / 2 ^ k + 1) * 2 ^ k ≡ first / 2 ^ k * 2 ^ k + 2 ^ k = omega arith in
            omega (arith, up, more, whole_part, split)
        | inr high ↦
            let over : 2 ^ (tree_height t.length - k) * 2 ^ k ≤ first / 2 ^ k * 2 ^ k =
            mul-le (2 ^ (tree_height t.length - k)) (2 ^ k) (first / 2 ^ k) (2 ^ k) high (omega arith) in
            absurd (omega (arith, over, split, whole_part, enough, row.some))
      ]

  in_whole : (i : ℕ) → i < first + 2 ^ k → whole f 0 i ≡ Some (node f 0 i)
  in_whole i low =
      let high : i < 2 ^ tree_height t.length = omega (arith, low, within) in
      let none : tree_height t.length - 0 ≡ tree_height t.length = omega arith in
      let at : IsTreePlace (tree_height t.length) 0 i = (omega arith, subst (λ n. i < 2 ^ n) (sym none) high) in
      whole-at f 0 i (subst (λ n. IsTreePlace (tree_height n) 0 i) (sym fits.same_length) at)

  held-at : (i : ℕ) (v : Hash) → first ≤ i → i < first + 2 ^ k → slice_get (padded_leaves k hashes.now) (i - first) ≡ Some v → whole f 0 i ≡ Some v
  held-at i v from low got =
      let is : get_or (padded_leaves k hashes.now) (i - first) [] ≡ v = get_or_from_slice_get (padded_leaves k hashes.now) (i - first) v [] got in
      let back : first + (i - first) ≡ i = omega (arith, from) in
      in_whole i low ∙ ap Some (elim (cases_lt (i - first) (length hashes.now)) [
        | inl there ↦
            let few : i < block_count t.length = omega (arith, there, row.count_is, from) in
            node-leaf f i (subst (λ n. i < block_count n) (sym fits.same_length) few) ∙ ap (λ n. sha256 (block f n)) (sym back)
            ∙ sym (true_leaves (i - first) there)
            ∙ sym (get_or_append_left hashes.now (replicate (2 ^ k - length hashes.now) (zero_hash 0)) [] (i - first) there) ∙ is
        | inr past ↦
            let inside : i - first - length hashes.now < 2 ^ k - length hashes.now = omega (arith, past, low, from) in
            let beyond : block_count t.length ≤ i = omega (arith, past, row.count_is, from, low) in
            let high : i < 2 ^ tree_height t.length = omega (arith, low, within) in
            node-pad f i (subst (λ n. i < 2 ^ tree_height n) (sym fits.same_length) high) (subst (λ n. block_count n ≤ i) (sym fits.same_length) beyond)
            ∙ sym zero_hash-zero
            ∙ sym (get_or-append_right hashes.now (replicate (2 ^ k - length hashes.now) (zero_hash 0)) (length hashes.now) (i - first) [] refl past
            ∙ get_or-replicate (2 ^ k - length hashes.now) (i - first - length hashes.now) (zero_hash 0) [] inside) ∙ is
      ])

  held : IsHeldBy (whole f) (row_ask first k) (padded_leaves k hashes.now)
  held l i v e =
      elim (either (base_hash (row_ask first k) (padded_leaves k hashes.now) l i) (uncle_hash (row_ask first k) (padded_leaves k hashes.now) l i) v e) [
        | inl b ↦
            let (at, from, low, got) = base-read (row_ask first k) (padded_leaves k hashes.now) l i v b in
            ap (λ n. whole f n i) at ∙ held-at i v from low got
        | inr (none, u) ↦
            let (from, at, got) = uncle-read (row_ask first k) (padded_leaves k hashes.now) l i v u in
            let within' : (row_ask first k).length + (l - cover (row_ask first k)) < length (padded_leaves k hashes.now) =
            slice_get_within (padded_leaves k hashes.now) ((row_ask first k).length + (l - cover (row_ask first k))) v got in
            absurd (omega (arith, within', full t first k hashes row))
      ]

  -- the leaves of a true piece agree with what is known
  pub true-row : (K : PartialTree) → IsClosed t K → IsAgreed K (row_claims first k hashes.now) ⊎ Collision (whole f) K
  true-row K closed =
      elim (agreed_or_collision t (whole f) K (whole-closed f t fits) closed) [
        | inl same ↦ inl (λ l i u v p q. sym (same l i v u
            (said-claims t (whole f) (row_ask first k) (padded_leaves k hashes.now) (whole-closed f t fits) held l i v q) p))
        | inr collision ↦ inr collision
      ]

module _ (S : SessionSeen) (closed : HasClosedTrees S) (index : ℕ) (bytes : List ℕ) where
  -- what refuses a piece refuses no true one
  fault : (file first : ℕ) (p : IsInFile S file first) (f : List ℕ) → Fits f p.tree.length p.tree.root
      → IsLeafRow p.tree.length first (piece_span S.torrent.piece_length p.tree.length) (length (leaves_in bytes))
      → length bytes ≡ piece_size S.torrent.piece_length p.tree.length first
      → ((j : ℕ) → j < block_count (length bytes) → block bytes j ≡ block f (first + j))
      → IsKnown (look p.state.known) (piece_span S.torrent.piece_length p.tree.length) (first / 2 ^ piece_span S.torrent.piece_length p.tree.length)
      → (x : PieceRefusal) → PieceFault S.torrent.piece_length p.tree.length (look p.state.known) first bytes x
      → (x ≡ NoMemory) ⊎ Collision (whole f) (look p.state.known)
  fault file first p f fits row size same known BadPlace h = absurd h
  fault file first p f fits row size same known BadSize h = absurd (h size)
  fault file first p f fits row size same known NoMemory h = inl refl
  fault file first p f fits row size same known Unproved h = absurd (none-some known.0 (sym h.1 ∙ known.1))
  fault file first p f fits row size same known BadPiece h =
      elim (true-row p.tree f fits first (piece_span S.torrent.piece_length p.tree.length) (record { ref_ptr = (0, 0); now = leaves_in bytes }) row
      (λ j low. let few : j < block_count (length bytes) = omega (arith, low, length-leaves bytes) in leaf-at bytes j few ∙ ap sha256 (same j few))
      (look p.state.known) (closed.closed p.tree_number p.tree p.state p.is_tree)) [
        | inl agreed ↦ absurd (h.2.differ (agreed h.2.layer h.2.index h.2.in_J h.2.in_K h.2.J_known h.2.K_known))
        | inr collision ↦ inr collision
      ]

  abbrev Outcome : {file first : ℕ} → List ℕ → IsInFile S file first → Result (ℕ × ℕ) PieceRefusal → ℕ → ℕ → Type 0
  Outcome f p r a b = (r ≡ Ok (a, b)) ⊎ ((r ≡ Err NoMemory) ⊎ Collision (whole f) (look p.state.known))

  pub true-piece : (S' : SessionSeen) (r : Result (ℕ × ℕ) PieceRefusal) → IfOk r (λ p. IsTakenPiece S index bytes p.0 p.1 S')
      → IfErr r (λ x. IsPieceRefused S index bytes x × (S' ≡ S)) → TakesTruePiece S index bytes r
  true-piece S' (Ok q) taken refused file first p f at fits row size same known =
      let pair : ℕ → ℕ → ℕ × ℕ = λ a b. (a, b) in
      let one : pair q.0 q.1 ≡ pair file first = same_Some (pair q.0 q.1) (pair file first) (sym taken.0 ∙ at) in
      inl (ap Ok one)
  true-piece S' (Err x) taken refused file first p f at fits row size same known = by x refused.0
    where
      moved : (x : PieceRefusal) → (file' first' : ℕ) → place_of S.torrent index 0 ≡ Some (file', first') → IsRefusedFrom S file' first' bytes x
          → Outcome f p (Err x) file first
      moved x file' first' at' h =
          let pair : ℕ → ℕ → ℕ × ℕ = λ a b. (a, b) in
          let one : pair file' first' ≡ pair file first = same_Some _ _ (sym at' ∙ at) in
          let (q, here) : IsRefusedFrom S file first bytes x = subst (λ (w : ℕ × ℕ). IsRefusedFrom S w.0 w.1 bytes x) one h in
          let tree : q.tree ≡ p.tree = same_tree S file first p.tree_number p.tree p.state p.of_file p.is_tree q in
          let state : q.state ≡ p.state = same_state S file first p.tree_number p.tree p.state p.of_file p.is_tree q in
          let there : PieceFault S.torrent.piece_length p.tree.length (look p.state.known) first bytes x =
          subst (λ (s : TreeState). PieceFault S.torrent.piece_length p.tree.length (look s.known) first bytes x) state
          (subst (λ (r : TreeRoot). PieceFault S.torrent.piece_length r.length (look q.state.known) first bytes x) tree here) in
          elim (fault file first p f fits (piece-row p.tree.length first _ bytes row) size same known x there) [
            | inl memory ↦ inr (inl (ap Err memory))
            | inr collision ↦ inr (inr collision)
          ]

      by : (x : PieceRefusal) → IsPieceRefused S index bytes x
          → Outcome f p (Err x) file first
      by BadPlace h = absurd (none-some _ (sym h ∙ at))
      by BadSize h = moved BadSize h.0 h.1 h.2 h.3
      by Unproved h = moved Unproved h.0 h.1 h.2 h.3
      by NoMemory h = moved NoMemory h.0 h.1 h.2 h.3
      by BadPiece h = moved BadPiece h.0 h.1 h.2 h.3
