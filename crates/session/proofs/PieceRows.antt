-- The row of leaves of a piece of a file.
use Rattle.std.proofs.Common.{◌≡◌, ℕ, ◌+◌, ◌-◌, ◌*◌, ◌%◌, ◌^◌, ◌<◌, ◌≤◌, inl, inr, sym, ap, ◌∙◌, subst, arith, pow_pos, mod-eq_of_lt}
use Rattle.std.specs.Prelude.{min}
use Rattle.std.proofs.Math.Nat.{mul-mod_left, mul-add-mod_self_right}
use Rattle.std.proofs.lemmas.Bool.{cases_lt}
use Rattle.std.proofs.lemmas.Nat.{pow_below}
use Rattle.hashtree.specs.Tree.{block_count}
use Rattle.hashtree.proofs.Heights.{height_enough, height_least}
use Rattle.node_maps.specs.Places.{tree_height}
use Rattle.pieces.specs.Pieces.{IsPieceLength}
use Rattle.opening.specs.PieceLayers.{piece_layer}
use Rattle.opening.proofs.Layering.{piece_is, layer_is}
use Rattle.partial_tree.specs.LeafPieces.{IsPieceRow}
use Rattle.session.specs.Pieces.{piece_span, piece_size, IsTakenFrom, IsRefusedFrom, IsPieceRefused}
use Rattle.opening.specs.Places.{place_of}
use Rattle.std.proofs.Common.{◌/◌, List, length, set, Some, None, Result, Ok, Err, IfOk, IfErr}
use Rattle.opening.specs.Description.{Description}
use Rattle.node_maps.specs.Known.{Known, look}
use Rattle.node_maps.specs.Places.{IsKnown}
use Rattle.partial_tree.specs.Claims.{HasNew, IsMismatch}
use Rattle.partial_tree.specs.Kept.{KeptTree, info_of, IsGoodTree}
use Rattle.partial_tree.specs.LeafRows.{row_claims, row_joins, TakesRow, mark_run}
use Rattle.partial_tree.specs.LeafPieces.{leaves_in, TreeTakesPiece, TreeRefusesPiece}
use Rattle.partial_tree.specs.declared.refusal.PieceRefusal.{PieceRefusal}
use Rattle.partial_tree.specs.declared.refusal.PieceRefusal.TheVariants.{BadPlace, BadSize, Unproved, BadPiece, NoMemory}
use Rattle.session.specs.Asks.{AskSet}
use Rattle.session.specs.Layouts.{SessionSeen, seen}
use Rattle.session.specs.BlockTree.{HasBlockTree}
use Rattle.session.proofs.KeptTrees.{IsKeptTree, tree-after, tree-stays}
use Rattle.session.proofs.BlockTrees.{length_there, block_inside, in_kept_file}
use Rattle.tree_laws.proofs.Keeping.{StaysGood}
use Rattle.partial_tree.proofs.Ranges.{pow_more}

module _ (p : ℕ) (legal : IsPieceLength p) where
  -- a piece has a power of two of blocks
  pub piece_blocks : p ≡ 16384 * 2 ^ piece_layer p
  piece_blocks =
      let all : legal.0 ≡ 14 + (legal.0 - 14) = omega (arith, legal.1) in
      let is : p ≡ 16384 * 2 ^ (legal.0 - 14) = piece_is p (legal.0 - 14) (legal.3 ∙ ap (λ x. 2 ^ x) all) in
      is ∙ ap (λ m. 16384 * 2 ^ m)
      (sym (layer_is p (legal.0 - 14) (piece_layer p) is (height_enough (block_count p)) (height_least (block_count p))))

  -- a piece begins at a multiple of them
  pub first-aligned : (index begun b : ℕ) → index * p + 0 ≡ begun * p + 16384 * b → b % 2 ^ piece_layer p ≡ 0
  first-aligned index begun b at =
      let w : ℕ = 2 ^ piece_layer p in
      let wide : index * (16384 * 2 ^ piece_layer p) + 0 ≡ begun * (16384 * 2 ^ piece_layer p) + 16384 * b =
      subst (λ x. index * x + 0 ≡ begun * x + 16384 * b) piece_blocks at in
      let same : begun * 2 ^ piece_layer p + b ≡ index * 2 ^ piece_layer p = omega (arith, wide) in
      sym (mul-add-mod_self_right begun (2 ^ piece_layer p) b) ∙ ap (λ x. x % 2 ^ piece_layer p) same ∙ mul-mod_left index (2 ^ piece_layer p)

  module _ (len first size : ℕ) (some : first < block_count len) (aligned : first % 2 ^ piece_layer p ≡ 0) (is : size ≡ piece_size p len first) where
    of_many : piece_layer p ≤ tree_height len → IsPieceRow len first (piece_span p len) size
    of_many inside =
        let k : piece_span p len ≡ piece_layer p = omega (arith, inside) in
        subst (λ n. IsPieceRow len first n size) (sym k)
        (record { span_inside = inside; aligned = aligned; some = some; size_is = is ∙ ap (λ x. min x (len - 16384 * first)) piece_blocks })

    of_one : tree_height len < piece_layer p → IsPieceRow len first (piece_span p len) size
    of_one less =
        let k : piece_span p len ≡ tree_height len = omega (arith, less) in
        let below : 2 ^ tree_height len < 2 ^ piece_layer p = pow_below (tree_height len) (piece_layer p) less in
        let enough : block_count len ≤ 2 ^ tree_height len = height_enough (block_count len) in
        let low : first < 2 ^ piece_layer p = omega (arith, some, enough, below) in
        let none : first ≡ 0 = sym (mod-eq_of_lt low) ∙ aligned in
        subst (λ n. IsPieceRow len first n size) (sym k) (record {
          span_inside = omega arith;
          aligned = subst (λ f. f % 2 ^ tree_height len ≡ 0) (sym none) (mod-eq_of_lt (pow_pos (tree_height len)));
          some = some;
          size_is = omega (arith, is, piece_blocks, enough, below, none);
        })

    pub row-of-piece : IsPieceRow len first (piece_span p len) size
    row-of-piece = elim (cases_lt (tree_height len) (piece_layer p)) [ inl less ↦ of_one less | inr inside ↦ of_many inside ]

-- ---- what a tree says of a piece

module _ {d : Description} {ts : List KeptTree} {o : AskSet} {v : SessionSeen} {n : ℕ} {a : KeptTree} (x : IsKeptTree d ts o v n a) {file first : ℕ}
    (e : HasBlockTree v file first n) (bytes : List ℕ) (size : length bytes ≡ piece_size v.torrent.piece_length e.entry.length first)
    (k : ℕ) (span : k ≡ piece_span v.torrent.piece_length a.length) where
  size_here : length bytes ≡ piece_size v.torrent.piece_length a.length first
  size_here = size ∙ ap (λ m. piece_size v.torrent.piece_length m first) (sym (length_there x e))

  module _ (aligned : first % 2 ^ piece_layer v.torrent.piece_length ≡ 0) where
    row_here : IsPieceRow a.length first (piece_span v.torrent.piece_length a.length) (length bytes)
    row_here = row-of-piece v.torrent.piece_length e.sound.legal a.length first (length bytes) (block_inside x e) aligned size_here

    pub piece_row : IsPieceRow a.length first k (length bytes)
    piece_row = subst (λ m. IsPieceRow a.length first m (length bytes)) (sym span) row_here

    pub piece_taken : {X : Type 0} (next : KeptTree) (r : Result X PieceRefusal) → IfOk r (λ _. TreeTakesPiece a first k bytes next)
        → IfOk r (λ _. IsTakenFrom v file first bytes (seen d o (set ts n next)))
    piece_taken next (Err z) ok = tt
    piece_taken next (Ok z) ok = record {
      in_file = in_kept_file x e;
      size = size_here;
      row = row_here;
      count = ok.count;
      after = next.state;
      taken = subst (λ m. TakesRow a.length first m (leaves_in bytes) a.state.known ok.count next.state.known) span
          (subst (λ (m : Known). TakesRow a.length first k (leaves_in bytes) a.state.known ok.count m)
          (sym (ap (λ (t : KeptTree). t.state.known) ok.marks)) ok.joins.0);
      marks = ap (λ (t : KeptTree). t.state.marked) ok.marks ∙ ap (λ (t : KeptTree). mark_run t.state.marked first (block_count (length bytes))) ok.joins.1;
      state_after = tree-after x next;
    }

  refused_here : (z : PieceRefusal) → TreeRefusesPiece a first k bytes z → IsRefusedFrom v file first bytes z
  refused_here Unproved h = (in_kept_file x e, (size_here, subst (λ m. look a.state.known m (first / 2 ^ m) ≡ None) span h))
  refused_here BadPiece h = (
    in_kept_file x e,
    (
      size_here,
      subst (λ m. IsKnown (look a.state.known) m (first / 2 ^ m)) span h.0,
      subst (λ m. IsMismatch (look a.state.known) (row_claims first m (leaves_in bytes))) span h.1,
    ),
  )
  refused_here NoMemory h = (
    in_kept_file x e,
    (
      size_here,
      subst (λ m. IsKnown (look a.state.known) m (first / 2 ^ m)) span h.0,
      subst (λ m. HasNew (look a.state.known) (row_joins a.length first m (leaves_in bytes))) span h.1,
    ),
  )
  refused_here BadPlace h = absurd h
  refused_here BadSize h = absurd h

  pub piece_refused : {X : Type 0} (next : KeptTree) (r : Result X PieceRefusal) → IfErr r (λ z. TreeRefusesPiece a first k bytes z × (next ≡ a))
      → IfErr r (λ z. IsRefusedFrom v file first bytes z × (seen d o (set ts n next) ≡ v))
  piece_refused next (Ok z) h = tt
  piece_refused next (Err z) (refuses, same) = (refused_here z refuses, tree-stays x next same)

-- a tree stays good after a piece, whether it was taken or refused
pub good_after_piece : {X : Type 0} (a b : KeptTree) (first k : ℕ) (bytes : List ℕ) (r : Result X PieceRefusal) → IsGoodTree b
    → IfOk r (λ _. TreeTakesPiece a first k bytes b) → IfErr r (λ x. TreeRefusesPiece a first k bytes x × (b ≡ a)) → StaysGood a b
good_after_piece a b first k bytes (Ok x) good taken refused = (ap info_of taken.marks ∙ ap info_of taken.joins.1, good)
good_after_piece a b first k bytes (Err x) good taken refused = (ap info_of refused.1, good)

-- a legal piece length is that of a shape
pub legal_bounds : (p : ℕ) → IsPieceLength p → (0 < p) × (p ≤ 2 ^ 46)
legal_bounds p legal = (
  subst (λ n. 0 < n) (sym legal.3) (pow_pos legal.0),
  subst (λ n. n ≤ 2 ^ 46) (sym legal.3) (pow_more legal.0 46 (omega (arith, legal.2))),
)

-- what is refused from a piece's first block on is refused as that piece
pub refused_piece : (S : SessionSeen) (index : ℕ) (bytes : List ℕ) (file first : ℕ) (r : PieceRefusal) → place_of S.torrent index 0 ≡ Some (file, first)
    → IsRefusedFrom S file first bytes r → IsPieceRefused S index bytes r
refused_piece S index bytes file first BadPlace at (p, h) = absurd h
refused_piece S index bytes file first BadSize at (p, h) = (file, first, at, (p, h))
refused_piece S index bytes file first Unproved at (p, h) = (file, first, at, (p, h))
refused_piece S index bytes file first NoMemory at (p, h) = (file, first, at, (p, h))
refused_piece S index bytes file first BadPiece at (p, h) = (file, first, at, (p, h))
