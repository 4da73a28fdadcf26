-- What is settled of a true piece is proved, or a collision is named.
use Rattle.std.proofs.Common.{◌≡◌, ◌≢◌, ◌⊎◌, ℕ, ◌+◌, ◌-◌, ◌/◌, ◌^◌, ◌<◌, ◌≤◌, Bool, true, false, List, length, Option, Some, None, IsSome, Result, Ok, Err}
use Rattle.std.proofs.Common.{inl, inr, refl, sym, ap, ◌∙◌, subst, arith}
use Rattle.std.specs.Prelude.{slice_get}
use Rattle.std.specs.FinMap.{get}
use Rattle.std.specs.Option.{option_or}
use Rattle.std.proofs.lemmas.Bool.{cases_lt, false≢true}
use Rattle.node_maps.specs.Places.{IsKnown}
use Rattle.partial_tree.specs.Claims.{IsAgreed}
use Rattle.std.proofs.lemmas.Option.{none-some, same_Some}
use Rattle.sha2.specs.Sha256.{sha256}
use Rattle.hashtree.specs.Tree.{block, block_count, node}
use Rattle.node_maps.specs.Digest.{Hash}
use Rattle.node_maps.specs.Known.{look}
use Rattle.node_maps.specs.Places.{tree_height, IsTreePlace}
use Rattle.partial_tree.specs.Closed.{IsClosed, Collision, whole}
use Rattle.partial_tree.specs.TreeRoot.{TreeRoot, Fits}
use Rattle.partial_tree.specs.declared.refusal.PieceRefusal.{PieceRefusal}
use Rattle.partial_tree.specs.declared.refusal.PieceRefusal.TheVariants.{BadPiece, NoMemory}
use Rattle.tree_laws.proofs.Stored.{agreed_or_collision}
use Rattle.tree_laws.proofs.Whole.{whole-at, whole-closed}
use Rattle.tree_laws.proofs.Trees.{node-leaf}
use Rattle.session.specs.Layouts.{roots}
use Rattle.session.specs.Pieces.{HasPiece, piece_span}
use Rattle.session.specs.Session.{SessionSeen, TreeState, IsTree, HasClosedTrees}
use Rattle.session.proofs.TakenLeaves.{true-leaves}
use Rattle.holdings.specs.declared.piece_range.Pieces.{Pieces}
use Rattle.holdings.specs.declared.run.Run.{Run}
use Rattle.holdings.specs.declared.run.Settled.{Settled}
use Rattle.holdings.specs.declared.run.Settled.TheVariants.{Proved, False}
use Rattle.holdings.specs.Cells.{Cells, digest_in, known_in, known_at, tried_leaf, IsComplete}
use Rattle.holdings.specs.Settling.{IsKnownJudged, IsPieceFalse, Settles}
use Rattle.holdings.specs.Holdings.{HoldingsSeen, PieceSeen}
use Rattle.holdings.specs.Next.{AreUnsettled, SettlesNext, LacksMemoryNext}
use Rattle.holdings.specs.TruePieces.{IsTruePiece, IsProvedOr, ProvesTruePiece, TruePieceIsProved}

-- a known leaf of a tree is that of a file which fits, or a collision is named
true-leaf : (t : TreeRoot) (s : TreeState) (f : List ℕ) (b : ℕ) (v : Hash) → Fits f t.length t.root → IsClosed t (look s.known) → look s.known 0 b ≡ Some v
    → b < block_count t.length → (v ≡ sha256 (block f b)) ⊎ Collision (whole f) (look s.known)
true-leaf t s f b v fits closed known low = by (agreed_or_collision t (whole f) (look s.known) (whole-closed f t fits) closed)
  where
    at : IsTreePlace (tree_height t.length) 0 b
    at = closed.in_tree 0 b v known

    true-value : whole f 0 b ≡ Some (sha256 (block f b))
    true-value = whole-at f 0 b (subst (λ n. IsTreePlace (tree_height n) 0 b) (sym fits.same_length) at)
        ∙ ap Some (node-leaf f b (subst (λ n. b < block_count n) (sym fits.same_length) low))

    by : IsAgreed (whole f) (look s.known) ⊎ Collision (whole f) (look s.known) → (v ≡ sha256 (block f b)) ⊎ Collision (whole f) (look s.known)
    by (inl same) = inl (sym (same 0 b (sha256 (block f b)) v true-value known))
    by (inr collision) = inr collision

module _ (S : SessionSeen) (h : HoldingsSeen) (n first : ℕ) (f : List ℕ) (t : IsTruePiece S h n first f) (closed : HasClosedTrees S) where
  abbrev C : Type 0
  C = Collision (whole f) (look t.state.known)

  abbrev cells : Cells
  cells = t.seen.cells

  abbrev size : ℕ
  size = length t.seen.cells

  some-if : {X : Type 0} (o : Option X) (x : X) → o ≡ Some x → IsSome o
  some-if o x e = subst IsSome (sym e) refl

  -- it is complete
  complete : IsComplete S n first size cells
  complete = record {
    node = t.node;
    held = t.held;
    all = λ j low. some-if (tried_leaf S n first cells j) _ (t.all j low);
  }

  -- so it is no piece of which nothing can be settled
  pub not-unsettled : (p : Pieces) (end : ℕ) → p.tree ≡ n → p.from ≤ first → first < end → ¬ AreUnsettled S h p end
  not-unsettled p end tree from low passed =
      (passed first from low t.seen (ap (λ m. get h.pieces (pair m first)) tree ∙ t.there) (subst (λ m. HasPiece S m first size) (sym tree) t.piece)).incomplete
      (subst (λ m. IsComplete S m first size cells) (sym tree) complete)
    where
      pair : ℕ → ℕ → ℕ × ℕ
      pair a b = (a, b)

  known-here : (l i : ℕ) → known_at S n l i ≡ look t.state.known l i
  known-here l i = ap (λ o. known_in o l i) t.is_tree.state_is

  -- a held block whose known leaf is another digest names a collision
  false-block : (run : Run) (S' : SessionSeen) (cells' : Cells) → IsKnownJudged S n first size cells (False run) S' cells' → C
  false-block run S' cells' k = by (true-leaf t.tree t.state f (first + k.from) k.is_first.leaf t.fits
      (closed.closed n t.tree t.state t.is_tree) (sym (known-here 0 (first + k.from)) ∙ k.is_first.known) inside)
    where
      inside : first + k.from < block_count t.tree.length
      inside = let row = t.piece t.tree t.is_tree.tree_is in omega (arith, k.is_first.inside, row.count_is)

      digest : k.is_first.digest ≡ sha256 (block f (first + k.from))
      digest = same_Some k.is_first.digest _
          (sym (ap (λ o. option_or o (known_at S n 0 (first + k.from))) k.is_first.held) ∙ t.all k.from k.is_first.inside)

      by : (k.is_first.leaf ≡ sha256 (block f (first + k.from))) ⊎ C → C
      by (inl same) = absurd (k.judged.other k.is_first.digest k.is_first.held (k.is_first.known ∙ ap Some (same ∙ sym digest)))
      by (inr collision) = collision

  -- a piece that is refuted names a collision
  false-piece : (run : Run) (S' : SessionSeen) (cells' : Cells) → IsPieceFalse S n first size cells run S' cells' → C
  false-piece run S' cells' k = by (true-leaves S closed n first leaves piece S (Err BadPiece) (k.refuted.refused, refl) t.tree t.state f t.is_tree t.fits
      are known)
    where
      leaves : List Hash
      leaves = k.refuted.leaves

      count : length leaves ≡ size
      count = k.refuted.tried.count

      piece : HasPiece S n first (length leaves)
      piece = subst (HasPiece S n first) (sym count) t.piece

      are : (j : ℕ) → j < length leaves → slice_get leaves j ≡ Some (sha256 (block f (first + j)))
      are j low = let few : j < size = omega (arith, low, count) in sym (k.refuted.tried.each j few) ∙ t.all j few

      some-of : {X : Type 0} (o : Option X) → IsSome o → (x : X) × (o ≡ Some x)
      some-of None some = absurd (false≢true some)
      some-of (Some x) some = (x, refl)

      known : IsKnown (look t.state.known) (piece_span S.torrent.piece_length t.tree.length)
          (first / 2 ^ piece_span S.torrent.piece_length t.tree.length)
      known =
          let k : ℕ = piece_span S.torrent.piece_length t.tree.length in
          let (u, there, node) = t.node in
          let one : u ≡ t.tree = same_Some u t.tree (sym there ∙ t.is_tree.tree_is) in
          let here : IsSome (known_at S n k (first / 2 ^ k)) = subst (λ (r : TreeRoot). IsSome (known_at S n
          (piece_span S.torrent.piece_length r.length) (first / 2 ^ piece_span S.torrent.piece_length r.length))) one node in
          some-of (look t.state.known k (first / 2 ^ k)) (subst IsSome (known-here k (first / 2 ^ k)) here)

      taken : Result ℕ PieceRefusal → Bool
      taken (Ok c) = true
      taken (Err x) = false

      lacking : Result ℕ PieceRefusal → Bool
      lacking (Err NoMemory) = true
      lacking r = false

      by : ((c : ℕ) × (◌≡◌ {A = Result ℕ PieceRefusal} (Err BadPiece) (Ok c))) ⊎ ((◌≡◌ {A = Result ℕ PieceRefusal} (Err BadPiece) (Err NoMemory)) ⊎ C) → C
      by (inl (c, wrong)) = absurd (false≢true (ap taken wrong))
      by (inr (inl wrong)) = absurd (false≢true (ap lacking wrong))
      by (inr (inr collision)) = collision

  pub settled-true : (e : Settled) (S' : SessionSeen) (cells' : Cells) → Settles S n first size cells e S' cells' → IsProvedOr e C
  settled-true (Proved run) S' cells' s = tt
  settled-true (False run) S' cells' (inl k) = false-block run S' cells' k
  settled-true (False run) S' cells' (inr k) = false-piece run S' cells' k

pub true-proved : TruePieceIsProved
true-proved S h p first f t closed from low = record {
  not_passed = not-unsettled S h p.tree first f t closed p p.end refl from low;
  in_turn = λ e S' h' p' next. in-turn next.first next.passed;
  proved = λ e S' h' p' next here.
      let there = next.settles in
      let same : there.seen ≡ t.seen = same_Some there.seen t.seen (sym there.there ∙ ap (λ m. get h.pieces (pair p.tree m)) here ∙ t.there) in
      settled-true S h p.tree first f t closed e S' there.cells
      (subst (λ (x : PieceSeen). Settles S p.tree first (length x.cells) x.cells e S' there.cells) same
      (subst (λ m. Settles S p.tree m (length there.seen.cells) there.seen.cells e S' there.cells) here there.settles));
  memory = λ p' next. in-turn next.first next.passed;
}
  where
    pair : ℕ → ℕ → ℕ × ℕ
    pair a b = (a, b)

    in-turn : (m : ℕ) → AreUnsettled S h p m → m ≤ first
    in-turn m passed = by (cases_lt first m)
      where
        by : (first < m) ⊎ (m ≤ first) → m ≤ first
        by (inl less) = absurd (not-unsettled S h p.tree first f t closed p m refl from less passed)
        by (inr more) = more
