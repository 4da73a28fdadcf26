-- Each digest that is held is that of the newest bytes that came for its block.
use Rattle.std.proofs.Common.{◌≡◌, ◌≢◌, ◌⊎◌, ℕ, ◌+◌, ◌-◌, ◌*◌, ◌/◌, ◌%◌, ◌^◌, ◌<◌, ◌≤◌, Bool, true, false, cond, eqb, ◌&&◌, min, List, [], ◌∷◌, suc, length}
use Rattle.std.proofs.Common.{map, set, replicate, Option, Some, None, IsSome, inl, inr, refl, sym, ap, ap₂, ◌∙◌, subst, arith, pow_pos}
use Rattle.std.specs.Prelude.{slice_get}
use Rattle.std.specs.Ordering.{eq_by_cmp}
use Rattle.std.specs.Cmp.{eq_by_cmp_equiv}
use Rattle.std.specs.FinMap.{get, insert, remove, get-insert, get-remove, get-empty}
use Rattle.std.proofs.lemmas.Bool.{false≢true, cases_eq, cond-true, cond-false, and_from, and_left, and_right, eq-eqb, ne_eqb}
use Rattle.std.proofs.lemmas.Nat.{div-mul-add, div-add-mod'}
use Rattle.std.proofs.lemmas.List.{get_or-set_same, get_or-set_other, length-set, length-replicate}
use Rattle.std.proofs.lemmas.Option.{none-some, same_Some}
use Rattle.std.proofs.lemmas.Map.Views.{tells_apart}
use Rattle.sha2.specs.Sha256.{sha256}
use Rattle.hashtree.specs.Tree.{block_count}
use Rattle.node_maps.specs.Digest.{Hash}
use Rattle.node_maps.specs.Known.{place_cmp, look}
use Rattle.node_maps.proofs.Known.{place_total, place_exact}
use Rattle.opening.specs.Description.{Description}
use Rattle.partial_tree.specs.LeafRows.{IsLeafRow}
use Rattle.partial_tree.specs.TreeRoot.{TreeRoot}
use Rattle.session.specs.Layouts.{root_of_entry, roots, tree_of}
use Rattle.session.specs.Pieces.{piece_span, HasPiece}
use Rattle.session.specs.Session.{SessionSeen, TreeState, IsTree, IsFileBlock}
use Rattle.session.proofs.Entries.{says-block}
use Rattle.holdings.specs.declared.holding.Hold.{Hold}
use Rattle.holdings.specs.declared.holding.Hold.TheVariants.{Held, Known, NoMemory}
use Rattle.holdings.specs.declared.run.Run.{Run}
use Rattle.holdings.specs.declared.run.Settled.{Settled}
use Rattle.holdings.specs.declared.run.Settled.TheVariants.{Proved, False}
use Rattle.holdings.specs.Cells.{Cells, digest_in, known_in, known_at}
use Rattle.holdings.specs.Settling.{IsMarkedRun, IsGivenUp, IsBlockJudged, Settles, run_of}
use Rattle.holdings.specs.Holdings.{PieceSeen, HoldingsSeen, KeepsDigest, Renews, BeginsPiece, MakesRoom, with_piece, without_piece}
use Rattle.holdings.specs.Holding.{IsHeldNow}
use Rattle.holdings.specs.Next.{SettlesPiece, LeavesCells, with_cells}
use Rattle.holdings.specs.Runs.{Act, Holds, Settling, Elsewhere, Does, IsSessionOf, Past, newest, CameAsTheBlock, ProvedWasTheBlock}
use Rattle.holding_laws.proofs.Cells.{held-inside, replicate-none, emptied, later-held, marked-length, marked-each}

-- a piece of `size` blocks of a torrent's tree
pub record IsPieceOf (d : Description) (q : ℕ × ℕ) (size : ℕ) : Type 0 where
  pub tree : TreeRoot
  pub there : slice_get (map root_of_entry d.trees) q.0 ≡ Some tree
  pub row : IsLeafRow tree.length q.1 (piece_span d.piece_length tree.length) size

-- the digests of a piece are those of the newest bytes that came
abbrev pub AreNewest : List Act → ℕ × ℕ → Cells → Type 0
AreNewest past q cells = (j : ℕ) (e : Hash) → digest_in cells j ≡ Some e
    → (bytes : List ℕ) × (newest past q.0 (q.1 + j) ≡ Some bytes) × (e ≡ sha256 bytes)

pub record IsHeldFrom (d : Description) (past : List Act) (h : HoldingsSeen) : Type 0 where
  pub piece : (q : ℕ × ℕ) (x : PieceSeen) → get h.pieces q ≡ Some x → IsPieceOf d q (length x.cells)
  pub from : (q : ℕ × ℕ) (x : PieceSeen) → get h.pieces q ≡ Some x → AreNewest past q x.cells

-- a block is in one piece
one-piece : (len k f g c e i j : ℕ) → IsLeafRow len f k c → IsLeafRow len g k e → i < c → j < e → f + i ≡ g + j → f ≡ g
one-piece len k f g c e i j a b low lower same =
    let w : ℕ = 2 ^ k in
    let fw : f ≡ f / 2 ^ k * 2 ^ k = omega (arith, div-add-mod' f (2 ^ k), a.aligned) in
    let gw : g ≡ g / 2 ^ k * 2 ^ k = omega (arith, div-add-mod' g (2 ^ k), b.aligned) in
    let iw : i < 2 ^ k = omega (arith, low, a.count_is) in
    let jw : j < 2 ^ k = omega (arith, lower, b.count_is) in
    let left : (f / 2 ^ k * 2 ^ k + i) / 2 ^ k ≡ f / 2 ^ k = div-mul-add (f / 2 ^ k) (2 ^ k) i iw in
    let right : (g / 2 ^ k * 2 ^ k + j) / 2 ^ k ≡ g / 2 ^ k = div-mul-add (g / 2 ^ k) (2 ^ k) j jw in
    let sums : f / 2 ^ k * 2 ^ k + i ≡ g / 2 ^ k * 2 ^ k + j = omega (arith, fw, gw, same) in
    let parts : f / 2 ^ k ≡ g / 2 ^ k = sym left ∙ ap (λ n. n / 2 ^ k) sums ∙ right in
    fw ∙ ap (λ n. n * 2 ^ k) parts ∙ sym gw

same-piece : (d : Description) (q r : ℕ × ℕ) (c e i j : ℕ) → IsPieceOf d q c → IsPieceOf d r e → i < c → j < e → q.0 ≡ r.0
    → q.1 + i ≡ r.1 + j → q.1 ≡ r.1
same-piece d q r c e i j a b low lower tree same =
    let one : b.tree ≡ a.tree = same_Some b.tree a.tree (sym b.there ∙ ap (slice_get (map root_of_entry d.trees)) (sym tree) ∙ a.there) in
    one-piece a.tree.length (piece_span d.piece_length a.tree.length) q.1 r.1 c e i j a.row
    (subst (λ (t : TreeRoot). IsLeafRow t.length r.1 (piece_span d.piece_length t.length) e) one b.row) low lower same

abbrev pub pair : ℕ → ℕ → ℕ × ℕ
pair a b = (a, b)

-- ---- bytes that are held

module _ (d : Description) (past : List Act) (h : HoldingsSeen) (good : IsHeldFrom d past h) (n first size at : ℕ) (bytes : List ℕ)
    (dropped : Option Run) (h' : HoldingsSeen) (here : IsPieceOf d (pair n first) size) (inside : at < size)
    (keeps : KeepsDigest h (pair n first) size at (sha256 bytes) dropped h') where
  abbrev q : ℕ × ℕ
  q = pair n first

  abbrev act : Act
  act = Holds n (first + at) bytes (Held dropped)

  -- the cells before
  pub record Before : Type 0 where
    pub cells : Cells
    pub size_is : length cells ≡ size
    pub newest : AreNewest past q cells

  before-renewed : Renews h q at (sha256 bytes) h' → Before
  before-renewed k = record {
    cells = k.seen.cells;
    size_is =
        let old = good.piece q k.seen k.there in
        let one : old.tree ≡ here.tree = same_Some old.tree here.tree (sym old.there ∙ here.there) in
        let row = subst (λ (t : TreeRoot). IsLeafRow t.length first (piece_span d.piece_length t.length) (length k.seen.cells)) one old.row in
        row.count_is ∙ sym here.row.count_is;
    newest = good.from q k.seen k.there;
  }

  before-begun : Before
  before-begun = record {
    cells = replicate size None;
    size_is = length-replicate {A = Option Hash} size None;
    newest = λ j e held. absurd (none-some e (sym (replicate-none size j) ∙ held));
  }

  -- what is held of the piece then
  own-newest : (b : Before) → AreNewest (act ∷ past) q (set b.cells at (Some (sha256 bytes)))
  own-newest b j e held = by (cases_eq j at)
    where
      low : at < length b.cells
      low = subst (λ n. at < n) (sym b.size_is) inside

      by : (j ≡ at) ⊎ (j ≢ at) → (bs : List ℕ) × (newest (act ∷ past) n (first + j) ≡ Some bs) × (e ≡ sha256 bs)
      by (inl same) = (
        bytes,
        cond-true _ _ _ (and_from _ _ (eq-eqb n n refl) (eq-eqb (first + at) (first + j) (ap (λ i. first + i) (sym same)))),
        same_Some e (sha256 bytes) (sym held ∙ ap (digest_in (set b.cells at (Some (sha256 bytes)))) same
            ∙ get_or-set_same b.cells at (Some (sha256 bytes)) None low),
      )
      by (inr other) =
          let old : digest_in b.cells j ≡ Some e = sym (get_or-set_other b.cells at j (Some (sha256 bytes)) None other) ∙ held in
          let (bs, is, digest) = b.newest j e old in
          let apart : first + at ≢ first + j = λ same. other (omega (arith, same)) in
          (bs, cond-false _ _ _ (and_right _ _ (ne_eqb (first + at) (first + j) apart)) ∙ is, digest)

  -- what is held of another piece
  other-newest : (r : ℕ × ℕ) (x : PieceSeen) → get h.pieces r ≡ Some x → r ≢ q → AreNewest (act ∷ past) r x.cells
  other-newest r x there apart j e held =
      let (bs, is, digest) = good.from r x there j e held in
      (bs, by (cases_eq n r.0) ∙ is, digest)
    where
      by : (n ≡ r.0) ⊎ (n ≢ r.0) → newest (act ∷ past) r.0 (r.1 + j) ≡ newest past r.0 (r.1 + j)
      by (inr other) = cond-false _ _ _ (and_left _ _ (ne_eqb n r.0 other))
      by (inl same) =
          let differ : first + at ≢ r.1 + j = λ e. apart (ap₂ pair (sym same)
          (sym (same-piece d q r size (length x.cells) at j here (good.piece r x there) inside (held-inside x.cells j _ held) same e))) in
          cond-false _ _ _ (and_right _ _ (ne_eqb (first + at) (r.1 + j) differ))

  -- what is there then
  module _ (b : Before) (M : HoldingsSeen) (less : (r : ℕ × ℕ) (x : PieceSeen) → get M.pieces r ≡ Some x → get h.pieces r ≡ Some x)
      (after : h' ≡ with_piece M q (set b.cells at (Some (sha256 bytes)))) where
    reads : (r : ℕ × ℕ) (y : PieceSeen) → get h'.pieces r ≡ Some y
        → ((r ≡ q) × (y.cells ≡ set b.cells at (Some (sha256 bytes)))) ⊎ ((r ≢ q) × (get h.pieces r ≡ Some y))
    reads r y at' = by (eq_by_cmp place_cmp r q) refl
      where
        new : PieceSeen
        new = record { cells = set b.cells at (Some (sha256 bytes)); newest = M.clock }

        read : get h'.pieces r ≡ cond (eq_by_cmp place_cmp r q) (Some new) (get M.pieces r)
        read = ap (λ (k : HoldingsSeen). get k.pieces r) after ∙ get-insert place_total M.pieces q new r

        by : (c : Bool) → eq_by_cmp place_cmp r q ≡ c
            → ((r ≡ q) × (y.cells ≡ set b.cells at (Some (sha256 bytes)))) ⊎ ((r ≢ q) × (get h.pieces r ≡ Some y))
        by true e = inl (
          tells_apart place_exact r q e,
          ap (λ (z : PieceSeen). z.cells) (same_Some y new (sym at' ∙ read ∙ cond-true _ _ _ e)),
        )
        by false e = inr (
          λ same. false≢true (sym e ∙ ap (λ p. eq_by_cmp place_cmp p q) same ∙ (eq_by_cmp_equiv place_total).refl q),
          less r y (sym (read ∙ cond-false _ _ _ e) ∙ at'),
        )

    kept-from : IsHeldFrom d (act ∷ past) h'
    kept-from = record {
      piece = λ r y at'. piece-of r y (reads r y at');
      from = λ r y at'. newest-of r y (reads r y at');
    }
      where
        piece-of : (r : ℕ × ℕ) (y : PieceSeen)
            → ((r ≡ q) × (y.cells ≡ set b.cells at (Some (sha256 bytes)))) ⊎ ((r ≢ q) × (get h.pieces r ≡ Some y))
            → IsPieceOf d r (length y.cells)
        piece-of r y (inl (same, is)) =
            let long : length y.cells ≡ size = ap length is ∙ length-set b.cells at (Some (sha256 bytes)) ∙ b.size_is in
            subst (λ p. IsPieceOf d p (length y.cells)) (sym same) (subst (IsPieceOf d q) (sym long) here)
        piece-of r y (inr (apart, old)) = good.piece r y old

        newest-of : (r : ℕ × ℕ) (y : PieceSeen)
            → ((r ≡ q) × (y.cells ≡ set b.cells at (Some (sha256 bytes)))) ⊎ ((r ≢ q) × (get h.pieces r ≡ Some y))
            → AreNewest (act ∷ past) r y.cells
        newest-of r y (inl (same, is)) =
            subst (λ p. AreNewest (act ∷ past) p y.cells) (sym same) (subst (AreNewest (act ∷ past) q) (sym is) (own-newest b))
        newest-of r y (inr (apart, old)) = other-newest r y old apart

  room-less : (o : Option Run) (M : HoldingsSeen) → MakesRoom h o M → (r : ℕ × ℕ) (x : PieceSeen) → get M.pieces r ≡ Some x → get h.pieces r ≡ Some x
  room-less None M room r x at' = ap (λ (k : HoldingsSeen). get k.pieces r) (sym room.1) ∙ at'
  room-less (Some run) M room r x at' = by (eq_by_cmp place_cmp r room.piece) refl
    where
      read : get M.pieces r ≡ cond (eq_by_cmp place_cmp r room.piece) None (get h.pieces r)
      read = ap (λ (k : HoldingsSeen). get k.pieces r) room.after ∙ get-remove place_total h.pieces room.piece r

      by : (c : Bool) → eq_by_cmp place_cmp r room.piece ≡ c → get h.pieces r ≡ Some x
      by true e = absurd (none-some x (sym (read ∙ cond-true _ _ _ e) ∙ at'))
      by false e = sym (read ∙ cond-false _ _ _ e) ∙ at'

  pub held-from : IsHeldFrom d (act ∷ past) h'
  unfolding before-renewed before-begun
  held-from = by keeps
    where
      by : ((dropped ≡ None) × Renews h q at (sha256 bytes) h') ⊎ BeginsPiece h q size at (sha256 bytes) dropped h' → IsHeldFrom d (act ∷ past) h'
      by (inl (none, k)) = kept-from (before-renewed k) h (λ r x at'. at') k.after
      by (inr k) = kept-from before-begun k.between (room-less dropped k.between k.room) k.after
