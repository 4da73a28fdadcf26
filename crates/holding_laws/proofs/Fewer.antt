-- A settling holds nothing new.
use Rattle.std.proofs.Common.{◌≡◌, ◌≢◌, ◌⊎◌, ℕ, ◌+◌, ◌-◌, ◌*◌, ◌/◌, ◌%◌, ◌^◌, ◌<◌, ◌≤◌, Bool, true, false, cond, eqb, ◌&&◌, min, List, [], ◌∷◌, suc, length}
use Rattle.std.proofs.Common.{map, set, replicate, Option, Some, None, IsSome, inl, inr, refl, sym, ap, ap₂, ◌∙◌, subst, arith, pow_pos}
use Rattle.std.specs.Prelude.{slice_get}
use Rattle.std.specs.Ordering.{eq_by_cmp}
use Rattle.std.specs.Cmp.{eq_by_cmp_equiv}
use Rattle.std.specs.FinMap.{get, insert, remove, get-insert, get-remove, get-empty}
use Rattle.std.proofs.lemmas.Bool.{false≢true, cases_eq, cond-true, cond-false, and_from, and_left, and_right, eq-eqb, ne_eqb}
use Rattle.std.proofs.lemmas.Nat.{div-mul-add, div-add-mod'}
use Rattle.std.proofs.lemmas.List.{get_or-set_same, get_or-set_other, length-set, length-replicate}
use Rattle.std.proofs.lemmas.Option.{none-some, same_Some}
use Rattle.std.proofs.lemmas.Map.Views.{tells_apart}
use Rattle.sha2.specs.Sha256.{sha256}
use Rattle.hashtree.specs.Tree.{block_count}
use Rattle.node_maps.specs.Digest.{Hash}
use Rattle.node_maps.specs.Known.{place_cmp, look}
use Rattle.node_maps.proofs.Known.{place_total, place_exact}
use Rattle.opening.specs.Description.{Description}
use Rattle.partial_tree.specs.LeafRows.{IsLeafRow}
use Rattle.partial_tree.specs.TreeRoot.{TreeRoot}
use Rattle.session.specs.Layouts.{root_of_entry, roots, tree_of}
use Rattle.session.specs.Pieces.{piece_span, HasPiece}
use Rattle.session.specs.Session.{SessionSeen, TreeState, IsTree, IsFileBlock}
use Rattle.session.proofs.Entries.{says-block}
use Rattle.holdings.specs.declared.holding.Hold.{Hold}
use Rattle.holdings.specs.declared.holding.Hold.TheVariants.{Held, Known, NoMemory}
use Rattle.holdings.specs.declared.run.Run.{Run}
use Rattle.holdings.specs.declared.run.Settled.{Settled}
use Rattle.holdings.specs.declared.run.Settled.TheVariants.{Proved, False}
use Rattle.holdings.specs.Cells.{Cells, digest_in, known_in, known_at}
use Rattle.holdings.specs.Settling.{IsMarkedRun, IsGivenUp, IsBlockJudged, Settles, run_of}
use Rattle.holdings.specs.Holdings.{PieceSeen, HoldingsSeen, KeepsDigest, Renews, BeginsPiece, MakesRoom, with_piece, without_piece}
use Rattle.holdings.specs.Holding.{IsHeldNow}
use Rattle.holdings.specs.Next.{SettlesPiece, LeavesCells, with_cells}
use Rattle.holdings.specs.Runs.{Act, Holds, Settling, Elsewhere, Does, IsSessionOf, Past, newest, CameAsTheBlock, ProvedWasTheBlock}
use Rattle.holding_laws.proofs.Cells.{held-inside, replicate-none, emptied, later-held, marked-length, marked-each}
use Rattle.holding_laws.proofs.HeldFrom.{IsPieceOf, IsHeldFrom, AreNewest, pair, held-from}

-- a settling of a piece holds nothing new
module _ (S : SessionSeen) (n first size : ℕ) (cells : Cells) (S' : SessionSeen) (cells' : Cells) where
  abbrev Shrinks : Type 0
  Shrinks = (length cells' ≡ length cells) × ((j : ℕ) (e : Hash) → digest_in cells' j ≡ Some e → digest_in cells j ≡ Some e)

  run-shrinks : (M : SessionSeen) (from : ℕ) (run : Run) → IsMarkedRun M n first size cells from run S' cells' → Shrinks
  run-shrinks M from run m = (
    marked-length M n first cells from (suc m.more) S' cells' m.marks,
    later-held M n first cells from (suc m.more) S' cells' m.marks,
  )

  given-shrinks : (from : ℕ) (run : Run) → IsGivenUp S n first cells from run S' cells' → Shrinks
  given-shrinks from run g = (
    ap length g.rest ∙ length-set cells from None,
    λ j e held. (emptied cells from j e (ap (λ c. digest_in c j) (sym g.rest) ∙ held)).1,
  )

  pub settled-shrinks : (e : Settled) → Settles S n first size cells e S' cells' → Shrinks
  settled-shrinks (Proved run) (inl k) = run-shrinks S k.from run k.judged
  settled-shrinks (Proved run) (inr p) = run-shrinks p.joined p.from run p.marked
  settled-shrinks (False run) (inl k) = given-shrinks k.from run k.judged
  settled-shrinks (False run) (inr p) = (
    ap length p.rest ∙ length-replicate {A = Option Hash} (length cells) None,
    λ j e held. absurd (none-some e (sym (ap (λ c. digest_in c j) p.rest ∙ replicate-none (length cells) j) ∙ held)),
  )

-- and so does one of all pieces
module _ (d : Description) (past : List Act) (h : HoldingsSeen) (good : IsHeldFrom d past h) (a : Act)
    (same : (n b : ℕ) → newest (a ∷ past) n b ≡ newest past n b) where
  pub unchanged-from : (h' : HoldingsSeen) → h' ≡ h → IsHeldFrom d (a ∷ past) h'
  unchanged-from h' is = record {
    piece = λ q x at. good.piece q x (ap (λ (k : HoldingsSeen). get k.pieces q) (sym is) ∙ at);
    from = λ q x at j e held.
        let (bs, new, digest) = good.from q x (ap (λ (k : HoldingsSeen). get k.pieces q) (sym is) ∙ at) j e held in
        (bs, same q.0 (q.1 + j) ∙ new, digest);
  }

  module _ (q : ℕ × ℕ) (x : PieceSeen) (there : get h.pieces q ≡ Some x) (cells : Cells) (long : length cells ≡ length x.cells)
      (fewer : (j : ℕ) (e : Hash) → digest_in cells j ≡ Some e → digest_in x.cells j ≡ Some e) (h' : HoldingsSeen)
      (leaves : LeavesCells h q x cells h') where
    was : (r : ℕ × ℕ) (y : PieceSeen) → get h'.pieces r ≡ Some y
        → (z : PieceSeen) × (get h.pieces r ≡ Some z) × (length y.cells ≡ length z.cells)
        × ((j : ℕ) (e : Hash) → digest_in y.cells j ≡ Some e → digest_in z.cells j ≡ Some e)
    was r y at = by leaves
      where
        unlike : (c : Bool) (o : Option PieceSeen) → get h'.pieces r ≡ cond (eq_by_cmp place_cmp r q) o (get h.pieces r) → eq_by_cmp place_cmp r q ≡ false
            → (z : PieceSeen) × (get h.pieces r ≡ Some z) × (length y.cells ≡ length z.cells)
            × ((j : ℕ) (e : Hash) → digest_in y.cells j ≡ Some e → digest_in z.cells j ≡ Some e)
        unlike c o read e = (y, sym (read ∙ cond-false _ _ _ e) ∙ at, refl, λ j d held. held)

        written : (c : Bool) → eq_by_cmp place_cmp r q ≡ c
            → get h'.pieces r ≡ cond (eq_by_cmp place_cmp r q) (Some (record { cells = cells; newest = x.newest })) (get h.pieces r)
            → (z : PieceSeen) × (get h.pieces r ≡ Some z) × (length y.cells ≡ length z.cells)
            × ((j : ℕ) (e : Hash) → digest_in y.cells j ≡ Some e → digest_in z.cells j ≡ Some e)
        written true e read =
            let is : y.cells ≡ cells = ap (λ (z : PieceSeen). z.cells) (same_Some y _ (sym at ∙ read ∙ cond-true _ _ _ e)) in (
              x,
              ap (get h.pieces) (tells_apart place_exact r q e) ∙ there,
              ap length is ∙ long,
              λ j d held. fewer j d (ap (λ c. digest_in c j) (sym is) ∙ held),
            )
        written false e read = unlike false _ read e

        gone : (c : Bool) → eq_by_cmp place_cmp r q ≡ c → get h'.pieces r ≡ cond (eq_by_cmp place_cmp r q) None (get h.pieces r)
            → (z : PieceSeen) × (get h.pieces r ≡ Some z) × (length y.cells ≡ length z.cells)
            × ((j : ℕ) (e : Hash) → digest_in y.cells j ≡ Some e → digest_in z.cells j ≡ Some e)
        gone true e read = absurd (none-some y (sym (read ∙ cond-true _ _ _ e) ∙ at))
        gone false e read = unlike false None read e

        by : LeavesCells h q x cells h' → (z : PieceSeen) × (get h.pieces r ≡ Some z) × (length y.cells ≡ length z.cells)
            × ((j : ℕ) (e : Hash) → digest_in y.cells j ≡ Some e → digest_in z.cells j ≡ Some e)
        by (inl (some, is)) = written _ refl (ap (λ (k : HoldingsSeen). get k.pieces r) is ∙ get-insert place_total h.pieces q _ r)
        by (inr (bare, is)) = gone _ refl (ap (λ (k : HoldingsSeen). get k.pieces r) is ∙ get-remove place_total h.pieces q r)

    pub fewer-from : IsHeldFrom d (a ∷ past) h'
    fewer-from = record {
      piece = λ r y at. let (z, old, long, few) = was r y at in subst (IsPieceOf d r) (sym long) (good.piece r z old);
      from = λ r y at j e held.
          let (z, old, long, few) = was r y at in
          let (bs, new, digest) = good.from r z old j e (few j e held) in
          (bs, same r.0 (r.1 + j) ∙ new, digest);
    }
