-- In every run each digest that is held is of the newest bytes that came, and what is proved came.
use Rattle.std.proofs.Common.{◌≡◌, ◌≢◌, ◌⊎◌, ℕ, ◌+◌, ◌-◌, ◌*◌, ◌/◌, ◌%◌, ◌^◌, ◌<◌, ◌≤◌, Bool, true, false, cond, eqb, ◌&&◌, min, List, [], ◌∷◌, suc, length}
use Rattle.std.proofs.Common.{map, set, replicate, Option, Some, None, IsSome, inl, inr, refl, sym, ap, ap₂, ◌∙◌, subst, arith, pow_pos}
use Rattle.std.specs.Prelude.{slice_get}
use Rattle.std.specs.Ordering.{eq_by_cmp}
use Rattle.std.specs.Cmp.{eq_by_cmp_equiv}
use Rattle.std.specs.FinMap.{get, insert, remove, get-insert, get-remove, get-empty}
use Rattle.std.proofs.lemmas.Bool.{false≢true, cases_eq, cond-true, cond-false, and_from, and_left, and_right, eq-eqb, ne_eqb}
use Rattle.std.proofs.lemmas.Nat.{div-mul-add, div-add-mod'}
use Rattle.std.proofs.lemmas.List.{get_or-set_same, get_or-set_other, length-set, length-replicate}
use Rattle.std.proofs.lemmas.Option.{none-some, same_Some}
use Rattle.std.proofs.lemmas.Map.Views.{tells_apart}
use Rattle.sha2.specs.Sha256.{sha256}
use Rattle.hashtree.specs.Tree.{block_count}
use Rattle.node_maps.specs.Digest.{Hash}
use Rattle.node_maps.specs.Known.{place_cmp, look}
use Rattle.node_maps.proofs.Known.{place_total, place_exact}
use Rattle.opening.specs.Description.{Description}
use Rattle.partial_tree.specs.LeafRows.{IsLeafRow}
use Rattle.partial_tree.specs.TreeRoot.{TreeRoot}
use Rattle.session.specs.Layouts.{root_of_entry, roots, tree_of}
use Rattle.session.specs.Pieces.{piece_span, HasPiece}
use Rattle.session.specs.Session.{SessionSeen, TreeState, IsTree, IsFileBlock}
use Rattle.session.proofs.Entries.{says-block}
use Rattle.holdings.specs.declared.holding.Hold.{Hold}
use Rattle.holdings.specs.declared.holding.Hold.TheVariants.{Held, Known, NoMemory}
use Rattle.holdings.specs.declared.run.Run.{Run}
use Rattle.holdings.specs.declared.run.Settled.{Settled}
use Rattle.holdings.specs.declared.run.Settled.TheVariants.{Proved, False}
use Rattle.holdings.specs.Cells.{Cells, digest_in, known_in, known_at}
use Rattle.holdings.specs.Settling.{IsMarkedRun, IsGivenUp, IsBlockJudged, Settles, run_of}
use Rattle.holdings.specs.Holdings.{PieceSeen, HoldingsSeen, KeepsDigest, Renews, BeginsPiece, MakesRoom, with_piece, without_piece}
use Rattle.holdings.specs.Holding.{IsHeldNow}
use Rattle.holdings.specs.Next.{SettlesPiece, LeavesCells, with_cells}
use Rattle.holdings.specs.Runs.{Act, Holds, Settling, Elsewhere, Does, IsSessionOf, Past, newest, CameAsTheBlock, ProvedWasTheBlock}
use Rattle.holding_laws.proofs.Cells.{held-inside, replicate-none, emptied, later-held, marked-length, marked-each}
use Rattle.holding_laws.proofs.HeldFrom.{IsPieceOf, IsHeldFrom, AreNewest, pair, held-from}
use Rattle.holding_laws.proofs.Fewer.{settled-shrinks, unchanged-from, fewer-from}

module _ (d : Description) where
  does-from : (past : List Act) (S : SessionSeen) (h : HoldingsSeen) (a : Act) (S' : SessionSeen) (h' : HoldingsSeen) → IsSessionOf d S
      → IsHeldFrom d past h → Does S h a S' h' → IsHeldFrom d (a ∷ past) h'
  does-from past S h (Holds n b bytes (Held dropped)) S' h' session good (k, same) =
      let here : IsPieceOf d (pair n k.first) k.size = record {
        tree = k.tree;
        there = ap (λ (e : Description). slice_get (map root_of_entry e.trees) n) (sym session.torrent) ∙ k.is_tree;
        row = subst (λ (e : Description). IsLeafRow k.tree.length k.first (piece_span e.piece_length k.tree.length) k.size) session.torrent k.piece;
      } in
      subst (λ c. IsHeldFrom d (Holds n c bytes (Held dropped) ∷ past) h') (sym k.block_is)
      (held-from d past h good n k.first k.size k.at bytes dropped h' here k.inside k.keeps)
  does-from past S h (Holds n b bytes Known) S' h' session good (k, same) = unchanged-from d past h good _ (λ n b. refl) h' k.1
  does-from past S h (Holds n b bytes NoMemory) S' h' session good (k, same) = unchanged-from d past h good _ (λ n b. refl) h' k.1
  does-from past S h (Settling p e) S' h' session good (p', next) =
      let piece = next.settles in
      let (long, fewer) = settled-shrinks S p.tree next.first (length piece.seen.cells) piece.seen.cells S' piece.cells e piece.settles in
      fewer-from d past h good _ (λ n b. refl) (pair p.tree next.first) piece.seen piece.there piece.cells long fewer h' piece.leaves
  does-from past S h Elsewhere S' h' session good same = unchanged-from d past h good _ (λ n b. refl) h' same

  session-of : (past : List Act) (S : SessionSeen) (h : HoldingsSeen) → Past d past S h → IsSessionOf d S
  session-of [] S h p = p.0
  session-of (a ∷ past) S h p = p.0

  pub past-from : (past : List Act) (S : SessionSeen) (h : HoldingsSeen) → Past d past S h → IsHeldFrom d past h
  past-from [] S h (session, none) = record {
    piece = λ q x at. absurd (none-some x (sym (ap (λ m. get m q) none ∙ get-empty place_cmp q) ∙ at));
    from = λ q x at. absurd (none-some x (sym (ap (λ m. get m q) none ∙ get-empty place_cmp q) ∙ at));
  }
  past-from (a ∷ past) S' h' (session', (S, h, before, does)) =
      does-from past S h a S' h' (session-of past S h before) (past-from past S h before) does

-- ---- the headline

module _ (d : Description) (past : List Act) (S : SessionSeen) (h : HoldingsSeen) (good : IsHeldFrom d past h) (n first : ℕ) (x : PieceSeen)
    (there : get h.pieces (pair n first) ≡ Some x) (S' : SessionSeen) (session : IsSessionOf d S') (M : SessionSeen) (from : ℕ) (run : Run)
    (cells' : Cells) (m : IsMarkedRun M n first (length x.cells) x.cells from run S' cells') where
  pub run-came : (b : ℕ) → run.first ≤ b → b ≤ run.last → CameAsTheBlock past S' run.tree b
  run-came b low high = subst (CameAsTheBlock past S' run.tree) whole_is (subst (λ t. CameAsTheBlock past S' t (first + (from + i))) (sym tree_is) came)
    where
      tree_is : run.tree ≡ n
      tree_is = ap (λ (r : Run). r.tree) m.run_is

      i : ℕ
      i = b - (first + from)

      begins : run.first ≡ first + from
      begins = ap (λ (r : Run). r.first) m.run_is

      ends : run.last ≡ first + (from + m.more)
      ends = ap (λ (r : Run). r.last) m.run_is

      whole_is : first + (from + i) ≡ b
      whole_is = omega (arith, low, begins)

      few : i < suc m.more
      few = omega (arith, low, high, begins, ends)

      came : CameAsTheBlock past S' n (first + (from + i))
      came =
          let (e, held, known) = marked-each M n first x.cells from (suc m.more) S' cells' m.marks i few in
          let (bytes, new, digest) = good.from (pair n first) x there (from + i) e held in
          (bytes, new, λ file of'. block-of bytes e digest known file of')
        where
          block-of : (bytes : List ℕ) (e : Hash) → e ≡ sha256 bytes → known_at S' n 0 (first + (from + i)) ≡ Some e → (file : ℕ)
              → tree_of S' file ≡ Some n → IsFileBlock S' file (first + (from + i)) bytes
          block-of bytes e digest known file of' =
              let piece = good.piece (pair n first) x there in
              let (s, state) = state-of n (first + (from + i)) e known in
              let at : IsTree S' n piece.tree s = record {
                tree_is = ap (λ (c : Description). slice_get (map root_of_entry c.trees) n) session.torrent ∙ piece.there;
                state_is = state;
              } in
              let inside : first + (from + i) < block_count piece.tree.length = omega (arith, few, m.inside, piece.row.count_is) in
              let leaf : look s.known 0 (first + (from + i)) ≡ Some (sha256 bytes) =
              sym (ap (λ o. known_in o 0 (first + (from + i))) state) ∙ known ∙ ap Some digest in
              says-block S' session.closed file (record { number = first + (from + i); bytes = bytes }) n piece.tree s of' at (inside, leaf)
            where
              state-of : (n b : ℕ) (e : Hash) → known_at S' n 0 b ≡ Some e → (s : TreeState) × (slice_get S'.trees n ≡ Some s)
              state-of n b e known = by (slice_get S'.trees n) refl
                where
                  by : (o : Option TreeState) → slice_get S'.trees n ≡ o → (s : TreeState) × (slice_get S'.trees n ≡ Some s)
                  by None is = absurd (none-some e (sym (ap (λ o. known_in o 0 b) is) ∙ known))
                  by (Some s) is = (s, is)

pub proved-came : ProvedWasTheBlock
proved-came d past S h p run S' h' before session (p', next) = by next.settles.settles
  where
    good : IsHeldFrom d past h
    good = past-from d past S h before

    piece : SettlesPiece S h p.tree next.first (Proved run) S' h'
    piece = next.settles

    by : Settles S p.tree next.first (length piece.seen.cells) piece.seen.cells (Proved run) S' piece.cells
        → (b : ℕ) → run.first ≤ b → b ≤ run.last → CameAsTheBlock past S' run.tree b
    by (inl k) = run-came d past S h good p.tree next.first piece.seen piece.there S' session S k.from run piece.cells k.judged
    by (inr k) = run-came d past S h good p.tree next.first piece.seen piece.there S' session k.joined k.from run piece.cells k.marked
