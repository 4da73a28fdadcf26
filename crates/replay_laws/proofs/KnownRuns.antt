-- The blocks of a run that is proved: their leaves are known, and are the digests of bytes that came.
use Rattle.std.proofs.Common.{◌≡◌, ℕ, suc, ◌+◌, ◌-◌, ◌<◌, ◌≤◌, List, length, map, Option, Some, None, inl, inr, refl, sym, ap, ◌∙◌, subst, arith}
use Rattle.std.specs.Prelude.{slice_get}
use Rattle.std.specs.FinMap.{get}
use Rattle.std.proofs.lemmas.Option.{none-some}
use Rattle.sha2.specs.Sha256.{sha256}
use Rattle.hashtree.specs.Tree.{block_count}
use Rattle.node_maps.specs.Known.{look}
use Rattle.opening.specs.Description.{Description}
use Rattle.partial_tree.specs.TreeRoot.{TreeRoot}
use Rattle.session.specs.Layouts.{root_of_entry, tree_of}
use Rattle.session.specs.Session.{SessionSeen, TreeState, IsTree, HasClosedTrees, IsFileBlock}
use Rattle.session.proofs.Entries.{says-block}
use Rattle.holdings.specs.declared.piece_range.Pieces.{Pieces}
use Rattle.holdings.specs.declared.run.Run.{Run}
use Rattle.holdings.specs.declared.run.Settled.TheVariants.{Proved}
use Rattle.holdings.specs.Cells.{Cells, known_at, known_in}
use Rattle.holdings.specs.Settling.{IsMarkedRun, Settles}
use Rattle.holdings.specs.Holdings.{HoldingsSeen, PieceSeen}
use Rattle.holdings.specs.Next.{SettlesNext}
use Rattle.holding_laws.proofs.Cells.{marked-each}
use Rattle.holding_laws.proofs.HeldFrom.{pair}
use Rattle.replay_laws.proofs.Holding.{AreOfCame}
use Rattle.replay_laws.proofs.Staying.{Stays}

-- the leaf of block b of tree n is known, and is the digest of bytes that came for it
pub record IsKnownBlock (d : Description) (Came : ℕ → ℕ → List ℕ → Type 0) (S : SessionSeen) (n b : ℕ) : Type 0 where
  pub bytes : List ℕ
  pub came : Came n b bytes
  pub known : known_at S n 0 b ≡ Some (sha256 bytes)
  pub tree : TreeRoot
  pub tree_is : slice_get (map root_of_entry d.trees) n ≡ Some tree
  pub inside : b < block_count tree.length

-- all blocks of a run are such, and there is one
pub record IsKnownRun (d : Description) (Came : ℕ → ℕ → List ℕ → Type 0) (S : SessionSeen) (n : ℕ) (run : Run) : Type 0 where
  pub tree_is : run.tree ≡ n
  pub some : run.first ≤ run.last
  pub each : (b : ℕ) → run.first ≤ b → b ≤ run.last → IsKnownBlock d Came S n b

module _ (d : Description) (Came : ℕ → ℕ → List ℕ → Type 0) (k : HoldingsSeen) (good : AreOfCame d Came k) where
  module _ (n first : ℕ) (x : PieceSeen) (there : get k.pieces (pair n first) ≡ Some x) (M : SessionSeen) (from : ℕ) (run : Run) (S' : SessionSeen)
      (cells' : Cells) (m : IsMarkedRun M n first (length x.cells) x.cells from run S' cells') where
    run-begins : run.first ≡ first + from
    run-begins = ap (λ (r : Run). r.first) m.run_is

    run-ends : run.last ≡ first + (from + m.more)
    run-ends = ap (λ (r : Run). r.last) m.run_is

    run-each : (b : ℕ) → run.first ≤ b → b ≤ run.last → IsKnownBlock d Came S' n b
    run-each b low high = subst (IsKnownBlock d Came S' n) whole_is known-here
      where
        i : ℕ
        i = b - (first + from)

        whole_is : first + (from + i) ≡ b
        whole_is = omega (arith, low, run-begins)

        few : i < suc m.more
        few = omega (arith, low, high, run-begins, run-ends)

        known-here : IsKnownBlock d Came S' n (first + (from + i))
        known-here =
            let (e, held, known) = marked-each M n first x.cells from (suc m.more) S' cells' m.marks i few in
            let (bytes, new, digest) = good.held.from (pair n first) x there (from + i) e held in
            let piece = good.held.piece (pair n first) x there in
            record {
              bytes = bytes;
              came = good.came n (first + (from + i)) bytes new;
              known = known ∙ ap Some digest;
              tree = piece.tree;
              tree_is = piece.there;
              inside = omega (arith, few, m.inside, piece.row.count_is);
            }

    pub run-known : IsKnownRun d Came S' n run
    run-known = record {
      tree_is = ap (λ (r : Run). r.tree) m.run_is;
      some = omega (arith, run-begins, run-ends);
      each = run-each;
    }

  pub proved-known : (S : SessionSeen) (p : Pieces) (run : Run) (S' : SessionSeen) (k' : HoldingsSeen) (p' : Pieces)
      → SettlesNext S k p (Proved run) S' k' p' → IsKnownRun d Came S' p.tree run
  proved-known S p run S' k' p' next = by next.settles.settles
    where
      by : Settles S p.tree next.first (length next.settles.seen.cells) next.settles.seen.cells (Proved run) S' next.settles.cells
          → IsKnownRun d Came S' p.tree run
      by (inl j) = run-known p.tree next.first next.settles.seen next.settles.there S j.from run S' next.settles.cells j.judged
      by (inr j) = run-known p.tree next.first next.settles.seen next.settles.there j.joined j.from run S' next.settles.cells j.marked

-- what is known stays known, so these bytes are the block at the end
pub block-at-end : (d : Description) (Came : ℕ → ℕ → List ℕ → Type 0) (S E : SessionSeen) (n b : ℕ) (x : IsKnownBlock d Came S n b) → S.torrent ≡ d
    → Stays S E → HasClosedTrees E → (file : ℕ) → tree_of E file ≡ Some n → IsFileBlock E file b x.bytes
block-at-end d Came S E n b x same stays closed file of' = by (slice_get S.trees n) refl
  where
    by : (o : Option TreeState) → slice_get S.trees n ≡ o → IsFileBlock E file b x.bytes
    by None is = absurd (none-some (sha256 x.bytes) (sym (ap (λ o. known_in o 0 b) is) ∙ x.known))
    by (Some s) is =
        let at : IsTree S n x.tree s = record {
          tree_is = ap (λ (c : Description). slice_get (map root_of_entry c.trees) n) same ∙ x.tree_is;
          state_is = is;
        } in
        let leaf : look s.known 0 b ≡ Some (sha256 x.bytes) = sym (ap (λ o. known_in o 0 b) is) ∙ x.known in
        let (later, there, keeps) = stays.keeps n x.tree s at in
        says-block E closed file (record { number = b; bytes = x.bytes }) n x.tree later of' there (x.inside, keeps 0 b (sha256 x.bytes) leaf)
