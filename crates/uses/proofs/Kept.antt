-- A piece that is taken: its blocks are those of the file, and are marked.
use Rattle.std.proofs.Common.{◌≡◌, ◌⊎◌, ℕ, zero, suc, ◌+◌, ◌<◌, Bool, true, false, ◌||◌, List, length, set, Result, Ok, Err, IfOk, Some, inl, inr, refl}
use Rattle.std.proofs.Common.{sym, ap, ◌∙◌, subst, arith}
use Rattle.std.proofs.Math.Dec.{T, eqb, eqb_refl}
use Rattle.std.proofs.lemmas.Option.{same_Some}
use Rattle.std.specs.Cmp.{nat_cmp_total}
use Rattle.std.specs.FinSet as leaves
use Rattle.std.specs.Ordering.{eq_by_cmp, nat_cmp}
use Rattle.std.specs.Prelude.{slice_get}
use Rattle.chains.proofs.Cases.{last_or_before}
use Rattle.hashtree.specs.Tree.{block_count}
use Rattle.node_maps.proofs.Known.{nat_equal}
use Rattle.node_maps.specs.Known.{Marked}
use Rattle.partial_tree.specs.LeafRows.{mark_run}
use Rattle.partial_tree.specs.declared.refusal.PieceRefusal.{PieceRefusal}
use Rattle.session.proofs.States.{set-write}
use Rattle.session.specs.Pieces.{ArePieceBlocks, IsTakenFrom, IsTakenPiece}
use Rattle.session.specs.Session.{SessionSeen, TreeState}
use Rattle.uses.specs.WholePieces.{IsPieceKept}

-- ---- marks

either-true : (a b : Bool) → (a ≡ true) ⊎ (b ≡ true) → (a || b) ≡ true
either-true true b why = refl
either-true false b (inl e) = cc
either-true false b (inr e) = e

is-true : (b : Bool) → T b → b ≡ true
is-true true t = refl
is-true false t = absurd t

-- one more leaf is marked
insert-marked : (marked : Marked) (c b : ℕ) → (b ≡ c) ⊎ (leaves.contains marked b ≡ true) → leaves.contains (leaves.insert marked c) b ≡ true
insert-marked marked c b why = leaves.contains-insert nat_cmp_total marked c b
    ∙ either-true (eq_by_cmp nat_cmp b c) (leaves.contains marked b) (elim why [
      | inl same ↦ inl (nat_equal b c ∙ subst (λ k. eqb b k ≡ true) same (is-true (eqb b b) (eqb_refl b)))
      | inr before ↦ inr before
    ])

-- each of a run of leaves is marked
run-marked : (marked : Marked) (first count j : ℕ) → j < count → leaves.contains (mark_run marked first count) (first + j) ≡ true
run-marked marked first zero j lt = absurd (omega (arith, lt))
run-marked marked first (suc n) j lt =
    let below : j < n + 1 = omega (arith, lt) in
    insert-marked (mark_run marked first n) (first + n) (first + j) (elim (last_or_before j n below) [
      | inl low ↦ inr (run-marked marked first n j low)
      | inr last ↦ inl (ap (λ k. first + k) last)
    ])

-- ---- the piece

blocks-marked : (S : SessionSeen) (file first : ℕ) (bytes : List ℕ) (S' : SessionSeen) (taken : IsTakenFrom S file first bytes S') (s : TreeState)
    → slice_get S'.trees taken.in_file.tree_number ≡ Some s → (j : ℕ) → j < block_count (length bytes) → leaves.contains s.marked (first + j) ≡ true
blocks-marked S file first bytes S' taken s there j low =
    let n = taken.in_file.tree_number in
    let written : slice_get (set S.trees n taken.after) n ≡ Some taken.after =
    set-write S.trees n taken.after taken.in_file.state taken.in_file.is_tree.state_is in
    let is : s ≡ taken.after = same_Some s taken.after (sym there ∙ ap (λ (U : SessionSeen). slice_get U.trees n) taken.state_after ∙ written) in
    subst (λ (st : TreeState). leaves.contains st.marked (first + j) ≡ true) (sym is)
    (subst (λ (marks : Marked). leaves.contains marks (first + j) ≡ true) (sym taken.marks)
    (run-marked taken.in_file.state.marked first (block_count (length bytes)) j low))

pub piece-kept : (S : SessionSeen) (index : ℕ) (bytes : List ℕ) (r : Result (ℕ × ℕ) PieceRefusal) (S' : SessionSeen)
    → IfOk r (λ p. IsTakenPiece S index bytes p.0 p.1 S') → IfOk r (λ p. ArePieceBlocks S' bytes p.0 p.1)
    → IfOk r (λ p. IsPieceKept S index bytes p.0 p.1 S')
piece-kept S index bytes (Ok p) S' taken blocks = record {
  at = taken.0;
  in_file = taken.1.in_file;
  size = taken.1.size;
  blocks = blocks;
  marked = blocks-marked S p.0 p.1 bytes S' taken.1;
}
piece-kept S index bytes (Err r) S' taken blocks = tt
