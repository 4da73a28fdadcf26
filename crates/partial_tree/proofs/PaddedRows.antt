-- A closed partial tree stays closed when leaves under a known node are joined to it, with the pads that they bring.
use Rattle.std.proofs.Common.{◌≡◌, ℕ, ◌+◌, ◌-◌, ◌/◌, ◌^◌, ◌<◌, ◌≤◌, List, length, Some, inl, inr, sym, ap, ◌∙◌, subst, arith}
use Rattle.std.specs.Borrow.{Bor}
use Rattle.std.specs.List.{All}
use Rattle.std.proofs.lemmas.Bool.{cases_lt}
use Rattle.chains.proofs.Cases.{some_or_none}
use Rattle.hashtree.specs.Tree.{block_count}
use Rattle.node_maps.specs.Digest.{Hash, IsHash}
use Rattle.node_maps.specs.Places.{PartialTree, IsKnown}
use Rattle.partial_tree.specs.TreeRoot.{TreeRoot}
use Rattle.partial_tree.specs.Closed.{IsClosed}
use Rattle.partial_tree.specs.Claims.{joined, IsAgreed}
use Rattle.partial_tree.specs.EndPads.{end_pads}
use Rattle.partial_tree.specs.LeafRows.{row_claims, row_pads, row_joins, IsLeafRow, IsRowAccepted}
use Rattle.partial_tree.proofs.ClaimValues.{first_of_two, second_of_two}
use Rattle.partial_tree.proofs.EndPads.{pads-closed, pads-agree}
use Rattle.partial_tree.proofs.Keeping.{closed-same}
use Rattle.partial_tree.proofs.LeafRows.{row-closed, row-claimed}
use Rattle.partial_tree.proofs.PadRows.{joined-twice}
use Rattle.partial_tree.proofs.RowPads.{pads-come, nothing-more}

module _ (t : TreeRoot) (K : PartialTree) (first k : ℕ) (hashes : Bor (List Hash)) (row : IsLeafRow t.length first k (length hashes.now))
    (closed : IsClosed t K) (all : All IsHash hashes.now) (ok : IsRowAccepted K first k hashes.now) where
  short-closed : first + 2 ^ k < block_count t.length → IsClosed t (joined K (row_joins t.length first k hashes.now))
  short-closed short =
      subst (λ D. IsClosed t (joined K D)) (sym (nothing-more t.length first k short (row_claims first k hashes.now)))
      (row-closed t K first k hashes row closed all ok)

  leaf-known : (j : ℕ) → j < 2 ^ k → IsKnown (joined K (row_claims first k hashes.now)) 0 (first + j)
  leaf-known j low =
      let claim = row-claimed t first k hashes row j low in
      elim (some_or_none (K 0 (first + j))) [
        | inl (u, known) ↦ (u, first_of_two (K 0 (first + j)) (row_claims first k hashes.now 0 (first + j)) u known)
        | inr none ↦ (claim.0, second_of_two (K 0 (first + j)) (row_claims first k hashes.now 0 (first + j)) none ∙ claim.1)
      ]

  end-closed : block_count t.length ≤ first + 2 ^ k → IsClosed t (joined K (row_joins t.length first k hashes.now))
  end-closed reach =
      let between : IsClosed t (joined K (row_claims first k hashes.now)) = row-closed t K first k hashes row closed all ok in
      let at : first + (block_count t.length - 1 - first) ≡ block_count t.length - 1 = omega (arith, row.some) in
      let last : IsKnown (joined K (row_claims first k hashes.now)) 0 (block_count t.length - 1) =
      subst (λ n. IsKnown (joined K (row_claims first k hashes.now)) 0 n) at (leaf-known (block_count t.length - 1 - first) (omega (arith, row.some, reach))) in
      subst (λ P. IsClosed t (joined K (joined (row_claims first k hashes.now) P))) (sym (pads-come t.length first k reach))
      (closed-same t (joined (joined K (row_claims first k hashes.now)) (end_pads t.length))
      (joined K (joined (row_claims first k hashes.now) (end_pads t.length)))
      (joined-twice K (row_claims first k hashes.now) (end_pads t.length)) (pads-closed t (joined K (row_claims first k hashes.now)) between last))

  pub row_joins-closed : IsClosed t (joined K (row_joins t.length first k hashes.now))
  row_joins-closed = elim (cases_lt (first + 2 ^ k) (block_count t.length)) [ inl short ↦ short-closed short | inr reach ↦ end-closed reach ]
