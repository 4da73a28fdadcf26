-- The cells of a piece, when digests are held and given up.
use Rattle.std.proofs.Common.{◌≡◌, ◌≢◌, ◌⊎◌, ℕ, zero, suc, ◌+◌, ◌-◌, ◌<◌, ◌≤◌, List, length, set, replicate, get_or, Option, Some, None, IsSome, inl, inr}
use Rattle.std.proofs.Common.{refl, sym, ap, ◌∙◌, subst, arith}
use Rattle.std.specs.Prelude.{slice_get}
use Rattle.std.specs.FinSet as leaves
use Rattle.std.proofs.lemmas.Bool.{cases_eq, cases_lt}
use Rattle.std.proofs.lemmas.List.{length-set, get_or-set_same, get_or-set_other, get_or-replicate, length-replicate}
use Rattle.std.proofs.Math.ListN.{get_or-eq_default}
use Rattle.std.proofs.lemmas.Option.{none-some, same_Some}
use Rattle.node_maps.specs.Digest.{Hash}
use Rattle.node_maps.specs.Known.{look}
use Rattle.session.specs.Session.{SessionSeen, TreeState}
use Rattle.session.specs.Pieces.{IsLeafMarked, with_leaf_marked}
use Rattle.session.proofs.States.{set-write}
use Rattle.holdings.specs.Cells.{Cells, digest_in, known_in, known_at}
use Rattle.holdings.specs.Settling.{IsBlockMarked, AreBlocksMarked}

-- what is held is held of a block of the piece
pub held-inside : (cells : Cells) (j : ℕ) (d : Hash) → digest_in cells j ≡ Some d → j < length cells
held-inside cells j d held = by (cases_lt j (length cells))
  where
    by : (j < length cells) ⊎ (length cells ≤ j) → j < length cells
    by (inl low) = low
    by (inr high) = absurd (none-some d (sym (get_or-eq_default cells None high) ∙ held))

-- nothing is held of no cell
pub replicate-none : (n j : ℕ) → digest_in (replicate n None) j ≡ None
replicate-none n j = by (cases_lt j n)
  where
    by : (j < n) ⊎ (n ≤ j) → digest_in (replicate n None) j ≡ None
    by (inl low) = get_or-replicate n j None None low
    by (inr high) = get_or-eq_default (replicate n None) None (subst (λ l. l ≤ j) (sym (length-replicate {A = Option Hash} n None)) high)

-- a cell that is emptied takes no other with it
pub emptied : (cells : Cells) (i j : ℕ) (d : Hash) → digest_in (set cells i None) j ≡ Some d → (j ≢ i) × (digest_in cells j ≡ Some d)
emptied cells i j d held = by (cases_eq j i)
  where
    low : i ≡ j → i < length cells
    low e = subst (λ n. n < length cells) (sym e) (subst (λ n. j < n) (length-set cells i None) (held-inside (set cells i None) j d held))

    by : (j ≡ i) ⊎ (j ≢ i) → (j ≢ i) × (digest_in cells j ≡ Some d)
    by (inl same) = absurd (none-some d (sym (ap (λ n. digest_in (set cells i None) n) same ∙ get_or-set_same cells i None None (low (sym same))) ∙ held))
    by (inr other) = (other, sym (get_or-set_other cells i j None None other) ∙ held)

-- what a mark leaves known
pub mark-knows : (S : SessionSeen) (n b : ℕ) (d : Hash) (S' : SessionSeen) → IsLeafMarked S n b d S' → (l i : ℕ)
    → known_at S' n l i ≡ known_at S n l i
mark-knows S n b d S' (s, there, leaf, is) l i =
    let a : TreeState = record s { marked = leaves.insert s.marked b } in
    ap (λ (U : SessionSeen). known_at U n l i) is
    ∙ ap (λ o. known_in o l i) (set-write S.trees n a s there) ∙ sym (ap (λ o. known_in o l i) there)

module _ (S : SessionSeen) (n first : ℕ) (cells : Cells) (from : ℕ) where
  -- a block that is not yet marked is still held
  pub later-held : (k : ℕ) (S' : SessionSeen) (cells' : Cells) → AreBlocksMarked S n first cells from k S' cells' → (j : ℕ) (d : Hash)
      → digest_in cells' j ≡ Some d → digest_in cells j ≡ Some d
  later-held zero S' cells' h j d held = ap (λ c. digest_in c j) (sym h.1) ∙ held
  later-held (suc k) S' cells' (M, between, rest, last) j d held =
      later-held k M between rest j d (emptied between (from + k) j d (ap (λ c. digest_in c j) (sym last.rest) ∙ held)).1

  pub marked-length : (k : ℕ) (S' : SessionSeen) (cells' : Cells) → AreBlocksMarked S n first cells from k S' cells' → length cells' ≡ length cells
  marked-length zero S' cells' h = ap length h.1
  marked-length (suc k) S' cells' (M, between, rest, last) =
      ap length last.rest ∙ length-set between (from + k) None ∙ marked-length k M between rest

  abbrev MarkedAt : ℕ → SessionSeen → Type 0
  MarkedAt i S' = (d : Hash) × (digest_in cells (from + i) ≡ Some d) × (known_at S' n 0 (first + (from + i)) ≡ Some d)

  marked-last : (k : ℕ) (M : SessionSeen) (between : Cells) (S' : SessionSeen) (cells' : Cells) → AreBlocksMarked S n first cells from k M between
      → IsBlockMarked M n first between (from + k) S' cells' → (i : ℕ) → i < suc k → (i < k → MarkedAt i M) → MarkedAt i S'
  marked-last k M between S' cells' rest last i low earlier = by (cases_eq i k)
    where
      keeps : (l j : ℕ) → known_at S' n l j ≡ known_at M n l j
      keeps = mark-knows M n (first + (from + k)) last.digest S' last.marked

      here : known_at M n 0 (first + (from + k)) ≡ Some last.digest
      here = let (s, there, leaf, is) = last.marked in ap (λ o. known_in o 0 (first + (from + k))) there ∙ leaf

      by : (i ≡ k) ⊎ (i ≢ k) → MarkedAt i S'
      by (inl same) = subst (λ j. MarkedAt j S') (sym same)
          (last.digest, later-held k M between rest (from + k) last.digest last.held, keeps 0 (first + (from + k)) ∙ here)
      by (inr other) =
          let (d, held, known) = earlier (omega (arith, low, other)) in
          (d, held, keeps 0 (first + (from + i)) ∙ known)

  -- each block that is marked was held, and its digest is its known leaf
  pub marked-each : (k : ℕ) (S' : SessionSeen) (cells' : Cells) → AreBlocksMarked S n first cells from k S' cells' → (i : ℕ) → i < k → MarkedAt i S'
  marked-each zero S' cells' h i low = absurd (omega (arith, low))
  marked-each (suc k) S' cells' (M, between, rest, last) i low =
      marked-last k M between S' cells' rest last i low (λ less. marked-each k M between rest i less)
