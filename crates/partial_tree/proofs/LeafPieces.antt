-- The leaves of a piece's bytes.
use Rattle.std.proofs.Common.{◌≡◌, ℕ, ◌+◌, ◌-◌, ◌*◌, ◌/◌, ◌^◌, ◌<◌, List, [], length, get_or, sym, ◌∙◌, subst, arith}
use Rattle.std.specs.Prelude.{min}
use Rattle.std.proofs.lemmas.List.FromFn.{get_or-map-range_with_len, length-map-range_with_len}
use Rattle.sha2.specs.Sha256.{sha256}
use Rattle.hashtree.specs.Tree.{block, block_count}
use Rattle.partial_tree.specs.LeafRows.{IsLeafRow, row_claims, row_joins, AreRowPadsKnown, TakesRow}
use Rattle.std.proofs.Common.{◌≢◌, ◌≤◌, ap, Some, inl, inr}
use Rattle.node_maps.specs.Digest.{Hash}
use Rattle.std.specs.Borrow.{Bor}
use Rattle.node_maps.specs.Known.{Known, look}
use Rattle.node_maps.specs.Places.{tree_height, PartialTree, IsKnown}
use Rattle.node_maps.specs.Runs.{AreKnown}
use Rattle.partial_tree.specs.TreeRoot.{TreeRoot}
use Rattle.partial_tree.specs.Closed.{IsClosed}
use Rattle.partial_tree.specs.Claims.{HasNew, IsMismatch}
use Rattle.partial_tree.proofs.KnownRows.{known-row, leaf-claim, row-new}
use Rattle.partial_tree.proofs.TakenRows.{claimed-leaf, row-small}
use Rattle.partial_tree.specs.LeafPieces.{leaves_in, IsPieceRow}

pub length-leaves : (bytes : List ℕ) → length (leaves_in bytes) ≡ block_count (length bytes)
length-leaves bytes = length-map-range_with_len (λ i. sha256 (block bytes i)) 0 (block_count (length bytes))

pub leaf-at : (bytes : List ℕ) (j : ℕ) → j < block_count (length bytes) → get_or (leaves_in bytes) j [] ≡ sha256 (block bytes j)
leaf-at bytes j low = get_or-map-range_with_len (λ i. sha256 (block bytes i)) 0 (block_count (length bytes)) j j [] low (omega arith)

row_blocks : (w len first size : ℕ) → size ≡ min (16384 * w) (len - 16384 * first) → (size + 16383) / 16384 ≡ min w ((len + 16383) / 16384 - first)
row_blocks w len first size is = omega (arith, is)

-- a piece's leaves are as many as stand under its node
pub piece-row : (len first k : ℕ) (bytes : List ℕ) → IsPieceRow len first k (length bytes) → IsLeafRow len first k (length (leaves_in bytes))
piece-row len first k bytes row = record {
  span_inside = row.span_inside;
  aligned = row.aligned;
  some = row.some;
  count_is = length-leaves bytes ∙ row_blocks (2 ^ k) len first (length bytes) row.size_is;
}

-- ---- a piece whose leaves are all known

module _ (t : TreeRoot) (m : Known) (closed : IsClosed t (look m)) (first k : ℕ) (bytes : List ℕ) (row : IsPieceRow t.length first k (length bytes))
    (top : IsKnown (look m) k (first / 2 ^ k)) (known : AreKnown (look m 0) first (2 ^ k)) (pads : AreRowPadsKnown t.length (look m) first k) where
  abbrev leaves : Bor (List Hash)
  leaves = record { ref_ptr = (0, 0); now = leaves_in bytes }

  pub known-piece : ((j : ℕ) → j < block_count (length bytes) → look m 0 (first + j) ≡ Some (sha256 (block bytes j)))
      → TakesRow t.length first k (leaves_in bytes) m 0 m
  known-piece fits = known-row t m closed first k leaves (piece-row t.length first k bytes row) top pads same
    where
      same : (i : ℕ) (v : Hash) → row_claims first k (leaves_in bytes) 0 i ≡ Some v → look m 0 i ≡ Some v
      same i v e =
          let (j, at, low, which) = leaf-claim t first k leaves (piece-row t.length first k bytes row) i v e in
          elim which [
            | inl (there, is) ↦
                let few : j < block_count (length bytes) = omega (arith, there, length-leaves bytes) in
                ap (look m 0) (sym at) ∙ fits j few ∙ ap Some (sym (leaf-at bytes j few) ∙ is)
            | inr (past, pad) ↦
                let u = known j low in
                let here : look m 0 i ≡ Some u.0 = ap (look m 0) (sym at) ∙ u.1 in
                let one : i * 2 ^ 0 ≡ i = omega arith in
                here ∙ ap Some (closed.pads 0 i u.0 here (subst (λ n. block_count t.length ≤ n) (sym one) past) ∙ sym pad)
          ]

  pub false-piece : (j : ℕ) → j < block_count (length bytes) → look m 0 (first + j) ≢ Some (sha256 (block bytes j))
      → IsMismatch (look m) (row_claims first k (leaves_in bytes))
  false-piece j few differs =
      let leaf-row = piece-row t.length first k bytes row in
      let there : j < length (leaves_in bytes) = omega (arith, few, length-leaves bytes) in
      let u = known j (omega (arith, there, leaf-row.count_is)) in
      record {
        layer = 0;
        index = first + j;
        in_J = u.0;
        in_K = sha256 (block bytes j);
        J_known = u.1;
        K_known = claimed-leaf t first k leaves leaf-row j there ∙ ap Some (leaf-at bytes j few);
        differ = λ e. differs (u.1 ∙ ap Some e);
      }

pub piece-new : (t : TreeRoot) (K : PartialTree) (first k : ℕ) (bytes : List ℕ) → IsPieceRow t.length first k (length bytes)
    → ¬ AreKnown (K 0) first (2 ^ k) → HasNew K (row_joins t.length first k (leaves_in bytes))
piece-new t K first k bytes row unknown =
    row-new t K first k (record { ref_ptr = (0, 0); now = leaves_in bytes }) (piece-row t.length first k bytes row) unknown

pub piece-small : (len first k : ℕ) (bytes : List ℕ) → IsPieceRow len first k (length bytes) → tree_height len ≤ 32
    → first + block_count (length bytes) ≤ 2 ^ 32
piece-small len first k bytes row low =
    let small = row-small len first k (leaves_in bytes) (piece-row len first k bytes row) low in
    omega (arith, small, length-leaves bytes)
