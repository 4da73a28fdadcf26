-- Rows of cells in which one row was changed.
use Rattle.std.proofs.Common.{◌≡◌, ◌≢◌, ◌⊎◌, ℕ, zero, suc, ◌<◌, ◌≤◌, List, [], ◌∷◌, ◌++◌, length, take, replicate, set, Option, None}
use Rattle.std.proofs.Common.{inl, inr, refl, ap, ◌∙◌, arith}
use Rattle.std.specs.Prelude.{slice_get}
use Rattle.std.specs.Option.{option_and_then, option_map, unwrap_or}
use Rattle.std.proofs.lemmas.Bool.{cases_lt}
use Rattle.std.proofs.lemmas.List.{take_all}
use Rattle.std.proofs.lemmas.Option.{slice_get_past}
use Rattle.node_maps.specs.Digest.{Hash}
use Rattle.node_maps.specs.Flat.{FlatRow, row_cells, AreSameFlatCells, AreSameFlatCellsBut}
use Rattle.node_maps.proofs.Rows.{IsItemAt, each_item}

-- the hash in a cell, if the cell is there and holds one
abbrev pub hash_at : List (Option Hash) → ℕ → Option Hash
hash_at row i = option_and_then (λ o. o) (slice_get row i)

-- cells that are added hold nothing
empty-after : (row : List (Option Hash)) (k i : ℕ) → hash_at (row ++ replicate k None) i ≡ hash_at row i
empty-after [] zero i = refl
empty-after [] (suc k) zero = refl
empty-after [] (suc k) (suc i) = empty-after [] k i
empty-after (o ∷ row) k zero = refl
empty-after (o ∷ row) k (suc i) = empty-after row k i

pub longer-hash : (row new : List (Option Hash)) (n k : ℕ) → length row ≤ n → new ≡ take n row ++ replicate k None → (i : ℕ) → hash_at new i ≡ hash_at row i
longer-hash row new n k all is i =
    ap (λ r. hash_at r i) (is ∙ ap (λ r. r ++ replicate k None) (take_all n row all)) ∙ empty-after row k i

pub hash-other : (row : List (Option Hash)) (j : ℕ) (o : Option Hash) (i : ℕ) → i ≢ j → hash_at (set row j o) i ≡ hash_at row i
hash-other [] j o i other = refl
hash-other (x ∷ row) zero o zero other = absurd (other refl)
hash-other (x ∷ row) zero o (suc i) other = refl
hash-other (x ∷ row) (suc j) o zero other = refl
hash-other (x ∷ row) (suc j) o (suc i) other = hash-other row j o i (λ e. other (ap suc e))

-- a place that has a cell has a row
pub cell-row : (rows : List FlatRow) (l i : ℕ) → i < row_cells rows l → l < length rows
cell-row rows l i there = elim (cases_lt l (length rows)) [
  | inl low ↦ low
  | inr past ↦
      let none : row_cells rows l ≡ 0 =
      ap (λ (o : Option FlatRow). unwrap_or (option_map (λ (r : FlatRow). length r.items) o) 0) (slice_get_past rows l past) in
      absurd (omega arith)
]

module _ {rows : List FlatRow} {layer : ℕ} {row : FlatRow} (x : IsItemAt rows layer row) (new : FlatRow) where
  pub flat-cells : ((i : ℕ) → hash_at new.items i ≡ hash_at row.items i) → AreSameFlatCells rows (set rows layer new)
  flat-cells same l i =
      let at : Option FlatRow → Option Hash = option_and_then (λ (r : FlatRow). hash_at r.items i) in
      each_item (λ _ (o p : Option FlatRow). at p ≡ at o) rows layer row new x.low x.is (same i) (λ _ _. refl) l

  pub flat-cells_but : (index : ℕ) → ((i : ℕ) → i ≢ index → hash_at new.items i ≡ hash_at row.items i)
      → AreSameFlatCellsBut layer index rows (set rows layer new)
  flat-cells_but index same l i =
      let at : Option FlatRow → Option Hash = option_and_then (λ (r : FlatRow). hash_at r.items i) in
      each_item (λ k (o p : Option FlatRow). (k ≢ layer) ⊎ (i ≢ index) → at p ≡ at o) rows layer row new x.low x.is
      (λ d. elim d [ inl other ↦ absurd (other refl) | inr other ↦ same i other ]) (λ _ _ _. refl) l

  pub flat-others : (l : ℕ) → l ≢ layer → row_cells (set rows layer new) l ≡ row_cells rows l
  flat-others l other =
      let long : Option FlatRow → ℕ = λ (o : Option FlatRow). unwrap_or (option_map (λ (r : FlatRow). length r.items) o) 0 in
      each_item (λ k (o p : Option FlatRow). k ≢ layer → long p ≡ long o) rows layer row new x.low x.is (λ no. absurd (no refl)) (λ _ _ _. refl) l other
