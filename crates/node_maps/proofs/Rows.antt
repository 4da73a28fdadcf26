-- Rows of pages in which one row was changed.
use Rattle.std.proofs.Common.{◌≡◌, ◌≢◌, ◌⊎◌, ℕ, zero, suc, ◌+◌, ◌/◌, ◌%◌, ◌<◌, ◌≤◌, Bool, List, [], ◌∷◌, length, get_or, Option, Some}
use Rattle.std.proofs.Common.{IsSome, is_some, inl, inr, refl, sym, ap}
use Rattle.std.proofs.Common.{◌∙◌, subst, arith}
use Rattle.std.specs.Prelude.{slice_get}
use Rattle.std.specs.Option.{option_and_then, option_map, unwrap_or}
use Rattle.std.proofs.Math.ListN.{set}
use Rattle.std.proofs.lemmas.Bool.{cases_eq, false≢true}
use Rattle.std.proofs.lemmas.Option.{slice_get_past, slice_get_read}
use Rattle.node_maps.specs.declared.paged_row.PagedRow.{PagedRow}
use Rattle.node_maps.specs.declared.page.Cell.{Cell}
use Rattle.node_maps.specs.Cell.{with_hash}
use Rattle.node_maps.specs.Digest.{Hash}
use Rattle.node_maps.specs.Pages.{cell_of, AreSpare}
use Rattle.node_maps.specs.PagedRow.{pages_of, cell_of_row, AreSameRowCells, AreSameRowCellsBut, HasRowPages, KeepsRowPages}
use Rattle.node_maps.specs.Paged.{page_at, cell_at, row_pages, held_below, AreSamePagedCells, AreSamePagedCellsBut, KeepPages, AreAsMany}
use Rattle.node_maps.specs.Paged.{AreNotMore, AreTrimmed, GrowsBy, HasPages}

-- what holds of the item that is written, and of each that stays, holds at each place
pub each_item : {X : Type 0} (P : ℕ → Option X → Option X → Type 0) (xs : List X) (i : ℕ) (x y : X) → i < length xs → x ≡ get_or xs i x
    → P i (Some x) (Some y) → ((l : ℕ) (o : Option X) → P l o o) → (l : ℕ) → P l (slice_get xs l) (slice_get (set xs i y) l)
each_item P [] i x y low is here stays l = absurd (omega arith)
each_item P (a ∷ xs) zero x y low is here stays zero = subst (λ o. P zero o (Some y)) (ap Some is) here
each_item P (a ∷ xs) zero x y low is here stays (suc l) = stays (suc l) (slice_get xs l)
each_item P (a ∷ xs) (suc i) x y low is here stays zero = stays zero (Some a)
each_item P (a ∷ xs) (suc i) x y low is here stays (suc l) = each_item (λ k. P (suc k)) xs i x y (omega arith) is here (λ k. stays (suc k)) l

-- what holds of the item that was there and of the one that is written
this_item : {X : Type 0} (P : Option X → Option X → Type 0) (xs : List X) (i : ℕ) (x y : X) → i < length xs → x ≡ get_or xs i x
    → P (Some x) (Some y) → P (slice_get xs i) (slice_get (set xs i y) i)
this_item P [] i x y low is here = absurd (omega arith)
this_item P (a ∷ xs) zero x y low is here = subst (λ o. P o (Some y)) (ap Some is) here
this_item P (a ∷ xs) (suc i) x y low is here = this_item P xs i x y (omega arith) is here

-- where there is no row there is no page
pub no_row : (rows : List PagedRow) (layer n : ℕ) → length rows ≤ layer → IsSome (page_at rows layer n) → ⊥
no_row rows layer n past some =
    false≢true (sym (ap (λ (o : Option PagedRow). is_some (option_and_then (λ (r : PagedRow). pages_of r n) o)) (slice_get_past rows layer past)) ∙ some)

-- the item stands at a place of a list
pub record IsItemAt {X : Type 0} (xs : List X) (i : ℕ) (x : X) : Type 0 where
  pub low : i < length xs
  pub is : x ≡ get_or xs i x

module _ {rows : List PagedRow} {layer : ℕ} {row : PagedRow} (x : IsItemAt rows layer row) (new : PagedRow) where
  pub row-cells : AreSameRowCells row new → AreSamePagedCells rows (set rows layer new)
  row-cells same l i =
      let at : Option PagedRow → Cell = λ (o : Option PagedRow). cell_of (option_and_then (λ (r : PagedRow). pages_of r (i / 512)) o) (i % 512) in
      each_item (λ _ (o p : Option PagedRow). at p ≡ at o) rows layer row new x.low x.is (same i) (λ _ _. refl) l

  pub row-cells_but : (index : ℕ) → AreSameRowCellsBut index row new → AreSamePagedCellsBut layer index rows (set rows layer new)
  row-cells_but index same l i =
      let at : Option PagedRow → Cell = λ (o : Option PagedRow). cell_of (option_and_then (λ (r : PagedRow). pages_of r (i / 512)) o) (i % 512) in
      each_item (λ k (o p : Option PagedRow). (k ≢ layer) ⊎ (i ≢ index) → at p ≡ at o) rows layer row new x.low x.is
      (λ d. elim d [ inl other ↦ absurd (other refl) | inr other ↦ same i other ]) (λ _ _ _. refl) l

  pub row-cell : (index : ℕ) (hash : Hash) (mark : Bool) → cell_of_row new index ≡ with_hash (cell_of_row row index) hash mark
      → cell_at (set rows layer new) layer index ≡ with_hash (cell_at rows layer index) hash mark
  row-cell index hash mark here =
      let at : Option PagedRow → Cell = λ (o : Option PagedRow). cell_of (option_and_then (λ (r : PagedRow). pages_of r (index / 512)) o) (index % 512) in
      this_item (λ (o p : Option PagedRow). at p ≡ with_hash (at o) hash mark) rows layer row new x.low x.is here

  pub row-keeps : KeepsRowPages row new → KeepPages rows (set rows layer new)
  row-keeps keeps l n =
      let has : Option PagedRow → Type 0 = λ (o : Option PagedRow). IsSome (option_and_then (λ (r : PagedRow). pages_of r n) o) in
      each_item (λ _ (o p : Option PagedRow). has o → has p) rows layer row new x.low x.is (keeps n) (λ _ _ was. was) l

  pub row-has : (first end : ℕ) → HasRowPages new first end → HasPages (set rows layer new) layer first end
  row-has first end has n from to =
      this_item (λ (_ p : Option PagedRow). IsSome (option_and_then (λ (r : PagedRow). pages_of r n) p)) rows layer row new x.low x.is (has n from to)

  pub row-had : (first end : ℕ) → HasPages rows layer first end → HasRowPages row first end
  row-had first end had n from to =
      this_item (λ (o _ : Option PagedRow). IsSome (option_and_then (λ (r : PagedRow). pages_of r n) o) → IsSome (pages_of row n)) rows layer row new x.low x.is
      (λ there. there) (had n from to)

  count : Option PagedRow → ℕ
  count o = unwrap_or (option_map (λ (r : PagedRow). r.count) o) 0

  pub row-as_many : new.count ≡ row.count → AreAsMany rows (set rows layer new)
  unfolding count
  row-as_many same l = each_item (λ _ o p. count p ≡ count o) rows layer row new x.low x.is same (λ _ _. refl) l

  pub row-grows : (more : ℕ) → new.count ≤ row.count + more → GrowsBy layer more rows (set rows layer new)
  unfolding count
  row-grows more grows = record {
    here = this_item (λ o p. count p ≤ count o + more) rows layer row new x.low x.is grows;
    others = λ l other. each_item (λ k o p. k ≢ layer → count p ≡ count o) rows layer row new x.low x.is (λ other. absurd (other refl)) (λ _ _ _. refl) l other;
  }

  pub row-fewer : new.count ≤ row.count → AreNotMore rows (set rows layer new)
  unfolding count
  row-fewer fewer l = each_item (λ _ o p. count p ≤ count o) rows layer row new x.low x.is fewer (λ _ _. omega arith) l

  pub row-trimmed : AreSpare (pages_of new) [] → AreTrimmed rows layer → AreTrimmed (set rows layer new) (layer + 1)
  row-trimmed spare before = record {
    full = λ l r below there. elim (cases_eq l layer) [
      | inl same ↦ this_item (λ _ (p : Option PagedRow). p ≡ Some r → AreSpare (pages_of r) []) rows layer row new x.low x.is
          (λ e. (let whole : new ≡ r = cc in subst (λ (y : PagedRow). AreSpare (pages_of y) []) whole spare))
          (subst (λ k. slice_get (set rows layer new) k ≡ Some r) same there)
      | inr other ↦
          let stays : slice_get (set rows layer new) l ≡ slice_get rows l =
          each_item (λ k (o p : Option PagedRow). k ≢ layer → p ≡ o) rows layer row new x.low x.is (λ other. absurd (other refl)) (λ _ _ _. refl) l other in
          before.full l r (omega arith) (sym stays ∙ there)
    ];
  }

-- a row reads as what the rows say of its layer
pub row_cell-read : (rows : List PagedRow) (layer : ℕ) (row : PagedRow) → layer < length rows → row ≡ get_or rows layer row → (index : ℕ)
    → cell_at rows layer index ≡ cell_of_row row index
row_cell-read rows layer row low is index =
    ap (λ (o : Option PagedRow). cell_of (option_and_then (λ (r : PagedRow). pages_of r (index / 512)) o) (index % 512))
    (slice_get_read rows (length rows) layer row refl low is)

pub row_pages-read : (rows : List PagedRow) (layer : ℕ) (row : PagedRow) → layer < length rows → row ≡ get_or rows layer row → row_pages rows layer ≡ row.count
row_pages-read rows layer row low is =
    ap (λ (o : Option PagedRow). unwrap_or (option_map (λ (r : PagedRow). r.count) o) 0) (slice_get_read rows (length rows) layer row refl low is)

pub held_below-next : (rows : List PagedRow) (l : ℕ) → held_below rows (l + 1) ≡ held_below rows l + row_pages rows l
held_below-next rows l = ap (held_below rows) next
  where
    next : l + 1 ≡ suc l
    next = omega arith
