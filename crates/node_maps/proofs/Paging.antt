-- Rows of pages, when they grow, when a cell is written, and when they are trimmed.
use Rattle.std.proofs.Common.{◌≡◌, ◌≢◌, ◌⊎◌, ℕ, zero, suc, ◌+◌, ◌-◌, ◌/◌, ◌%◌, ◌^◌, ◌<◌, ◌≤◌, Bool, true, false, cond, eqb, ltb, ◌||◌, List, [], ◌∷◌}
use Rattle.std.proofs.Common.{length, get_or, Option, Some, None, inl, inr, refl, sym, ap, ap₂, ◌∙◌, subst, arith}
use Rattle.std.specs.Prelude.{slice_get}
use Rattle.std.specs.Option.{option_and_then, option_map, unwrap_or}
use Rattle.std.specs.FinMap.{empty, insert, get-empty}
use Rattle.std.specs.FinSet as set
use Rattle.std.specs.FinSet.{same_set, contains-insert, nat_cmp-IsAntisymmetric}
use Rattle.std.specs.Ordering.{nat_cmp, eq_by_cmp}
use Rattle.std.specs.Cmp.{nat_cmp_total}
use Rattle.std.proofs.lemmas.Bool.Decides.{nat_tests}
use Rattle.std.proofs.lemmas.Bool.{cases_lt, cases_eq, cond-false, or_left, eq-eqb, ne_eqb, false≢true}
use Rattle.std.proofs.lemmas.Option.{none-some, slice_get_past, slice_get_read}
use Rattle.node_maps.specs.declared.paged_row.PagedRow.{PagedRow}
use Rattle.node_maps.specs.declared.page.Cell.{Cell}
use Rattle.node_maps.specs.declared.page.Cell.TheVariants.{Empty, Known, Marked}
use Rattle.node_maps.specs.Cell.{hash_of, mark_of, with_hash}
use Rattle.node_maps.specs.Digest.{Hash}
use Rattle.node_maps.specs.Places.{PartialTree, IsTreePlace}
use Rattle.node_maps.specs.Known.{place_cmp, look, within, tabulate}
use Rattle.node_maps.specs.Room.{page_span}
use Rattle.node_maps.specs.Paged.{cell_at, hashes, HoldsTree, marked_cells, row_pages, held_below, held_pages, AreTrimmed, AreNotMore, GrowsBy}
use Rattle.node_maps.specs.Pages.{marks_where, cell_of}
use Rattle.node_maps.specs.PagedRow.{pages_of, row_hashes}
use Rattle.node_maps.proofs.Cells.{contains-marks_of}
use Rattle.node_maps.proofs.Known.{nat_equal, same_known, look-within, within-at, tabulate-put}

-- ---- a cell with a hash

pub hash-with_hash : (c : Cell) (h : Hash) (mark : Bool) → hash_of (with_hash c h mark) ≡ Some h
hash-with_hash c h mark = by_mark (mark || mark_of c)
  where
    by_mark : (b : Bool) → hash_of (cond b (Marked h) (Known h)) ≡ Some h
    by_mark true = refl
    by_mark false = refl

pub mark-with_hash : (c : Cell) (h : Hash) (mark : Bool) → mark_of (with_hash c h mark) ≡ (mark || mark_of c)
mark-with_hash c h mark = by_mark (mark || mark_of c)
  where
    by_mark : (b : Bool) → mark_of (cond b (Marked h) (Known h)) ≡ b
    by_mark true = refl
    by_mark false = refl

-- ---- what is known

-- what is known of cells that are all in the tree is what they hold
pub look-hashes : (h : ℕ) (rows : List PagedRow) → HoldsTree h rows → (l i : ℕ) → look (tabulate h (within h (hashes rows))) l i ≡ hashes rows l i
look-hashes h rows in_tree l i = look-within h (hashes rows) l i ∙ by_cell (hashes rows l i) refl
  where
    none_within : hashes rows l i ≡ None → (b : Bool) → cond b (hashes rows l i) None ≡ hashes rows l i
    none_within e true = refl
    none_within e false = sym e

    by_cell : (o : Option Hash) → hashes rows l i ≡ o → within h (hashes rows) l i ≡ hashes rows l i
    by_cell None e = none_within e _
    by_cell (Some v) e = within-at h (hashes rows) l i (in_tree.place l i v e)

-- a layer reads as its row does
pub row-hashes : (rows : List PagedRow) (l : ℕ) (row : PagedRow) → l < length rows → row ≡ get_or rows l row → (i : ℕ) → row_hashes row i ≡ hashes rows l i
row-hashes rows l row low is i =
    sym (ap (λ o. hash_of (cell_of (option_and_then (λ (r : PagedRow). pages_of r (i / 512)) o) (i % 512)))
    (slice_get_read rows (length rows) l row refl low is))

-- and as nothing where there is no row
pub no_row-hashes : (rows : List PagedRow) (l : ℕ) → length rows ≤ l → (i : ℕ) → hashes rows l i ≡ None
no_row-hashes rows l past i =
    ap (λ o. hash_of (cell_of (option_and_then (λ (r : PagedRow). pages_of r (i / 512)) o) (i % 512))) (slice_get_past rows l past)

-- the same cells
module _ (h : ℕ) (old new : List PagedRow) (same : (l i : ℕ) → cell_at new l i ≡ cell_at old l i) where
  pub same-in_tree : HoldsTree h old → HoldsTree h new
  same-in_tree in_tree = record { place = λ l i v e. in_tree.place l i v (sym (ap hash_of (same l i)) ∙ e) }

pub no_rows-in_tree : (h : ℕ) (rows : List PagedRow) → rows ≡ [] → HoldsTree h rows
no_rows-in_tree h rows none = record { place = λ l i v e. absurd (none-some v (sym (ap (λ rs. hashes rs l i) none) ∙ e)) }

pub no_rows-known : (h : ℕ) (rows : List PagedRow) → rows ≡ [] → tabulate h (within h (hashes rows)) ≡ empty
no_rows-known h rows none = same_known (tabulate h (within h (hashes rows))) empty (λ l i.
    look-hashes h rows (no_rows-in_tree h rows none) l i ∙ ap (λ rs. hashes rs l i) none ∙ sym (get-empty place_cmp (l, i)))

-- ---- marks

-- a marked cell holds a hash
mark_hash : (c : Cell) → mark_of c ≡ true → (v : Hash) × (hash_of c ≡ Some v)
mark_hash Empty e = absurd (false≢true e)
mark_hash (Known h) e = absurd (false≢true e)
mark_hash (Marked h) e = (h, refl)

pub leaf_low : (h i : ℕ) → IsTreePlace h 0 i → i < 2 ^ h
leaf_low h i at = subst (λ k. i < 2 ^ k) (let e : h - 0 ≡ h = omega arith in e) at.1

-- a number is among the marked leaves where its cell is marked
pub contains-marked_cells : (h : ℕ) (rows : List PagedRow) → HoldsTree h rows → (i : ℕ) → set.contains (marked_cells h rows) i ≡ mark_of (cell_at rows 0 i)
contains-marked_cells h rows in_tree i = contains-marks_of (λ k. mark_of (cell_at rows 0 k)) (2 ^ h) i (λ e.
    (let holds = mark_hash (cell_at rows 0 i) e in leaf_low h i (in_tree.place 0 i holds.0 holds.1)))

-- ---- a cell that is written

module _ (h : ℕ) (old new : List PagedRow) (l i : ℕ) (c : Cell) (here : cell_at new l i ≡ c) (others : (l' i' : ℕ) → (l' ≢ l) ⊎ (i' ≢ i)
    → cell_at new l' i' ≡ cell_at old l' i') where
  here_or_not : (l' i' : ℕ) → ((l' ≡ l) × (i' ≡ i)) ⊎ ((l' ≢ l) ⊎ (i' ≢ i))
  here_or_not l' i' = both (cases_eq l' l) (cases_eq i' i)
    where
      both : (l' ≡ l) ⊎ (l' ≢ l) → (i' ≡ i) ⊎ (i' ≢ i) → ((l' ≡ l) × (i' ≡ i)) ⊎ ((l' ≢ l) ⊎ (i' ≢ i))
      both (inr e) q = inr (inl e)
      both (inl p) (inr e) = inr (inr e)
      both (inl p) (inl q) = inl (p, q)

  pub put-in_tree : IsTreePlace h l i → HoldsTree h old → HoldsTree h new
  put-in_tree at in_tree = record {
    place = λ l' i' v e. elim (here_or_not l' i') [
      | inl (p, q) ↦ subst (λ k. IsTreePlace h k i') (sym p) (subst (λ k. IsTreePlace h l k) (sym q) at)
      | inr other ↦ in_tree.place l' i' v (sym (ap hash_of (others l' i' other)) ∙ e)
    ];
  }

  pub put-known : (v : Hash) → IsTreePlace h l i → hash_of c ≡ Some v → tabulate h (within h (hashes new)) ≡ insert (tabulate h (within h (hashes old))) (l, i)
      v
  put-known v at is = tabulate-put h (hashes old) (hashes new) l i v at (ap hash_of here ∙ is) (λ l' i' other. ap hash_of (others l' i' other))

  pub put-known-same : hash_of c ≡ hashes old l i → tabulate h (within h (hashes new)) ≡ tabulate h (within h (hashes old))
  put-known-same is = ap (λ (f : PartialTree). tabulate h (within h f)) (λ k l' i'. at l' i' k)
    where
      at : (l' i' : ℕ) → hashes new l' i' ≡ hashes old l' i'
      at l' i' = elim (here_or_not l' i') [
        | inl (p, q) ↦ ap₂ (hashes new) p q ∙ ap hash_of here ∙ is ∙ sym (ap₂ (hashes old) p q)
        | inr other ↦ ap hash_of (others l' i' other)
      ]

  pub put-marked-same : mark_of c ≡ mark_of (cell_at old l i) → marked_cells h new ≡ marked_cells h old
  put-marked-same is = ap (λ f. marks_where f (2 ^ h)) (λ k i'. at i' k)
    where
      at : (i' : ℕ) → mark_of (cell_at new 0 i') ≡ mark_of (cell_at old 0 i')
      at i' = elim (here_or_not 0 i') [
        | inl (p, q) ↦ ap₂ (λ a b. mark_of (cell_at new a b)) p q ∙ ap mark_of here ∙ is ∙ sym (ap₂ (λ a b. mark_of (cell_at old a b)) p q)
        | inr other ↦ ap mark_of (others 0 i' other)
      ]

-- a leaf that is marked is one more marked leaf
pub put-marked : (h : ℕ) (old new : List PagedRow) (i : ℕ) (c : Cell) → cell_at new 0 i ≡ c
    → ((l' i' : ℕ) → (l' ≢ 0) ⊎ (i' ≢ i) → cell_at new l' i' ≡ cell_at old l' i')
    → HoldsTree h old → HoldsTree h new → mark_of c ≡ true → marked_cells h new ≡ set.insert (marked_cells h old) i
put-marked h old new i c here others old_tree new_tree is = same_set nat_cmp_total nat_cmp-IsAntisymmetric (marked_cells h new)
    (set.insert (marked_cells h old) i)
    (λ k. contains-marked_cells h new new_tree k ∙ read k (cases_eq k i) ∙ sym (contains-insert nat_cmp_total (marked_cells h old) i k))
  where
    read : (k : ℕ) → (k ≡ i) ⊎ (k ≢ i) → mark_of (cell_at new 0 k) ≡ (eq_by_cmp nat_cmp k i || set.contains (marked_cells h old) k)
    read k (inl same) = ap (λ n. mark_of (cell_at new 0 n)) same ∙ ap mark_of here ∙ is
        ∙ sym (or_left (eq_by_cmp nat_cmp k i) (set.contains (marked_cells h old) k) (nat_equal k i ∙ eq-eqb k i same))
    read k (inr other) = ap mark_of (others 0 k (inr other)) ∙ sym (contains-marked_cells h old old_tree k)
        ∙ sym (ap (λ b. b || set.contains (marked_cells h old) k) (nat_equal k i ∙ ne_eqb k i other))

-- ---- how many pages

held_below-same : (old new : List PagedRow) → ((l : ℕ) → row_pages new l ≡ row_pages old l) → (top : ℕ) → held_below new top ≡ held_below old top
held_below-same old new same zero = refl
held_below-same old new same (suc l) = ap₂ ◌+◌ (held_below-same old new same l) (same l)

pub held-same : (old new : List PagedRow) → ((l : ℕ) → row_pages new l ≡ row_pages old l) → held_pages new ≡ held_pages old
unfolding held_pages
held-same old new same = held_below-same old new same 33

past-none : {X : Type 0} (xs : List X) (l : ℕ) → length xs ≤ l → slice_get xs l ≡ None
past-none [] l le = refl
past-none (x ∷ xs) zero le = absurd (omega arith)
past-none (x ∷ xs) (suc l) le = past-none xs l (omega arith)

held_past : (rows : List PagedRow) (n top : ℕ) → length rows ≤ n → n ≤ top → held_below rows top ≡ held_below rows n
held_past rows n zero le low = let e : 0 ≡ n = omega arith in ap (held_below rows) e
held_past rows n (suc l) le low = elim (cases_lt l n) [
  | inl less ↦ (let e : suc l ≡ n = omega arith in ap (held_below rows) e)
  | inr more ↦
      let none : row_pages rows l ≡ 0 = ap (λ o. unwrap_or (option_map (λ (row : PagedRow). row.count) o) 0) (past-none rows l (omega arith)) in
      let rest : held_below rows l ≡ held_below rows n = held_past rows n l le more in
      omega arith
]

-- the pages of all rows
pub held-all : (rows : List PagedRow) (n : ℕ) → length rows ≤ n → n ≤ 33 → held_below rows n ≡ held_pages rows
unfolding held_pages
held-all rows n le low = sym (held_past rows n 33 le low)

pub in_rows : {X : Type 0} (xs : List X) (l : ℕ) (x : X) → slice_get xs l ≡ Some x → l < length xs
in_rows xs l x e = elim (cases_lt l (length xs)) [ inl low ↦ low | inr past ↦ absurd (none-some x (sym (past-none xs l past) ∙ e)) ]

pub no_rows-trimmed : (rows : List PagedRow) (top : ℕ) → rows ≡ [] → AreTrimmed rows top
no_rows-trimmed rows top none = record { full = λ l row low e. absurd (none-some row (sym (ap (λ rs. slice_get rs l) none) ∙ e)) }

-- a layer that gets pages
held_below-more : (layer more : ℕ) (old new : List PagedRow) → GrowsBy layer more old new → (top : ℕ)
    → held_below new top ≤ held_below old top + cond (ltb layer top) more 0
held_below-more layer more old new grows zero = omega arith
held_below-more layer more old new grows (suc l) = elim (cases_eq l layer) [
  | inl same ↦ grind (arith, nat_tests, held_below-more layer more old new grows l, subst (λ k. row_pages new k ≤ row_pages old k + more) (sym same) grows.here)
  | inr other ↦ grind (arith, nat_tests, held_below-more layer more old new grows l, grows.others l other)
]

pub held-more : (layer more : ℕ) (old new : List PagedRow) → GrowsBy layer more old new → held_pages new ≤ held_pages old + more
unfolding held_pages
held-more layer more old new grows = grind (arith, nat_tests, held_below-more layer more old new grows 33)

held_below-fewer : (old new : List PagedRow) → AreNotMore old new → (top : ℕ) → held_below new top ≤ held_below old top
held_below-fewer old new fewer zero = omega arith
held_below-fewer old new fewer (suc l) = omega (arith, held_below-fewer old new fewer l, fewer l)

-- rows that are trimmed
pub held-fewer : (old new : List PagedRow) → AreNotMore old new → held_pages new ≤ held_pages old
unfolding held_pages
held-fewer old new fewer = held_below-fewer old new fewer 33

pub page_span-some : (from count : ℕ) → count ≢ 0 → page_span from count ≡ (from + count - 1) / 512 + 1 - from / 512
page_span-some from count some = cond-false (eqb count 0) 0 ((from + count - 1) / 512 + 1 - from / 512) (ne_eqb count 0 some)
