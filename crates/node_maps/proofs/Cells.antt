-- Rows of cells and lists of marks, when they grow and when one is written.
use Rattle.std.proofs.Common.{◌≡◌, ◌≢◌, ◌⊎◌, ℕ, zero, suc, ◌+◌, ◌-◌, ◌^◌, ◌<◌, ◌≤◌, Bool, true, false, cond, ltb, ◌&&◌, ◌||◌, List, [], ◌++◌, length, map}
use Rattle.std.proofs.Common.{get_or, take, replicate, set, Option, Some, None, inl, inr, refl, sym, ap, ap₂, ◌∙◌, subst, arith}
use Rattle.std.specs.Prelude.{slice_get}
use Rattle.std.specs.Option.{option_and_then, option_map, unwrap_or}
use Rattle.std.specs.List.{range_with_len}
use Rattle.std.proofs.lemmas.List.FromFn.{get_or-map-range_with_len}
use Rattle.std.specs.FinMap.{empty, get-empty}
use Rattle.std.specs.FinSet as set
use Rattle.std.specs.FinSet.{same_set, contains-insert, contains-empty, nat_cmp-IsAntisymmetric}
use Rattle.std.specs.Ordering.{nat_cmp, eq_by_cmp}
use Rattle.std.specs.Cmp.{nat_cmp_total}
use Rattle.std.proofs.lemmas.Bool.{cases_lt, cases_eq, and_left, or_left, eq-eqb, ne_eqb, lt-ltb, le-ltb}
use Rattle.std.proofs.lemmas.Option.{slice_get_past, none-some}
use Rattle.std.proofs.lemmas.List.{get_or_append_left, get_or-append_right, get_or-replicate, get_or_past, length-replicate, take_all, get_or-set_same}
use Rattle.std.proofs.lemmas.List.{get_or-set_other}
use Rattle.node_maps.specs.Digest.{Hash}
use Rattle.node_maps.specs.Places.{IsTreePlace}
use Rattle.node_maps.specs.Known.{Marked, place_cmp, look, within, tabulate}
use Rattle.node_maps.specs.Flat.{FlatRow, cells, row_cells, HasCell, HasTreeCells, marks_below, marked_leaves}
use Rattle.node_maps.specs.Pages.{marks_where}
use Rattle.node_maps.proofs.Known.{nat_equal, same_known, look-within, within-at}

-- ---- rows

-- a hash stands in a cell
pub cell_there : (rows : List FlatRow) (l i : ℕ) (v : Hash) → cells rows l i ≡ Some v → HasCell rows l i
cell_there rows l i v e = row_there (slice_get rows l) e
  where
    row_there : (o : Option FlatRow) → option_and_then (λ (row : FlatRow). option_and_then (λ (o : Option Hash). o) (slice_get row.items i)) o ≡ Some v
        → i < unwrap_or (option_map (λ (row : FlatRow). length row.items) o) 0
    row_there None e = absurd (none-some v e)
    row_there (Some row) e = elim (cases_lt i (length row.items)) [
      | inl low ↦ low
      | inr past ↦ absurd (none-some v (sym (ap (option_and_then (λ (o : Option Hash). o)) (slice_get_past row.items i past)) ∙ e))
    ]

-- what is known of cells that are all in the tree is what they hold
pub look-cells : (h : ℕ) (rows : List FlatRow) → HasTreeCells h rows → (l i : ℕ) → look (tabulate h (within h (cells rows))) l i ≡ cells rows l i
look-cells h rows in_tree l i = look-within h (cells rows) l i ∙ by_cell (cells rows l i) refl
  where
    none_within : cells rows l i ≡ None → (b : Bool) → cond b (cells rows l i) None ≡ cells rows l i
    none_within e true = refl
    none_within e false = sym e

    by_cell : (o : Option Hash) → cells rows l i ≡ o → within h (cells rows) l i ≡ cells rows l i
    by_cell None e = none_within e _
    by_cell (Some v) e = within-at h (cells rows) l i (in_tree.place l i (cell_there rows l i v e))

-- rows that are as long as before have cells of the tree alone
pub same_lengths-in_tree : (h : ℕ) (old new : List FlatRow) → HasTreeCells h old → ((l : ℕ) → row_cells new l ≡ row_cells old l) → HasTreeCells h new
same_lengths-in_tree h old new in_tree same = record { place = λ l i low. in_tree.place l i (subst (λ n. i < n) (same l) low) }

-- a row that is made as long as `end` at most has cells of the tree alone
pub lengthened-in_tree : (h layer end : ℕ) (old new : List FlatRow) → HasTreeCells h old → ((l : ℕ) → l ≢ layer → row_cells new l ≡ row_cells old l)
    → (row_cells new layer ≤ end) ⊎ (row_cells new layer ≡ row_cells old layer) → layer ≤ h → end ≤ 2 ^ (h - layer) → HasTreeCells h new
lengthened-in_tree h layer end old new in_tree others most le fits = record { place = λ l i low. by_layer l i low (cases_eq l layer) most }
  where
    by_layer : (l i : ℕ) → i < row_cells new l → (l ≡ layer) ⊎ (l ≢ layer) → (row_cells new layer ≤ end) ⊎ (row_cells new layer ≡ row_cells old layer)
        → IsTreePlace h l i
    by_layer l i low (inr other) m = in_tree.place l i (subst (λ n. i < n) (others l other) low)
    by_layer l i low (inl same) (inr as_before) = in_tree.place l i (subst (λ n. i < n) (ap (row_cells new) same ∙ as_before ∙ sym (ap (row_cells old) same))
        low)
    by_layer l i low (inl same) (inl short) =
        let low' : i < row_cells new layer = subst (λ k. i < row_cells new k) same low in
        subst (λ k. IsTreePlace h k i) (sym same) (le, omega arith)

-- and where it is the leaves' row each of its cells has a mark
pub lengthened-marks : (layer end marks : ℕ) (old new : List FlatRow) → row_cells old 0 ≤ marks → ((l : ℕ) → l ≢ layer → row_cells new l ≡ row_cells old l)
    → (row_cells new layer ≤ end) ⊎ (row_cells new layer ≡ row_cells old layer) → (layer ≡ 0 → end ≤ marks) → row_cells new 0 ≤ marks
lengthened-marks layer end marks old new enough others most more = by_layer (cases_eq 0 layer) most
  where
    by_layer : (0 ≡ layer) ⊎ (0 ≢ layer) → (row_cells new layer ≤ end) ⊎ (row_cells new layer ≡ row_cells old layer) → row_cells new 0 ≤ marks
    by_layer (inr other) m = subst (λ n. n ≤ marks) (sym (others 0 other)) enough
    by_layer (inl same) (inr as_before) = subst (λ n. n ≤ marks) (ap (row_cells old) same ∙ sym as_before ∙ sym (ap (row_cells new) same)) enough
    by_layer (inl same) (inl short) =
        let bound : end ≤ marks = more (sym same) in
        let here : row_cells new 0 ≡ row_cells new layer = ap (row_cells new) same in
        omega arith

-- no rows have no cells
pub no_cells : (h : ℕ) (rows : List FlatRow) → rows ≡ [] → tabulate h (within h (cells rows)) ≡ empty
no_cells h rows none = same_known (tabulate h (within h (cells rows))) empty (λ l i. look-within h (cells rows) l i ∙ nothing l i _
    ∙ sym (get-empty place_cmp (l, i)))
  where
    nothing : (l i : ℕ) (b : Bool) → cond b (cells rows l i) None ≡ None
    nothing l i true = ap (λ rs. cells rs l i) none
    nothing l i false = refl

-- ---- marks

pub no_marks : (marks : List Bool) → marks ≡ [] → marked_leaves marks ≡ set.empty
unfolding marks_below
no_marks marks none = ap marked_leaves none

-- a number is among those below n for which f holds
contains-marks_where : (f : ℕ → Bool) (n i : ℕ) → set.contains (marks_where f n) i ≡ (ltb i n && f i)
unfolding marks_where
contains-marks_where f zero i = contains-empty nat_cmp i ∙ sym (and_left (ltb i 0) (f i) (le-ltb i 0 (omega arith)))
contains-marks_where f (suc n) i = by_mark (contains-marks_where f n i) (f n) refl (cases_eq i n)
  where
    below : i ≢ n → (ltb i n && f i) ≡ (ltb i (suc n) && f i)
    below other = ap (λ b. b && f i) (elim (cases_lt i n) [
      | inl low ↦ lt-ltb i n low ∙ sym (lt-ltb i (suc n) (omega arith))
      | inr high ↦ le-ltb i n high ∙ sym (le-ltb i (suc n) (omega arith))
    ])

    here : i ≡ n → (ltb i (suc n) && f i) ≡ f n
    here same = ap (λ b. b && f i) (lt-ltb i (suc n) (omega arith)) ∙ ap f same

    by_mark : set.contains (marks_where f n) i ≡ (ltb i n && f i) → (b : Bool) → f n ≡ b → (i ≡ n) ⊎ (i ≢ n)
        → set.contains (cond b (set.insert (marks_where f n) n) (marks_where f n)) i ≡ (ltb i (suc n) && f i)
    by_mark before true e (inl same) = contains-insert nat_cmp_total (marks_where f n) n i
        ∙ or_left (eq_by_cmp nat_cmp i n) (set.contains (marks_where f n) i) (nat_equal i n ∙ eq-eqb i n same) ∙ sym (here same ∙ e)
    by_mark before true e (inr other) = contains-insert nat_cmp_total (marks_where f n) n i
        ∙ ap (λ b. b || set.contains (marks_where f n) i) (nat_equal i n ∙ ne_eqb i n other)
        ∙ before ∙ below other
    by_mark before false e (inl same) = before
        ∙ and_left (ltb i n) (f i) (le-ltb i n (omega arith)) ∙ sym (here same ∙ e)
    by_mark before false e (inr other) = before ∙ below other

-- and where those for which f holds are all below n, it is among them where f holds
pub contains-marks_of : (f : ℕ → Bool) (n i : ℕ) → (f i ≡ true → i < n) → set.contains (marks_where f n) i ≡ f i
contains-marks_of f n i low = contains-marks_where f n i ∙ by_test (f i) refl
  where
    and_no : (t : Bool) → (t && false) ≡ false
    and_no true = refl
    and_no false = refl

    by_test : (b : Bool) → f i ≡ b → (ltb i n && b) ≡ b
    by_test true e = ap (λ t. t && true) (lt-ltb i n (low e))
    by_test false e = and_no (ltb i n)

marks_below-where : (marks : List Bool) (n : ℕ) → marks_below marks n ≡ marks_where (λ i. get_or marks i false) n
unfolding marks_below marks_where
marks_below-where marks zero = refl
marks_below-where marks (suc n) = ap (λ s. cond (get_or marks n false) (set.insert s n) s) (marks_below-where marks n)

contains-marks_below : (marks : List Bool) (n i : ℕ) → set.contains (marks_below marks n) i ≡ (ltb i n && get_or marks i false)
contains-marks_below marks n i = ap (λ s. set.contains s i) (marks_below-where marks n) ∙ contains-marks_where (λ j. get_or marks j false) n i

-- a number is among the marked leaves where its mark is set
pub contains-marked : (marks : List Bool) (i : ℕ) → set.contains (marked_leaves marks) i ≡ get_or marks i false
contains-marked marks i = contains-marks_below marks (length marks) i ∙ elim (cases_lt i (length marks)) [
  | inl low ↦ ap (λ b. b && get_or marks i false) (lt-ltb i (length marks) low)
  | inr past ↦ and_left (ltb i (length marks)) (get_or marks i false) (le-ltb i (length marks) past) ∙ sym (get_or_past marks i false past)
]

-- marks that read alike are of the same leaves
pub marked-same : (old new : List Bool) → ((i : ℕ) → get_or new i false ≡ get_or old i false) → marked_leaves new ≡ marked_leaves old
marked-same old new same = same_set nat_cmp_total nat_cmp-IsAntisymmetric (marked_leaves new) (marked_leaves old)
    (λ i. contains-marked new i ∙ same i ∙ sym (contains-marked old i))

-- marks that are added are not set
pub marked-longer : (old new : List Bool) (n k : ℕ) → k ≡ length old → k ≤ n → new ≡ take n old ++ replicate (n - k) false
    → marked_leaves new ≡ marked_leaves old
marked-longer old new n k len le is = marked-same old new (λ i. ap (λ xs. get_or xs i false) (is
    ∙ ap₂ (λ xs m. xs ++ replicate (n - m) false) (take_all n old (omega arith)) len) ∙ read i (cases_lt i (length old)))
  where
    unset : (k i : ℕ) → get_or (replicate k false) i false ≡ false
    unset k i = elim (cases_lt i k) [
      | inl low ↦ get_or-replicate k i false false low
      | inr past ↦ get_or_past (replicate k false) i false (subst (λ m. m ≤ i) (sym (length-replicate k false)) past)
    ]

    read : (i : ℕ) → (i < length old) ⊎ (length old ≤ i) → get_or (old ++ replicate (n - length old) false) i false ≡ get_or old i false
    read i (inl low) = get_or_append_left old (replicate (n - length old) false) false i low
    read i (inr past) = get_or-append_right old (replicate (n - length old) false) (length old) i false refl past
        ∙ unset (n - length old) (i - length old) ∙ sym (get_or_past old i false past)

-- a mark that is set is one more marked leaf
pub marked-set : (marks : List Bool) (n : ℕ) → n < length marks → marked_leaves (set marks n true) ≡ set.insert (marked_leaves marks) n
marked-set marks n in' = same_set nat_cmp_total nat_cmp-IsAntisymmetric (marked_leaves (set marks n true)) (set.insert (marked_leaves marks) n)
    (λ i. contains-marked (set marks n true) i ∙ read i (cases_eq i n) ∙ sym (contains-insert nat_cmp_total (marked_leaves marks) n i))
  where
    read : (i : ℕ) → (i ≡ n) ⊎ (i ≢ n) → get_or (set marks n true) i false ≡ (eq_by_cmp nat_cmp i n || set.contains (marked_leaves marks) i)
    read i (inl same) = ap (λ k. get_or (set marks n true) k false) same ∙ get_or-set_same marks n true false in'
        ∙ sym (or_left (eq_by_cmp nat_cmp i n) (set.contains (marked_leaves marks) i) (nat_equal i n ∙ eq-eqb i n same))
    read i (inr other) = get_or-set_other marks n i true false other ∙ sym (contains-marked marks i)
        ∙ sym (ap (λ b. b || set.contains (marked_leaves marks) i) (nat_equal i n ∙ ne_eqb i n other))

-- ---- how many leaves can be marked

len-marks_below : (marks : List Bool) (n : ℕ) → set.len (marks_below marks n) ≤ n
unfolding marks_below
len-marks_below marks zero = let none : set.len (set.empty {R = nat_cmp}) ≡ 0 = set.len-empty nat_cmp in omega arith
len-marks_below marks (suc n) = by_mark (get_or marks n false) (len-marks_below marks n)
  where
    one_more : (t : Bool) (m k : ℕ) → k ≡ cond t m (m + 1) → m ≤ n → k ≤ suc n
    one_more true m k e le = omega arith
    one_more false m k e le = omega arith

    by_mark : (b : Bool) → set.len (marks_below marks n) ≤ n → set.len (cond b (set.insert (marks_below marks n) n) (marks_below marks n)) ≤ suc n
    by_mark true le = one_more (set.contains (marks_below marks n) n) (set.len (marks_below marks n)) _ (set.len-insert nat_cmp_total (marks_below marks n) n)
        le
    by_mark false le = omega arith

pub len-marked : (n : ℕ) (M : Marked) → ((i : ℕ) → set.contains M i ≡ true → i < n) → set.len M ≤ n
len-marked n M bound = subst (λ s. set.len s ≤ n) (sym same) (len-marks_below (map (λ i. set.contains M i) (range_with_len 0 n)) n)
  where
    read : (i : ℕ) → set.contains M i ≡ (ltb i n && get_or (map (λ i. set.contains M i) (range_with_len 0 n)) i false)
    read i = elim (cases_lt i n) [
      | inl low ↦ sym (ap (λ b. b && get_or (map (λ i. set.contains M i) (range_with_len 0 n)) i false) (lt-ltb i n low)
          ∙ get_or-map-range_with_len (λ i. set.contains M i) 0 n i i false low (omega arith))
      | inr past ↦ out (set.contains M i) refl past ∙ sym (and_left (ltb i n) _ (le-ltb i n past))
    ]
      where
        out : (b : Bool) → set.contains M i ≡ b → n ≤ i → set.contains M i ≡ false
        out true e past = absurd (let low : i < n = bound i e in omega arith)
        out false e past = e

    same : M ≡ marks_below (map (λ i. set.contains M i) (range_with_len 0 n)) n
    same = same_set nat_cmp_total nat_cmp-IsAntisymmetric M _ (λ i. read i ∙ sym (contains-marks_below (map (λ i. set.contains M i) (range_with_len 0 n)) n i))
