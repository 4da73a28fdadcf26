-- Rows of cells, and what contracts see of them.
use Rattle.std.proofs.Common.{◌≡◌, ◌≢◌, ◌⊎◌, inl, inr, ℕ, zero, suc, ◌+◌, ◌-◌, ◌*◌, ◌<◌, ◌≤◌, ◌++◌, Bool, true, false, cond, ◌&&◌, T, List, [], ◌∷◌, map}
use Rattle.std.proofs.Common.{is_some, length, take, drop, get_or, Option, Some, None, IfNone, refl, sym, ap, ap₂, ◌∙◌, subst, arith}
use Rattle.std.specs.Option.{option_map}
use Rattle.std.specs.Ordering.{eq_by_cmp}
use Rattle.std.specs.Cmp.{eq_by_cmp_equiv}
use Rattle.std.specs.FinMap.{FinMap, entries, entries_sorted, get, insert, remove, len, empty, empty_of_len, len-empty, len-remove, get-empty}
use Rattle.std.specs.FinMap.{get-entries, len-entries, entries-from_sorted, get-from_sorted, get-insert, get-remove, same_map}
use Rattle.std.specs.FinMap.Entries.{find, below_all, is_sorted}
use Rattle.std.proofs.lemmas.Bool.{cases_lt}
use Rattle.std.proofs.lemmas.Option.{none-some, same_Some}
use Rattle.std.proofs.lemmas.Map.Views.{tells_apart}
use Rattle.std.proofs.lemmas.List.{drop-take, length-map, length-take-le, length-drop, length-append}
use Rattle.std.proofs.lemmas.Slice.{take-put_mid_below, drop-put_mid, between-put_mid}
use borrow.Rule.Slice.PartMut.{put_mid}
use Rattle.node_maps.specs.Known.{place_cmp}
use Rattle.node_maps.proofs.Known.{place_total, place_exact}
use Rattle.holdings.specs.Cells.{Cells}
use Rattle.holdings.specs.Holdings.{PieceSeen, KeptPieces, seen_at, with_table_piece}
use Rattle.slab.specs.Slab as slab
use Rattle.slab.specs.Slab.{Slab}
use Rattle.fixed_maps.specs.FixedMaps.{FixedMapSeen, map_of}
use Rattle.holdings.specs.Tables.{RowOf, IsRowAt, IsTable, seen_row, seen_rows, seen_table}

-- ---- one row among others

pub row-before : (a b w : ℕ) → a < b → a * w + w ≤ b * w
row-before a zero w lt = absurd (omega (arith, lt))
row-before a (suc b) w lt = by (cases_lt a b) (λ low. row-before a b w low)
  where
    by : (a < b) ⊎ (b ≤ a) → (a < b → a * w + w ≤ b * w) → a * w + w ≤ suc b * w
    by (inl low) rest = let before = rest low in omega (arith, before)
    by (inr high) rest = let same : a ≡ b = omega (arith, lt, high) in subst (λ c. a * w + w ≤ suc c * w) same (omega arith)

-- another row, when a part of one is written
pub other-row : (a k : ℕ) (xs ys : Cells) (s n : ℕ) → a ≤ length xs → length ys ≡ k → (n + s ≤ a) ⊎ (a + k ≤ n)
    → take s (drop n (put_mid a k xs ys)) ≡ take s (drop n xs)
other-row a k xs ys s n low long (inl below) = sym (drop-take n s (put_mid a k xs ys)) ∙ ap (drop n) (take-put_mid_below a k xs ys (n + s) below low)
    ∙ drop-take n s xs
other-row a k xs ys s n low long (inr above) = ap (take s) (drop-put_mid a k xs ys n above low long)

-- ---- what contracts see, by look-ups

first-holds : (a b : Bool) → T (a && b) → T a
first-holds true b p = tt
first-holds false b p = p

second-holds : (a b : Bool) → T (a && b) → T b
second-holds true b p = p
second-holds false b p = absurd p

both-hold : (a b : Bool) → T a → T b → T (a && b)
both-hold true b p q = q
both-hold false b p q = p

module _ (cells : Cells) (newest : List ℕ) (w : ℕ) where
  abbrev pub seen-entry : (ℕ × ℕ) × RowOf → (ℕ × ℕ) × PieceSeen
  seen-entry e = (e.0, seen_row cells newest w e.1)

  found : (q : ℕ × ℕ) (es : List ((ℕ × ℕ) × RowOf)) → find place_cmp q (map seen-entry es) ≡ option_map (seen_row cells newest w) (find place_cmp q es)
  found q [] = refl
  found q (e ∷ es) = elim (eq_by_cmp place_cmp q e.0) as (λ b. cond b (Some (seen_row cells newest w e.1)) (find place_cmp q (map seen-entry es))
      ≡ option_map (seen_row cells newest w) (cond b (Some e.1) (find place_cmp q es))) [ true ↦ refl | false ↦ found q es ]

  below : (x : ℕ × ℕ) (es : List ((ℕ × ℕ) × RowOf)) → T (below_all place_cmp x es) → T (below_all place_cmp x (map seen-entry es))
  below x [] h = tt
  below x (e ∷ es) h = both-hold _ _ (first-holds _ _ h) (below x es (second-holds _ _ h))

  pub in-order : (es : List ((ℕ × ℕ) × RowOf)) → T (is_sorted place_cmp es) → T (is_sorted place_cmp (map seen-entry es))
  in-order [] h = tt
  in-order (e ∷ es) h = both-hold _ _ (below e.0 es (first-holds _ _ h)) (in-order es (second-holds _ _ h))

  pub get-rows : (m : FinMap place_cmp RowOf) (q : ℕ × ℕ) → get (seen_rows cells newest w m) q ≡ option_map (seen_row cells newest w) (get m q)
  get-rows m q = get-from_sorted place_cmp (map seen-entry (entries m)) q (in-order (entries m) (entries_sorted m)) ∙ found q (entries m)
      ∙ ap (option_map (seen_row cells newest w)) (sym (get-entries m q))

  pub row-some : (m : FinMap place_cmp RowOf) (q : ℕ × ℕ) (p : RowOf) → get m q ≡ Some p → get (seen_rows cells newest w m) q ≡ Some (seen_row cells newest w p)
  row-some m q p is = get-rows m q ∙ ap (option_map (seen_row cells newest w)) is

  pub row-none : (m : FinMap place_cmp RowOf) (q : ℕ × ℕ) → get m q ≡ None → get (seen_rows cells newest w m) q ≡ None
  row-none m q is = get-rows m q ∙ ap (option_map (seen_row cells newest w)) is

  -- a piece that is seen has a row
  pub row-of : (m : FinMap place_cmp RowOf) (q : ℕ × ℕ) (x : PieceSeen) (o : Option RowOf) → get m q ≡ o → get (seen_rows cells newest w m) q ≡ Some x
      → (p : RowOf) × (get m q ≡ Some p) × (seen_row cells newest w p ≡ x)
  row-of m q x None is at = absurd (none-some x (sym (row-none m q is) ∙ at))
  row-of m q x (Some p) is at = (p, is, same_Some _ x (sym (row-some m q p is) ∙ at))

  pub absent-row : (m : FinMap place_cmp RowOf) (q : ℕ × ℕ) (o : Option RowOf) → get m q ≡ o → get (seen_rows cells newest w m) q ≡ None → get m q ≡ None
  absent-row m q None is at = is
  absent-row m q (Some p) is at = absurd (none-some _ (sym at ∙ row-some m q p is))

  pub len-rows : (m : FinMap place_cmp RowOf) → len (seen_rows cells newest w m) ≡ len m
  len-rows m = len-entries _ ∙ ap length (entries-from_sorted place_cmp (map seen-entry (entries m)) (in-order (entries m) (entries_sorted m)))
      ∙ length-map (entries m) seen-entry ∙ sym (len-entries m)

  pub row-size : (p : RowOf) → p.1 ≤ w → p.0 * w + w ≤ length cells → length (take p.1 (drop (p.0 * w) cells)) ≡ p.1
  row-size p low inside = length-take-le p.1 (drop (p.0 * w) cells) (let long = length-drop (p.0 * w) cells in omega (arith, long, low, inside))

-- ---- one row is written

module _ (m : FinMap place_cmp RowOf) (cells cells' : Cells) (newest newest' : List ℕ) (w : ℕ) (q : ℕ × ℕ) (p : RowOf) (y : PieceSeen)
    (there : get m q ≡ Some p) (own : seen_row cells' newest' w p ≡ y)
    (others : (r : ℕ × ℕ) (s : RowOf) → get m r ≡ Some s → q ≢ r → seen_row cells' newest' w s ≡ seen_row cells newest w s) where
  turned : (r : ℕ × ℕ) → eq_by_cmp place_cmp q r ≡ eq_by_cmp place_cmp r q
  turned r = (eq_by_cmp_equiv place_total).symm q r

  here : (r : ℕ × ℕ) (b : Bool) (o : Option RowOf) → eq_by_cmp place_cmp r q ≡ b → get m r ≡ o
      → option_map (seen_row cells' newest' w) o ≡ cond b (Some y) (option_map (seen_row cells newest w) o)
  here r true o e is = ap (option_map (seen_row cells' newest' w)) (sym is ∙ ap (get m) (tells_apart place_exact r q e) ∙ there) ∙ ap Some own
  here r false None e is = refl
  here r false (Some s) e is = ap Some (others r s is (λ same. apart-from e same))
    where
      apart-from : eq_by_cmp place_cmp r q ≡ false → q ≡ r → ⊥
      apart-from e same = subst T (sym (subst (λ z. eq_by_cmp place_cmp z q ≡ true) same ((eq_by_cmp_equiv place_total).refl q)) ∙ e) tt

  pub row-written : seen_rows cells' newest' w m ≡ insert (seen_rows cells newest w m) q y
  row-written = same_map place_total place_exact _ _ (λ r.
      get-rows cells' newest' w m r ∙ here r _ (get m r) refl refl
      ∙ ap (λ o. cond (eq_by_cmp place_cmp r q) (Some y) o) (sym (get-rows cells newest w m r))
      ∙ sym (get-insert place_total (seen_rows cells newest w m) q y r))

pub none-if : {A P : Type 0} (o : Option A) → P → IfNone o P
none-if None p = p
none-if (Some a) p = tt

-- the length of a part
pub part-size : (xs : Cells) (a s k : ℕ) → k ≡ s → a + s ≤ length xs → length (take k (drop a xs)) ≡ s
part-size xs a s k is fits = length-take-le k (drop a xs) (let long = length-drop a xs in omega (arith, long, fits, is)) ∙ is

pub mid-size : (a k : ℕ) (xs ys : Cells) → length ys ≡ k → a + k ≤ length xs → length (put_mid a k xs ys) ≡ length xs
mid-size a k xs ys long fits =
    let whole = length-append (take a xs) (ys ++ drop k (drop a xs)) in
    let front = length-take-le a xs (omega (arith, fits)) in
    let rest = length-append ys (drop k (drop a xs)) in
    let back = length-drop k (drop a xs) in
    let after = length-drop a xs in
    omega (arith, whole, front, rest, back, after, long, fits)

-- to put in what is there changes nothing
pub insert-same : (m : FinMap place_cmp PieceSeen) (q : ℕ × ℕ) (x : PieceSeen) → get m q ≡ Some x → insert m q x ≡ m
insert-same m q x at = same_map place_total place_exact _ _ (λ r. get-insert place_total m q x r ∙ by r (eq_by_cmp place_cmp r q) refl)
  where
    by : (r : ℕ × ℕ) (b : Bool) → eq_by_cmp place_cmp r q ≡ b → cond b (Some x) (get m r) ≡ get m r
    by r true e = sym at ∙ ap (get m) (sym (tells_apart place_exact r q e))
    by r false e = refl

module _ (cells : Cells) (newest : List ℕ) (w : ℕ) (m : FinMap place_cmp RowOf) (q : ℕ × ℕ) where
  less : (r : ℕ × ℕ) (b : Bool) → option_map (seen_row cells newest w) (cond b None (get m r)) ≡ cond b None (option_map (seen_row cells newest w) (get m r))
  less r true = refl
  less r false = refl

  -- a row less
  pub row-removed : seen_rows cells newest w (remove m q) ≡ remove (seen_rows cells newest w m) q
  row-removed = same_map place_total place_exact _ _ (λ r.
      get-rows cells newest w (remove m q) r ∙ ap (option_map (seen_row cells newest w)) (get-remove place_total m q r)
      ∙ less r (eq_by_cmp place_cmp r q)
      ∙ ap (λ o. cond (eq_by_cmp place_cmp r q) None o) (sym (get-rows cells newest w m r))
      ∙ sym (get-remove place_total (seen_rows cells newest w m) q r))

  -- a piece that is not there
  pub none-removed : get (seen_rows cells newest w m) q ≡ None → seen_rows cells newest w m ≡ remove (seen_rows cells newest w m) q
  none-removed none = same_map place_total place_exact _ _ (λ r. by r (eq_by_cmp place_cmp r q) refl
      ∙ sym (get-remove place_total (seen_rows cells newest w m) q r))
    where
      by : (r : ℕ × ℕ) (b : Bool) → eq_by_cmp place_cmp r q ≡ b → get (seen_rows cells newest w m) r ≡ cond b None (get (seen_rows cells newest w m) r)
      by r true e = ap (get (seen_rows cells newest w m)) (tells_apart place_exact r q e) ∙ none
      by r false e = refl

  -- what is there still was there, and is another one
  pub left-there : (r : ℕ × ℕ) (s : RowOf) → get (remove m q) r ≡ Some s → (q ≢ r) × (get m r ≡ Some s)
  left-there r s at = by (eq_by_cmp place_cmp r q) refl
    where
      by : (b : Bool) → eq_by_cmp place_cmp r q ≡ b → (q ≢ r) × (get m r ≡ Some s)
      by true e = absurd (none-some s (sym (get-remove place_total m q r ∙ ap (λ b. cond b None (get m r)) e) ∙ at))
      by false e = (
        λ same. subst T (sym (subst (λ z. eq_by_cmp place_cmp z q ≡ true) same ((eq_by_cmp_equiv place_total).refl q)) ∙ e) tt,
        sym (get-remove place_total m q r ∙ ap (λ b. cond b None (get m r)) e) ∙ at,
      )

-- as many less
pub one-less : (m m' : FinMap place_cmp RowOf) (q : ℕ × ℕ) (p : RowOf) → get m q ≡ Some p → m' ≡ remove m q → len m' + 1 ≡ len m
one-less m m' q p at is =
    let fewer : len m' ≡ len m - 1 = ap len is ∙ len-remove place_total m q ∙ ap (λ o. cond (is_some o) (len m - 1) (len m)) at in
    let some : 0 < len m = by (len m) refl in
    omega (arith, fewer, some)
  where
    by : (n : ℕ) → len m ≡ n → 0 < len m
    by zero none = absurd (none-some p (sym (ap (λ k. get k q) (empty_of_len m none) ∙ get-empty place_cmp q) ∙ at))
    by (suc n) is = omega (arith, is)

-- no rows
pub no-rows : (cells : Cells) (newest : List ℕ) (w : ℕ) (m : FinMap place_cmp RowOf) → m ≡ empty → seen_rows cells newest w m ≡ empty
no-rows cells newest w m none = empty_of_len _ (len-rows cells newest w m ∙ ap len none ∙ len-empty place_cmp RowOf)

-- the cells of a row, as a slice of all cells
pub record IsCut (cells xs : Cells) (w : ℕ) (p : RowOf) (start part : ℕ) : Type 0 where
  pub start_is : start ≡ p.0 * w
  pub part_is : part ≡ p.1
  pub cut : take part (drop start xs) ≡ take p.1 (drop (p.0 * w) cells)
  pub long : length (take part (drop start xs)) ≡ p.1
  pub put : (ys : Cells) → length ys ≡ p.1 → length (put_mid start part xs ys) ≡ length xs

pub is-cut : (cells xs : Cells) (w : ℕ) (p : RowOf) (start part : ℕ) → xs ≡ cells → start ≡ p.0 * w → part ≡ p.1 → start + p.1 ≤ length xs
    → IsCut cells xs w p start part
is-cut cells xs w p start part now at is fits = record {
  start_is = at;
  part_is = is;
  cut = ap₂ (λ n (zs : Cells). take n (drop start zs)) is now ∙ ap (λ a. take p.1 (drop a cells)) at;
  long = part-size xs start p.1 part is fits;
  put = λ ys sized. mid-size start part xs ys (sized ∙ sym is) (omega (arith, is, fits));
}

-- ---- in a table

module _ (order : FixedMapSeen) (rows : Slab (ℕ × ℕ)) (cells : Cells) (newest : List ℕ) (w room n k : ℕ) (table : IsTable order rows cells newest w room n k)
    (q : ℕ × ℕ) (p : RowOf) (there : get (map_of order) q ≡ Some p) where
  -- another piece has another row
  pub other-number : (r : ℕ × ℕ) (s : RowOf) → get (map_of order) r ≡ Some s → q ≢ r → s.0 ≢ p.0
  other-number r s at apart same = apart (same_Some q r (sym (table.back q p there) ∙ ap (slab.get rows) (sym same) ∙ table.back r s at))

  aside : (s : RowOf) → s.1 ≤ w → s.0 ≢ p.0 → (s.0 * w + s.1 ≤ p.0 * w) ⊎ (p.0 * w + p.1 ≤ s.0 * w)
  aside s low apart = by (cases_lt s.0 p.0)
    where
      by : (s.0 < p.0) ⊎ (p.0 ≤ s.0) → (s.0 * w + s.1 ≤ p.0 * w) ⊎ (p.0 * w + p.1 ≤ s.0 * w)
      by (inl less) = inl (let before = row-before s.0 p.0 w less in omega (arith, before, low))
      by (inr more) = inr (let before = row-before p.0 s.0 w (omega (arith, more, apart)) in let own = table.low q p there in omega (arith, before, own))

  module _ (ys : Cells) (newest' : List ℕ) (t size : ℕ) (whole : size ≡ p.1) (long : length ys ≡ p.1) (time : get_or newest' p.0 0 ≡ t)
      (others : (i : ℕ) → i ≢ p.0 → get_or newest' i 0 ≡ get_or newest i 0) where
    abbrev written : Cells
    written = put_mid (p.0 * w) size cells ys

    start-inside : p.0 * w ≤ length cells
    start-inside = let inside = table.inside q p there in omega (arith, inside)

    own-cells : take p.1 (drop (p.0 * w) written) ≡ ys
    own-cells = ap (λ i. take i (drop (p.0 * w) written)) (let here : p.1 ≡ (p.0 * w + p.1) - p.0 * w = omega arith in here)
        ∙ between-put_mid (p.0 * w) size cells ys (p.0 * w + p.1) start-inside (long ∙ omega arith)

    other-cells : (r : ℕ × ℕ) (s : RowOf) → get (map_of order) r ≡ Some s → q ≢ r → seen_row written newest' w s ≡ seen_row cells newest w s
    other-cells r s at apart =
        let number = other-number r s at apart in
        let low = table.low r s at in
        ap₂ (λ (cs : Cells) i. record { cells = cs; newest = i })
        (other-row (p.0 * w) size cells ys s.1 (s.0 * w) start-inside (long ∙ sym whole)
        (subst (λ i. (s.0 * w + s.1 ≤ p.0 * w) ⊎ (p.0 * w + i ≤ s.0 * w)) (sym whole) (aside s low number))) (others s.0 number)

    pub table-written : seen_rows written newest' w (map_of order) ≡ insert (seen_rows cells newest w (map_of order)) q (record { cells = ys; newest = t })
    table-written = row-written (map_of order) cells written newest newest' w q p (record { cells = ys; newest = t }) there
        (ap₂ (λ (cs : Cells) i. record { cells = cs; newest = i }) own-cells time) other-cells

    -- what is seen after it
    pub table-after : (xs zs : Cells) (start : ℕ) → IsCut cells xs w p start size → xs ≡ cells → zs ≡ put_mid start size xs ys → (v : KeptPieces)
        → seen_table order room cells newest w ≡ v → seen_table order room zs newest' w ≡ with_table_piece v q (record { cells = ys; newest = t })
    table-after xs zs start c now is v was =
        let pieces : seen_rows zs newest' w (map_of order) ≡ insert (seen_rows cells newest w (map_of order)) q (record { cells = ys; newest = t }) =
        ap (λ cs. seen_rows cs newest' w (map_of order)) (is ∙ ap₂ (λ a us. put_mid a size us ys) c.start_is now) ∙ table-written in
        subst (λ (k : KeptPieces). seen_table order room zs newest' w ≡ with_table_piece k q (record { cells = ys; newest = t })) was
        (λ i. record { pieces = pieces i; room = room; width = w })

-- ---- a row that was found

module _ (order : FixedMapSeen) (cells : Cells) (newest : List ℕ) (w room : ℕ) (v : KeptPieces) (is : seen_table order room cells newest w ≡ v)
    (q : ℕ × ℕ) where
  -- the piece is not there
  pub none-there : get (map_of order) q ≡ None → seen_at v q ≡ None
  none-there none = subst (λ (k : KeptPieces). seen_at k q ≡ None) is (row-none cells newest w (map_of order) q none)

  module _ (len row start end : ℕ) (at : IsRowAt (map_of order) w len q row start end) (whole : len ≤ length cells) where
    pub row-there : seen_at v q ≡ Some (seen_row cells newest w (row, at.size))
    row-there = subst (λ (k : KeptPieces). seen_at k q ≡ Some (seen_row cells newest w (row, at.size))) is
        (row-some cells newest w (map_of order) q (row, at.size) at.there)

    pub row-long : length (take at.size (drop (row * w) cells)) ≡ at.size
    row-long = row-size cells newest w (row, at.size) at.low (omega (arith, at.start_is, at.inside, whole))

    -- it is the piece's
    pub row-same : (x : PieceSeen) → seen_at v q ≡ Some x → at.size ≡ length x.cells
    row-same x there = sym row-long ∙ ap (λ (y : PieceSeen). length y.cells) (same_Some _ x (sym row-there ∙ there))

    pub row-cut : (xs : Cells) → xs ≡ cells → IsCut cells xs w (row, at.size) start (end - start)
    row-cut xs now = is-cut cells xs w (row, at.size) start (end - start) now at.start_is (omega (arith, at.end_is))
        (let same = ap length now in omega (arith, same, at.low, at.inside, whole))
