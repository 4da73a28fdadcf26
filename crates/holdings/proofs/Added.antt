-- A piece that is added to a table.
use Rattle.std.proofs.Common.{◌≡◌, ◌≢◌, ◌⊎◌, inl, inr, ℕ, suc, ◌+◌, ◌-◌, ◌*◌, ◌<◌, ◌≤◌, ◌++◌, Bool, true, false, cond, List, length, take, drop, get_or}
use Rattle.std.proofs.Common.{Option, Some, None, refl, sym, ap, ap₂, ◌∙◌, subst, T, arith}
use Rattle.std.specs.Option.{option_map}
use Rattle.std.specs.Ordering.{eq_by_cmp}
use Rattle.std.specs.Cmp.{eq_by_cmp_equiv}
use Rattle.std.specs.FinMap.{FinMap, get, insert, get-insert, same_map}
use Rattle.std.proofs.lemmas.Bool.{cases_lt}
use Rattle.std.proofs.lemmas.Option.{none-some, same_Some}
use Rattle.std.proofs.lemmas.Map.Views.{tells_apart}
use Rattle.std.proofs.lemmas.List.{drop-append-le, take-append-le, length-append, length-drop, get_or_append_left}
use Rattle.std.proofs.lemmas.Slice.{between-put_mid}
use borrow.Rule.Slice.PartMut.{put_mid}
use Rattle.node_maps.specs.Known.{place_cmp}
use Rattle.node_maps.proofs.Known.{place_total, place_exact}
use Rattle.slab.specs.Slab as slab
use Rattle.slab.specs.Slab.{Slab}
use Rattle.fixed_maps.specs.FixedMaps.{FixedMapSeen, map_of}
use Rattle.holdings.specs.Cells.{Cells}
use Rattle.holdings.specs.Holdings.{PieceSeen}
use Rattle.holdings.specs.Tables.{RowOf, IsTable, seen_row, seen_rows}
use Rattle.holdings.proofs.Rows.{row-before, other-row, get-rows}

-- a key that is put in, or was there
pub put-cases : (m : FinMap place_cmp RowOf) (q : ℕ × ℕ) (p : RowOf) (r : ℕ × ℕ) (s : RowOf) → get (insert m q p) r ≡ Some s
    → ((q ≡ r) × (p ≡ s)) ⊎ (get m r ≡ Some s)
put-cases m q p r s at = by (eq_by_cmp place_cmp r q) refl
  where
    by : (b : Bool) → eq_by_cmp place_cmp r q ≡ b → ((q ≡ r) × (p ≡ s)) ⊎ (get m r ≡ Some s)
    by true e = inl (
      sym (tells_apart place_exact r q e),
      same_Some p s (sym (get-insert place_total m q p r ∙ ap (λ b. cond b (Some p) (get m r)) e) ∙ at),
    )
    by false e = inr (sym (get-insert place_total m q p r ∙ ap (λ b. cond b (Some p) (get m r)) e) ∙ at)

module _ (order : FixedMapSeen) (rows : Slab (ℕ × ℕ)) (cells : Cells) (newest : List ℕ) (w room n k : ℕ) (table : IsTable order rows cells newest w room n k)
    (q : ℕ × ℕ) (p : RowOf) (vacant : slab.get rows p.0 ≡ None) (low : p.1 ≤ w) (more : Cells) (times : List ℕ)
    (wide : p.0 * w + w ≤ length (cells ++ more)) (ys : Cells) (newest' : List ℕ) (t size : ℕ) (whole : size ≡ p.1) (long : length ys ≡ p.1)
    (time : get_or newest' p.0 0 ≡ t) (others : (i : ℕ) → i ≢ p.0 → get_or newest' i 0 ≡ get_or (newest ++ times) i 0) where
  abbrev grown : Cells
  grown = cells ++ more

  abbrev written : Cells
  written = put_mid (p.0 * w) size grown ys

  new-number : (r : ℕ × ℕ) (s : RowOf) → get (map_of order) r ≡ Some s → s.0 ≢ p.0
  new-number r s at same = none-some r (sym vacant ∙ ap (slab.get rows) (sym same) ∙ table.back r s at)

  aside : (s : RowOf) → s.1 ≤ w → s.0 ≢ p.0 → (s.0 * w + s.1 ≤ p.0 * w) ⊎ (p.0 * w + size ≤ s.0 * w)
  aside s below apart = by (cases_lt s.0 p.0)
    where
      by : (s.0 < p.0) ⊎ (p.0 ≤ s.0) → (s.0 * w + s.1 ≤ p.0 * w) ⊎ (p.0 * w + size ≤ s.0 * w)
      by (inl less) = inl (let before = row-before s.0 p.0 w less in omega (arith, before, below))
      by (inr over) = inr (let before = row-before p.0 s.0 w (omega (arith, over, apart)) in omega (arith, before, low, whole))

  start-inside : p.0 * w ≤ length grown
  start-inside = omega (arith, wide)

  own-row : seen_row written newest' w p ≡ record { cells = ys; newest = t }
  own-row = ap₂ (λ (cs : Cells) i. record { cells = cs; newest = i })
      (ap (λ i. take i (drop (p.0 * w) written)) (let here : p.1 ≡ (p.0 * w + p.1) - p.0 * w = omega arith in here)
      ∙ between-put_mid (p.0 * w) size grown ys (p.0 * w + p.1) start-inside (long ∙ omega arith)) time

  -- what was there before
  old-row : (r : ℕ × ℕ) (s : RowOf) → get (map_of order) r ≡ Some s → seen_row written newest' w s ≡ seen_row cells newest w s
  old-row r s at =
      let number = new-number r s at in
      let below = table.low r s at in
      let inside = table.inside r s at in
      ap₂ (λ (cs : Cells) i. record { cells = cs; newest = i })
      (other-row (p.0 * w) size grown ys s.1 (s.0 * w) start-inside (long ∙ sym whole) (aside s below number)
      ∙ ap (take s.1) (drop-append-le (s.0 * w) cells more (omega (arith, inside)))
      ∙ take-append-le s.1 (drop (s.0 * w) cells) more (let rest = length-drop (s.0 * w) cells in omega (arith, rest, inside, below)))
      (others s.0 number ∙ get_or_append_left newest times 0 s.0 (table.timed r s at))

  seen : (r : ℕ × ℕ) (b : Bool) (o : Option RowOf) → get (map_of order) r ≡ o
      → option_map (seen_row written newest' w) (cond b (Some p) o) ≡ cond b (Some (record { cells = ys; newest = t })) (option_map (seen_row cells newest w) o)
  seen r true o is = ap Some own-row
  seen r false None is = refl
  seen r false (Some s) is = ap Some (old-row r s is)

  pub table-added : seen_rows written newest' w (insert (map_of order) q p)
      ≡ insert (seen_rows cells newest w (map_of order)) q (record { cells = ys; newest = t })
  table-added = same_map place_total place_exact _ _ (λ r.
      get-rows written newest' w (insert (map_of order) q p) r
      ∙ ap (option_map (seen_row written newest' w)) (get-insert place_total (map_of order) q p r)
      ∙ seen r (eq_by_cmp place_cmp r q) (get (map_of order) r) refl
      ∙ ap (λ o. cond (eq_by_cmp place_cmp r q) (Some (record { cells = ys; newest = t })) o) (sym (get-rows cells newest w (map_of order) r))
      ∙ sym (get-insert place_total (seen_rows cells newest w (map_of order)) q _ r))
