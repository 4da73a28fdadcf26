-- The pages of trimmed rows are those that have a known place.
use Rattle.std.proofs.Common.{◌≡◌, ◌⊎◌, ℕ, zero, suc, ◌+◌, ◌*◌, ◌/◌, ◌%◌, ◌^◌, ◌<◌, Bool, true, false, cond, eqb, ◌&&◌, ◌||◌, List, [], ◌∷◌, length, get_or}
use Rattle.std.proofs.Common.{Option, Some, None, IsSome, is_some, inl, inr, refl, sym, ap, ap₂, ◌∙◌, subst, arith}
use Rattle.std.specs.Prelude.{slice_get}
use Rattle.std.specs.Option.{option_and_then, option_map, unwrap_or}
use Rattle.std.specs.List.{list_any}
use Rattle.std.specs.FinMap as map
use Rattle.std.specs.FinSet as set
use Rattle.std.specs.FinSet.{same_set, nat_cmp-IsAntisymmetric}
use Rattle.std.specs.Ordering.{nat_cmp, eq_by_cmp}
use Rattle.std.specs.Cmp.{nat_cmp_total}
use Rattle.std.proofs.lemmas.Bool.{cases_eq, eq-eqb, ne_eqb, false≢true, and_parts}
use Rattle.std.proofs.lemmas.Bool.Decides.{nat_tests}
use Rattle.node_maps.specs.declared.paged_row.PagedRow.{PagedRow}
use Rattle.node_maps.specs.declared.page.Cell.{Cell}
use Rattle.node_maps.specs.declared.page.Cell.TheVariants.{Empty, Known, Marked}
use Rattle.node_maps.specs.Cell.{hash_of, is_blank}
use Rattle.node_maps.specs.Known.{Known as Content, place_cmp, look, within, tabulate}
use Rattle.node_maps.specs.Held.{numbers_on, pages_on, pages_below, page_count}
use Rattle.node_maps.specs.declared.page.Page.{Page}
use Rattle.node_maps.specs.Pages.{Numbered, marks_where, cell_of, cell_in, is_among, is_spare, AreSpare, AreCounted}
use Rattle.node_maps.specs.PagedRow.{pages_of}
use Rattle.node_maps.proofs.Numbers.{counted-none, counted-are}
use Rattle.node_maps.specs.Paged.{hashes, HoldsTree, row_pages, held_below, held_pages, AreTrimmed}
use Rattle.node_maps.proofs.Known.{nat_equal, same_place}
use Rattle.node_maps.proofs.Pages.{or_right}
use Rattle.node_maps.proofs.Paging.{look-hashes}

both_ways : (a b : Bool) → (a ≡ true → b ≡ true) → (b ≡ true → a ≡ true) → a ≡ b
both_ways true b f g = sym (f refl)
both_ways false true f g = g refl
both_ways false false f g = refl

eqb-turned : (a b : ℕ) → eqb a b ≡ eqb b a
eqb-turned a b = grind (arith, nat_tests)

contains-among : (xs : List ℕ) (q : ℕ) → set.contains (set.from_list {R = nat_cmp} xs) q ≡ is_among q xs
contains-among [] q = set.contains-empty nat_cmp q
contains-among (x ∷ xs) q = set.contains-insert nat_cmp_total (set.from_list xs) x q ∙ ap₂ ◌||◌ (nat_equal q x ∙ eqb-turned q x) (contains-among xs q)

-- ---- places and the numbers of their pages

or_cases : (a b : Bool) → (a || b) ≡ true → (a ≡ true) ⊎ (b ≡ true)
or_cases true b e = inl refl
or_cases false b e = inr e

or_first : (a b : Bool) → a ≡ true → (a || b) ≡ true
or_first true b e = refl
or_first false b e = absurd (false≢true e)

same_numbers : (a b : ℕ) → eqb a b ≡ true → a ≡ b
same_numbers a b e = elim (cases_eq a b) [ inl same ↦ same | inr other ↦ absurd (false≢true (sym (ne_eqb a b other) ∙ e)) ]

place_there : (l i : ℕ) (places : List (ℕ × ℕ)) → Bool
place_there l i places = list_any (eq_by_cmp place_cmp (l, i)) places

-- a page number comes from a place
number-place : (l q : ℕ) (places : List (ℕ × ℕ)) → is_among q (numbers_on l places) ≡ true → (i : ℕ) × (i / 512 ≡ q) × (place_there l i places ≡ true)
unfolding place_there
number-place l q [] e = absurd (false≢true e)
number-place l q (place ∷ places) e = by_layer (number-place l q places) (eqb place.0 l) refl e
  where
    later : ((i : ℕ) × (i / 512 ≡ q) × (place_there l i places ≡ true)) → (i : ℕ) × (i / 512 ≡ q) × (place_there l i (place ∷ places) ≡ true)
    later (i, is, there) = (i, is, or_right (eq_by_cmp place_cmp (l, i) place) (list_any (eq_by_cmp place_cmp (l, i)) places) there)

    by_layer : (is_among q (numbers_on l places) ≡ true → (i : ℕ) × (i / 512 ≡ q) × (place_there l i places ≡ true)) → (b : Bool) → eqb place.0 l ≡ b
        → is_among q (cond b (place.1 / 512 ∷ numbers_on l places) (numbers_on l places)) ≡ true
        → (i : ℕ) × (i / 512 ≡ q) × (place_there l i (place ∷ places) ≡ true)
    by_layer rest false is e = later (rest e)
    by_layer rest true is e = elim (or_cases (eqb (place.1 / 512) q) (is_among q (numbers_on l places)) e) [
      | inl here ↦ (
        place.1,
        same_numbers (place.1 / 512) q here,
        or_first (eq_by_cmp place_cmp (l, place.1) place) (list_any (eq_by_cmp place_cmp (l, place.1)) places) (same_place place.0 place.1 l place.1
            ∙ ap₂ ◌&&◌ (eqb-turned l place.0 ∙ is) (eq-eqb place.1 place.1 refl)),
      )
      | inr more ↦ later (rest more)
    ]

-- a place gives a page number
place-number : (l i : ℕ) (places : List (ℕ × ℕ)) → place_there l i places ≡ true → is_among (i / 512) (numbers_on l places) ≡ true
unfolding place_there
place-number l i [] e = absurd (false≢true e)
place-number l i (place ∷ places) e = by_layer (place-number l i places) (eqb place.0 l) refl
    (or_cases (eq_by_cmp place_cmp (l, i) place) (list_any (eq_by_cmp place_cmp (l, i)) places) e)
  where
    by_layer : (place_there l i places ≡ true → is_among (i / 512) (numbers_on l places) ≡ true) → (b : Bool) → eqb place.0 l ≡ b
        → (eq_by_cmp place_cmp (l, i) place ≡ true) ⊎ (list_any (eq_by_cmp place_cmp (l, i)) places ≡ true)
        → is_among (i / 512) (cond b (place.1 / 512 ∷ numbers_on l places) (numbers_on l places)) ≡ true
    by_layer rest true is (inl here) =
        let parts = and_parts (eqb l place.0) (eqb i place.1) (sym (same_place place.0 place.1 l i) ∙ here) in
        or_first (eqb (place.1 / 512) (i / 512)) (is_among (i / 512) (numbers_on l places))
        (eq-eqb (place.1 / 512) (i / 512) (ap (λ k. k / 512) (sym (same_numbers i place.1 parts.1))))
    by_layer rest true is (inr more) = or_right (eqb (place.1 / 512) (i / 512)) (is_among (i / 512) (numbers_on l places)) (rest more)
    by_layer rest false is (inl here) =
        let parts = and_parts (eqb l place.0) (eqb i place.1) (sym (same_place place.0 place.1 l i) ∙ here) in
        absurd (false≢true (sym is ∙ eqb-turned place.0 l ∙ parts.0))
    by_layer rest false is (inr more) = rest more

known-there : (K : Content) (l i : ℕ) → is_some (look K l i) ≡ place_there l i (map.keys K)
unfolding place_there
known-there K l i = map.contains_key-keys K (l, i)

-- ---- one row

-- a page that is not blank holds a hash
holds-hash : (cs : List Cell) → is_blank cs ≡ false → (o : ℕ) × (o < length cs) × (IsSome (hash_of (get_or cs o Empty)))
holds-hash [] e = absurd (false≢true (sym e))
holds-hash (Empty ∷ cs) e = let (o, low, some) = holds-hash cs e in (suc o, omega arith, some)
holds-hash (Known h ∷ cs) e = (0, omega arith, refl)
holds-hash (Marked h ∷ cs) e = (0, omega arith, refl)

hash-page : (o : Option Page) (k : ℕ) → IsSome (hash_of (cell_of o k)) → IsSome o
hash-page None k e = absurd (false≢true e)
hash-page (Some p) k e = refl

some_page : (o : Option Page) → is_some o ≡ true → (p : Page) × (o ≡ Some p)
some_page None e = absurd (false≢true e)
some_page (Some p) e = (p, refl)

not_spare : (b : Bool) → (b ≡ true → false ≡ true) → b ≡ false
not_spare true f = sym (f refl)
not_spare false f = refl

-- a trimmed row has as many pages as its layer's known places take
pub row-count : (K : Content) (l : ℕ) (f : Numbered) (c : ℕ) → AreCounted f c → AreSpare f [] → ((i : ℕ) → look K l i ≡ hash_of (cell_in f i))
    → pages_on K l ≡ c
row-count K l f c counted spare reads =
    ap set.len (same_set nat_cmp_total nat_cmp-IsAntisymmetric (set.from_list (numbers_on l (map.keys K))) (marks_where (λ n. is_some (f n)) (2 ^ 32))
    (λ q. contains-among (numbers_on l (map.keys K)) q ∙ both_ways (is_among q (numbers_on l (map.keys K))) (is_some (f q)) (known-held q) (held-known q)
    ∙ sym (counted-are f c counted q)))
    ∙ sym counted.count_is
  where
    known-held : (q : ℕ) → is_among q (numbers_on l (map.keys K)) ≡ true → is_some (f q) ≡ true
    known-held q e =
        let (i, is, there) = number-place l q (map.keys K) e in
        let some : IsSome (hash_of (cell_in f i)) = ap is_some (sym (reads i)) ∙ known-there K l i ∙ there in
        subst (λ n. is_some (f n) ≡ true) is (hash-page (f (i / 512)) (i % 512) some)

    held-known : (q : ℕ) → is_some (f q) ≡ true → is_among q (numbers_on l (map.keys K)) ≡ true
    held-known q e =
        let (p, is) = some_page (f q) e in
        let holds : is_blank p.kept.items ≡ false = not_spare (is_blank p.kept.items) (λ blank. spare.known q (ap is_spare is ∙ blank)) in
        let (o, low, some) = holds-hash p.kept.items holds in
        let small : o < 512 = omega (arith, low, p.few) in
        let number : (512 * q + o) / 512 ≡ q = omega arith in
        let offset : (512 * q + o) % 512 ≡ o = omega arith in
        let cell : cell_in f (512 * q + o) ≡ get_or p.kept.items o Empty = ap₂ (λ n k. cell_of (f n) k) number offset ∙ ap (λ x. cell_of x o) is in
        let known : is_some (look K l (512 * q + o)) ≡ true = ap is_some (reads (512 * q + o) ∙ ap hash_of cell) ∙ some in
        subst (λ n. is_among n (numbers_on l (map.keys K)) ≡ true) number (place-number l (512 * q + o) (map.keys K) (sym (known-there K l (512 * q + o))
        ∙ known))

-- ---- all rows

module _ (h : ℕ) (rows : List PagedRow) (in_tree : HoldsTree h rows) (top : ℕ) (all : (l : ℕ) (row : PagedRow) → slice_get rows l ≡ Some row
    → l < top) (trimmed : AreTrimmed rows top) where
  content : Content
  content = tabulate h (within h (hashes rows))

  each : (l : ℕ) → row_pages rows l ≡ pages_on content l
  unfolding content pages_of
  each l = by_row (slice_get rows l) refl
    where
      by_row : (o : Option PagedRow) → slice_get rows l ≡ o → row_pages rows l ≡ pages_on content l
      by_row None e = ap (λ o. unwrap_or (option_map (λ (row : PagedRow). row.count) o) 0) e
          ∙ sym (row-count content l (λ n. None) 0 (counted-none (λ n. None) (λ n. refl)) (record { known = λ n is. absurd (false≢true is) })
          (λ i. look-hashes h rows in_tree l i ∙ ap (λ o. hash_of (cell_of (option_and_then (λ (row : PagedRow). pages_of row (i / 512)) o) (i % 512))) e))
      by_row (Some row) e = ap (λ o. unwrap_or (option_map (λ (row : PagedRow). row.count) o) 0) e
          ∙ sym (row-count content l (pages_of row) row.count row.counted (trimmed.full l row (all l row e) e)
          (λ i. look-hashes h rows in_tree l i ∙ ap (λ o. hash_of (cell_of (option_and_then (λ (row : PagedRow). pages_of row (i / 512)) o) (i % 512))) e))

  below : (n : ℕ) → held_below rows n ≡ pages_below content n
  below zero = refl
  below (suc n) = ap₂ ◌+◌ (below n) (each n)

  -- trimmed rows have as many pages as what they hold takes
  pub trimmed-count : held_pages rows ≡ page_count (tabulate h (within h (hashes rows)))
  unfolding held_pages page_count content
  trimmed-count = below 33
