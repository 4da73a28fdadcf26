-- How many digests are held.
use Rattle.std.proofs.Common.{◌≡◌, ◌⊎◌, inl, inr, ℕ, zero, suc, ◌+◌, ◌*◌, ◌<◌, ◌≤◌, ◌++◌, List, [], ◌∷◌, map, sum_by, length, take, drop, get_or, Option}
use Rattle.std.proofs.Common.{Some, None, refl, sym, ap, ◌∙◌, subst, arith, add-zero, length-append}
use Rattle.std.specs.Prelude.{slice_get}
use Rattle.std.specs.FinMap.{FinMap, entries, values, from_sorted, entries_sorted, entries-from_sorted}
use Rattle.std.proofs.lemmas.Bool.{cases_lt}
use Rattle.std.proofs.lemmas.List.{take_more, take-append-drop}
use Rattle.std.proofs.lemmas.List.Sums.{sum_by-append, sum_by-cons}
use Rattle.std.proofs.lemmas.Option.{none-some, same_Some}
use Rattle.node_maps.specs.Known.{place_cmp}
use Rattle.fixed_maps.specs.Tiers.{TierSeen, AreRising, flat, items_at}
use Rattle.slab.specs.Slab.{Slab}
use Rattle.fixed_maps.specs.FixedMaps.{FixedMapSeen}
use Rattle.fixed_maps.proofs.Kept.{map-len}
use Rattle.fixed_maps.proofs.Carried.{flat-push, flat-parts}
use Rattle.fixed_maps.proofs.Spots.{flat-split}
use Rattle.holdings.specs.Cells.{Cells}
use Rattle.holdings.specs.Holdings.{PieceSeen, held_in}
use Rattle.holdings.specs.Tables.{RowOf, IsTable, seen_row, seen_rows, weigh}
use Rattle.holdings.proofs.Rows.{in-order, row-before, seen-entry}

abbrev Row : Type 0
Row = (ℕ × ℕ) × RowOf

pub times-mono : (a b w : ℕ) → a ≤ b → a * w ≤ b * w
times-mono a b w le = by (cases_lt a b)
  where
    by : (a < b) ⊎ (b ≤ a) → a * w ≤ b * w
    by (inl less) = let before = row-before a b w less in omega (arith, before)
    by (inr more) = let same : a ≡ b = omega (arith, le, more) in subst (λ c. a * w ≤ c * w) same (omega arith)

-- an entry that was read
pub read-at : (xs : List Row) (i : ℕ) (e : Row) → slice_get xs i ≡ Some e → (i < length xs) × (get_or xs i e ≡ e)
read-at [] i e at = absurd (none-some e at)
read-at (x ∷ xs) zero e at = (omega arith, same_Some x e at)
read-at (x ∷ xs) (suc i) e at = let (lt, is) = read-at xs i e at in (omega (arith, lt), is)

pub past-end : (xs : List Row) (i : ℕ) → slice_get xs i ≡ None → length xs ≤ i
past-end [] i at = omega arith
past-end (x ∷ xs) zero at = absurd (none-some x (sym at))
past-end (x ∷ xs) (suc i) at = let rest = past-end xs i at in omega (arith, rest)

pub one-more : (f : Row → ℕ) (xs : List Row) (i : ℕ) (e : Row) → slice_get xs i ≡ Some e → sum_by f (take (i + 1) xs) ≡ sum_by f (take i xs) + f e
one-more f xs i e at =
    let (lt, is) = read-at xs i e at in
    ap (sum_by f) (take_more xs i e lt ∙ ap (λ x. take i xs ++ x ∷ []) is) ∙ sum_by-append f (take i xs) (e ∷ [])
    ∙ ap (λ n. sum_by f (take i xs) + n) (sum_by-cons f e [] ∙ add-zero (f e))

module _ (f : Row → ℕ) (ts : List TierSeen) (i : ℕ) (lt : i < length ts) where
  pub tier-taken : flat (take (i + 1) ts) ≡ flat (take i ts) ++ items_at ts i
  tier-taken = ap flat (take_more ts i (record { items = []; width = 0; capacity = 0 }) lt) ∙ flat-push (take i ts) _

  pub tier-more : sum_by f (flat (take (i + 1) ts)) ≡ sum_by f (flat (take i ts)) + sum_by f (items_at ts i)
  tier-more = ap (sum_by f) tier-taken ∙ sum_by-append f (flat (take i ts)) (items_at ts i)

  pub tier-longer : length (flat (take (i + 1) ts)) ≡ length (flat (take i ts)) + length (items_at ts i)
  tier-longer = ap length tier-taken ∙ length-append (flat (take i ts)) (items_at ts i)

  pub tier-fits : length (flat (take i ts)) + length (items_at ts i) ≤ length (flat ts)
  tier-fits =
      let parts = ap length (flat-parts (i + 1) ts) in
      let both = length-append (flat (take (i + 1) ts)) (flat (drop (i + 1) ts)) in
      let longer = tier-longer in
      omega (arith, parts, both, longer)

-- the tier is there, and the rows of it and of those before it are no more than this many
pub record IsTierWithin (ts : List TierSeen) (i w most : ℕ) : Type 0 where
  pub there : i < length ts
  pub few : length (items_at ts i) ≤ most
  pub cells : length (items_at ts i) * w ≤ most * w
  pub so_far : (length (flat (take i ts)) + length (items_at ts i)) * w ≤ most * w

pub tier-within : (order : FixedMapSeen) (rows : Slab (ℕ × ℕ)) (cells : Cells) (newest : List ℕ) (w room n k : ℕ)
    → IsTable order rows cells newest w room n k → AreRising (flat order.tiers) → (i : ℕ) → i < length order.tiers
    → IsTierWithin order.tiers i w rows.capacity
tier-within order rows cells newest w room n k table rising i lt =
    let ts : List TierSeen = order.tiers in
    let fits = tier-fits (weigh cells w) ts i lt in
    let count = table.count in let all = table.all in let len = map-len (flat ts) rising in
    let most : length (flat (take i ts)) + length (items_at ts i) ≤ rows.capacity = omega (arith, fits, count, all, len) in
    let few : length (items_at ts i) ≤ rows.capacity = omega (arith, most) in
    record { there = lt; few = few; cells = times-mono _ _ w few; so_far = times-mono _ _ w most }

module _ (cells : Cells) (newest : List ℕ) (w : ℕ) where
  summed : (es : List Row) → sum_by (λ x. held_in x.cells) (map (λ e. e.1) (map (seen-entry cells newest w) es)) ≡ sum_by (weigh cells w) es
  summed [] = refl
  summed (e ∷ es) = sum_by-cons (λ x. held_in x.cells) (seen_row cells newest w e.1) (map (λ e. e.1) (map (seen-entry cells newest w) es))
      ∙ ap (λ n. weigh cells w e + n) (summed es) ∙ sym (sum_by-cons (weigh cells w) e es)

  -- of all pieces
  pub counted : (es : List Row) → AreRising es
      → sum_by (weigh cells w) es ≡ sum_by (λ x. held_in x.cells) (values (seen_rows cells newest w (from_sorted es)))
  counted es rising =
      let m = from_sorted {R = place_cmp} es in
      sym (summed es) ∙ ap (λ xs. sum_by (λ x. held_in x.cells) (map (λ e. e.1) (map (seen-entry cells newest w) xs)))
      (sym (entries-from_sorted place_cmp es rising))
      ∙ ap (λ xs. sum_by (λ x. held_in x.cells) (map (λ e. e.1) xs))
      (sym (entries-from_sorted place_cmp (map (seen-entry cells newest w) (entries m)) (in-order cells newest w (entries m) (entries_sorted m))))
