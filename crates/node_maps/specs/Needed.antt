-- How many pages a content takes. Its lemmas stand here, since the ways to keep a tree cite the
-- last two of them, and code may cite no file of its own crate's proofs.
use Rattle.std.proofs.Common.{◌≡◌, ℕ, zero, suc, ◌+◌, ◌≤◌, Bool, true, false, if◌then◌else◌, List, [], ◌∷◌, length, sym, ap, ◌∙◌, arith}
use Rattle.std.specs.FinMap as map
use Rattle.std.specs.FinSet as set
use Rattle.std.specs.Ordering.{nat_cmp}
use Rattle.std.specs.Cmp.{nat_cmp_total}
use Rattle.std.specs.Prelude.{refl, nat_lt}
use mathlib.Core.List.{map as map_list}
use Rattle.std.proofs.lemmas.Bool.Decides.{nat_tests}
use Rattle.node_maps.specs.Digest.{Hash}
use Rattle.node_maps.specs.Known.{Known}
use Rattle.node_maps.specs.Held.{numbers_on, pages_below, page_count}

-- a set of a list has no more members than the list
pub len-from_list : (xs : List ℕ) → set.len (set.from_list {R = nat_cmp} xs) ≤ length xs
len-from_list [] = omega (arith, set.len-empty nat_cmp)
len-from_list (x ∷ xs) =
    at_most (set.contains (set.from_list xs) x) (set.len (set.from_list xs))
    (set.len-insert nat_cmp_total (set.from_list xs) x) (len-from_list xs)
  where
    at_most : (b : Bool) (n : ℕ) {k : ℕ} → k ≡ (if b then n else (n + 1)) → n ≤ length xs
        → k ≤ suc (length xs)
    at_most true n e le = omega arith
    at_most false n e le = omega arith

-- how many of these places lie on the layers below `top`
abbrev sums : List (ℕ × ℕ) → ℕ → ℕ
sums places zero = 0
sums places (suc l) = sums places l + length (numbers_on l places)

sums-cons : (place : ℕ × ℕ) (places : List (ℕ × ℕ)) (top : ℕ)
    → sums (place ∷ places) top ≡ sums places top + (if nat_lt place.0 top then 1 else 0)
sums-cons place places zero = grind (arith, nat_tests)
sums-cons place places (suc l) = grind (arith, nat_tests, sums-cons place places l)

sums-none : (top : ℕ) → sums [] top ≡ 0
sums-none zero = omega arith
sums-none (suc l) = omega (arith, sums-none l)

sums-few : (places : List (ℕ × ℕ)) (top : ℕ) → sums places top ≤ length places
sums-few [] top = omega (arith, sums-none top)
sums-few (place ∷ places) top =
    at_most (nat_lt place.0 top) (sums-cons place places top) (sums-few places top)
  where
    at_most : (b : Bool) {k n : ℕ} → k ≡ n + (if b then 1 else 0) → n ≤ length places
        → k ≤ suc (length places)
    at_most true e le = omega arith
    at_most false e le = omega arith

below-few : (K : Known) (top : ℕ) → pages_below K top ≤ sums (map.keys K) top
below-few K zero = omega arith
below-few K (suc l) = omega (arith, below-few K l, len-from_list (numbers_on l (map.keys K)))

length-keys : (es : List ((ℕ × ℕ) × Hash))
    → length (map_list (λ (e : (ℕ × ℕ) × Hash). e.0) es) ≡ length es
length-keys [] = refl
length-keys (e ∷ es) = ap suc (length-keys es)

-- a content takes no more pages than it has places
pub needs_few_pages : (K : Known) → page_count K ≤ map.len K
unfolding page_count
needs_few_pages K =
    let entries : length (map.keys K) ≡ map.len K =
    length-keys (map.entries K) ∙ sym (map.len-entries K) in
    omega (arith, below-few K 33, sums-few (map.keys K) 33, entries)

-- a content that is kept without pages takes none
pub nothing_needed : (K : Known) → 0 ≤ map.len K
nothing_needed K = omega arith
