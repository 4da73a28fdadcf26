-- The keys of a dictionary that has a spelling ascend.
use Rattle.std.proofs.Common.{◌≡◌, ℕ, ◌-◌, ◌<◌, true, List, [], ◌∷◌, Option, Some, None, inl, inr, refl, subst, arith}
use Rattle.std.specs.Cmp.Lexicographic.{slice_cmp}
use Rattle.std.specs.Ordering.{nat_cmp, is_lt}
use Rattle.std.specs.declared.cmp.Ordering.{Ordering}
use Rattle.std.specs.declared.cmp.Ordering.TheVariants.{Less, Equal, Greater}
use Rattle.std.specs.List.{AllByRecursion}
use Rattle.std.specs.List.Sorted.{IsStrictlySortedBy}
use Rattle.std.specs.Str.{bytes_eq}
use Rattle.std.proofs.lemmas.Cmp.{nat_list_cmp_total}
use Rattle.benc.specs.Text.{Fits, PairsFit}
use Rattle.benc.specs.Value.{Bencode, int, text, list, dict, Pairs, no_pairs, pair}
use Rattle.filetree.specs.Dictionary.{Ascends, get, keys_in, pairs_in, under, value_under_key}
use Rattle.filetree.proofs.Bytes.{true_or_false}

pub is_less : (o : Ordering) → is_lt o ≡ true → o ≡ Less
is_less Less e = refl
is_less Equal e = cc
is_less Greater e = cc

-- each key is above the one before all of them
abbrev pub AllAbove : List ℕ → List (List ℕ) → Type 0
AllAbove k ls = AllByRecursion (λ l. slice_cmp nat_cmp k l ≡ Less) ls

pub lower : (k l : List ℕ) (ls : List (List ℕ)) → slice_cmp nat_cmp k l ≡ Less → AllAbove l ls → AllAbove k ls
lower k l [] less above = tt
lower k l (m ∷ ms) less above = (nat_list_cmp_total.trans k l m less above.0, lower k l ms less above.1)

-- the keys behind a key are above it
pub above_all : (room : ℕ) (k : List ℕ) (ps : Pairs) → PairsFit room (Some k) ps → AllAbove k (keys_in ps)
above_all room k no_pairs fits = tt
above_all room k (pair l v ps) fits =
    let less : slice_cmp nat_cmp k l ≡ Less = is_less (slice_cmp nat_cmp k l) fits.1 in (less, lower k l (keys_in ps) less (above_all room l ps fits.3))

pub pairs_ascend : (room : ℕ) (before : Option (List ℕ)) (ps : Pairs) → PairsFit room before ps → Ascends ps
unfolding IsStrictlySortedBy
pairs_ascend room before no_pairs fits = tt
pairs_ascend room before (pair k v ps) fits = (above_all room k ps fits.3, pairs_ascend room (Some k) ps fits.3)

-- what stands under a key fits as well
pub under_fits : (room : ℕ) (before : Option (List ℕ)) (key : List ℕ) (ps : Pairs) (v : Bencode) → PairsFit room before ps → under key ps ≡ Some v → Fits room v
under_fits room before key no_pairs v fits is = cc
under_fits room before key (pair k w ps) v fits is =
    elim (true_or_false (bytes_eq k key)) [
      | inl same ↦ let here : Some w ≡ Some v = rw same at is in let one : w ≡ v = cc in subst (Fits room) one fits.2
      | inr other ↦ let later : under key ps ≡ Some v = rw other at is in under_fits room (Some k) key ps v fits.3 later
    ]

pub get_fits : (room : ℕ) (key : List ℕ) (v w : Bencode) → Fits room v → get key v ≡ Some w → Fits (room - 1) w
get_fits room key (int z) w fits is = cc
get_fits room key (text s) w fits is = cc
get_fits room key (list vs) w fits is = cc
get_fits room key (dict ps) w fits is = under_fits (room - 1) None key ps w fits.1 is

value_ascends : (room : ℕ) (v : Bencode) → Fits room v → Ascends (pairs_in v)
unfolding IsStrictlySortedBy
value_ascends room (int z) fits = tt
value_ascends room (text s) fits = tt
value_ascends room (list vs) fits = tt
value_ascends room (dict ps) fits = pairs_ascend (room - 1) None ps fits.1

found_ascends : (room : ℕ) (key : List ℕ) (v : Bencode) (o : Option Bencode) → Fits room v → get key v ≡ o → Ascends (pairs_in (value_under_key key v))
unfolding IsStrictlySortedBy
found_ascends room key v None fits is = rw is tt
found_ascends room key v (Some w) fits is = rw is (value_ascends (room - 1) w (get_fits room key v w fits is))

-- the keys of a dictionary under a key ascend
pub part_ascends : (room : ℕ) (key : List ℕ) (v : Bencode) → Fits room v → Ascends (pairs_in (value_under_key key v))
part_ascends room key v fits = found_ascends room key v (get key v) fits refl

-- what stands under a key, or the empty dictionary for what is absent, fits as well
pub value_fits : (room : ℕ) (key : List ℕ) (v : Bencode) → 1 < room → Fits room v → Fits (room - 1) (value_under_key key v)
value_fits room key v some fits = by_cases (get key v) refl
  where
    by_cases : (o : Option Bencode) → get key v ≡ o → Fits (room - 1) (value_under_key key v)
    by_cases None is = let left : 0 < room - 1 = omega (arith, some) in rw is (left, tt)
    by_cases (Some w) is = let there : Fits (room - 1) w = get_fits room key v w fits is in rw is there

pub pairs_fit : (room : ℕ) (v : Bencode) → 0 < room → Fits room v → Fits room (dict (pairs_in v))
pairs_fit room (int z) some fits = (some, tt)
pairs_fit room (text s) some fits = (some, tt)
pairs_fit room (list vs) some fits = (some, tt)
pairs_fit room (dict ps) some fits = fits
