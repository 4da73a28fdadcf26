-- A key among ascending keys.
use Rattle.std.proofs.Common.{◌≡◌, ℕ, zero, suc, ◌<◌, ◌≤◌, true, List, [], ◌∷◌, length, get_or, Some, None, inl, inr, refl, sym, ap, subst, ◌∙◌, arith}
use Rattle.std.specs.Cmp.Lexicographic.{slice_cmp}
use Rattle.std.specs.List.Sorted.{IsNonDecreasingBy}
use Rattle.std.specs.Ordering.{nat_cmp, ordering_index}
use Rattle.std.specs.declared.cmp.Ordering.{Ordering}
use Rattle.std.proofs.lemmas.Map.Lookups.{exact_bytes}
use Rattle.std.proofs.lemmas.Bool.{cases_lt}
use Rattle.std.specs.declared.cmp.Ordering.TheVariants.{Less, Equal, Greater}
use Rattle.std.specs.Str.{bytes_eq}
use Rattle.std.proofs.lemmas.Cmp.{nat_list_cmp_total, tied_itself}
use Rattle.std.proofs.lemmas.Map.Keys.{Less-from_sorted}
use Rattle.benc.specs.View.{Seen, view, pair_view, pairs_view}
use Rattle.benc.specs.declared.value.Pair.{Pair}
use Rattle.filetree.specs.Dictionary.{Ascends, keys_in, under}
use Rattle.filetree.proofs.Bytes.{equal_bytes, same_bytes, true_or_false}
use Rattle.benc.proofs.Values.{view-Pair}

seen_key : (x : Pair) → (pair_view x).0 ≡ x.key.now
seen_key x = ap (λ (s : Seen). s.0) (view-Pair x.key x.value)

seen_value : (x : Pair) → (pair_view x).1 ≡ view x.value
seen_value x = ap (λ (s : Seen). s.1) (view-Pair x.key x.value)

pub under_some : (xs : List Pair) (i : ℕ) (d : Pair) (k : List ℕ) → i < length xs → (get_or xs i d).key.now ≡ k
    → ((j : ℕ) → j < i → (get_or xs j d).key.now ≡ k → ⊥) → under k (pairs_view xs) ≡ Some (view (get_or xs i d).value)
under_some [] i d k lt is before = absurd (omega arith)
under_some (x ∷ xs) zero d k lt is before =
    let here : bytes_eq (pair_view x).0 k ≡ true = equal_bytes (pair_view x).0 k (seen_key x ∙ is) in rw here (ap Some (seen_value x))
under_some (x ∷ xs) (suc i) d k lt is before =
    elim (true_or_false (bytes_eq (pair_view x).0 k)) [
      | inl same ↦ absurd (before 0 (omega arith) (sym (seen_key x) ∙ same_bytes (pair_view x).0 k same))
      | inr other ↦ rw other (under_some xs i d k (omega arith) is (λ j lt'. before (suc j) (omega arith)))
    ]

pub under_none : (xs : List Pair) (k : List ℕ) → ((j : ℕ) (d : Pair) → j < length xs → (get_or xs j d).key.now ≡ k → ⊥) → under k (pairs_view xs) ≡ None
under_none [] k none = refl
under_none (x ∷ xs) k none =
    elim (true_or_false (bytes_eq (pair_view x).0 k)) [
      | inl same ↦ absurd (none 0 x (omega arith) (sym (seen_key x) ∙ same_bytes (pair_view x).0 k same))
      | inr other ↦ rw other (under_none xs k (λ j d lt. none (suc j) d (omega arith)))
    ]

-- ---- ascending keys

key_at : (xs : List Pair) (i : ℕ) (d : Pair) → i < length xs → get_or (keys_in (pairs_view xs)) i (pair_view d).0 ≡ (get_or xs i d).key.now
key_at [] i d lt = absurd (omega arith)
key_at (x ∷ xs) zero d lt = seen_key x
key_at (x ∷ xs) (suc i) d lt = key_at xs i d (omega arith)

key_count : (xs : List Pair) → length (keys_in (pairs_view xs)) ≡ length xs
key_count [] = refl
key_count (x ∷ xs) = ap suc (key_count xs)

pub rising : (xs : List Pair) (i j : ℕ) (d : Pair) → Ascends (pairs_view xs) → i < j → j < length xs
    → slice_cmp nat_cmp (get_or xs i d).key.now (get_or xs j d).key.now ≡ Less
rising xs i j d up lt in' =
    let less = Less-from_sorted (slice_cmp nat_cmp) (keys_in (pairs_view xs)) i j (pair_view d).0 up lt (omega (arith, key_count xs)) in
    subst (λ k. slice_cmp nat_cmp (get_or xs i d).key.now k ≡ Less) (key_at xs j d in')
    (subst (λ k. slice_cmp nat_cmp k (get_or (keys_in (pairs_view xs)) j (pair_view d).0) ≡ Less) (key_at xs i d (omega arith)) less)

pub not_less : (x y : List ℕ) → slice_cmp nat_cmp x y ≡ Less → x ≡ y → ⊥
not_less x y less same =
    let tied : slice_cmp nat_cmp x y ≡ Equal = subst (λ k. slice_cmp nat_cmp x k ≡ Equal) same (tied_itself nat_list_cmp_total x) in cc

pub not_greater : (x y : List ℕ) → slice_cmp nat_cmp x y ≡ Greater → x ≡ y → ⊥
not_greater x y more same =
    let tied : slice_cmp nat_cmp x y ≡ Equal = subst (λ k. slice_cmp nat_cmp x k ≡ Equal) same (tied_itself nat_list_cmp_total x) in cc

pub first_at : (xs : List Pair) (i : ℕ) (d : Pair) (k : List ℕ) → Ascends (pairs_view xs) → i < length xs → (get_or xs i d).key.now ≡ k
    → under k (pairs_view xs) ≡ Some (view (get_or xs i d).value)
first_at xs i d k up lt is = under_some xs i d k lt is (λ j less same. not_less (get_or xs j d).key.now (get_or xs i d).key.now (rising xs j i d up less lt)
    (same ∙ sym is))

-- a lesser key stands no later among the answers of a search
index_rises : (r a b : List ℕ) → slice_cmp nat_cmp a b ≡ Less → ordering_index (slice_cmp nat_cmp a r) ≤ ordering_index (slice_cmp nat_cmp b r)
index_rises r a b less = by (slice_cmp nat_cmp a r) (slice_cmp nat_cmp b r) refl refl
  where
    by : (o u : Ordering) → slice_cmp nat_cmp a r ≡ o → slice_cmp nat_cmp b r ≡ u
        → ordering_index (slice_cmp nat_cmp a r) ≤ ordering_index (slice_cmp nat_cmp b r)
    by Less u e f = rw e (omega arith)
    by Equal Less e f = let bad : slice_cmp nat_cmp a r ≡ Less = nat_list_cmp_total.trans a b r less f in cc
    by Equal Equal e f = rw (e, f) (omega arith)
    by Equal Greater e f = rw (e, f) (omega arith)
    by Greater Less e f = let bad : slice_cmp nat_cmp a r ≡ Less = nat_list_cmp_total.trans a b r less f in cc
    by Greater Equal e f = let bad : slice_cmp nat_cmp a r ≡ Less = ap (slice_cmp nat_cmp a) (sym (exact_bytes b r f)) ∙ less in cc
    by Greater Greater e f = rw (e, f) (omega arith)

-- among ascending keys a search meets first the lesser ones, then the key, then the greater
pub search_rises : (xs : List Pair) (k : List ℕ) → Ascends (pairs_view xs) → IsNonDecreasingBy (λ (p : Pair). ordering_index (slice_cmp nat_cmp p.key.now k)) xs
search_rises xs k up i j d le within = elim (cases_lt i j) [
  | inl before ↦ index_rises k (get_or xs i d).key.now (get_or xs j d).key.now (rising xs i j d up before within)
  | inr same ↦ let one : j ≡ i = omega (arith, le, same) in rw one (omega arith)
]
