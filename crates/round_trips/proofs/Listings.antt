-- Two listings of one shelf, each in order.
use Rattle.std.proofs.Common.{◌≡◌, ℕ, zero, suc, ◌+◌, ◌<◌, ◌≤◌, Bool, true, false, cond, List, [], ◌∷◌, length, get_or, Some, refl, sym, ◌∙◌, ap}
use Rattle.std.proofs.Common.{subst, true≢false}
use Rattle.std.proofs.Common.{arith}
use Rattle.std.specs.List.{count_by, list_any}
use Rattle.std.specs.List.Sorted.{IsSorted}
use Rattle.std.specs.Str.{bytes_eq}
use Rattle.std.specs.Cmp.{IsTotalOrder, tied_itself}
use Rattle.std.specs.Cmp.Lexicographic.{lists_ties, lists_total, nat_list_cmp_total, slice_cmp}
use Rattle.std.specs.Ordering.{is_eq, is_lt, nat_cmp, ordering_reverse}
use Rattle.std.specs.declared.cmp.Ordering.{Ordering}
use Rattle.std.specs.declared.cmp.Ordering.TheVariants.{Less, Equal, Greater}
use Rattle.std.proofs.lemmas.List.Sums.{sum_by-cons}
use Rattle.std.proofs.lemmas.Map.Text.{is_eq-slice_cmp}
use Rattle.folders.specs.Shelf.{Listing, is_path}
use Rattle.folders.proofs.Shelves.{is_path-eq}
use Rattle.gathering.specs.Gathering.{IsSortedListing}

abbrev Path : Type 0
Path = List (List ℕ)

abbrev cmp : Path → Path → Ordering
cmp = slice_cmp (slice_cmp nat_cmp)

total : IsTotalOrder cmp
total = lists_total nat_list_cmp_total

ties : (p q : Path) → is_path p q ≡ is_eq (cmp p q)
ties p q = lists_ties {E = bytes_eq} (slice_cmp nat_cmp) (λ x y. sym (is_eq-slice_cmp x y)) p q

exact : (p q : Path) → cmp p q ≡ Equal → p ≡ q
exact p q e = is_path-eq p q (ties p q ∙ ap is_eq e)

itself : (p : Path) → is_path p p ≡ true
itself p = ties p p ∙ ap is_eq (tied_itself total p)

-- q is not less than p
abbrev IsUpTo : Path → Path → Type 0
IsUpTo p q = is_lt (cmp q p) ≡ false

not_less : (r : Ordering) → is_lt r ≡ false → r ≡ Less → ⊥
not_less r off is = true≢false (sym (ap is_lt is) ∙ off)

up_to_itself : (p : Path) → IsUpTo p p
up_to_itself p = ap is_lt (tied_itself total p)

one_of_both : (p q : Path) (r : Ordering) → cmp p q ≡ r → IsUpTo p q → IsUpTo q p → p ≡ q
one_of_both p q Less is up down = absurd (not_less (cmp p q) down is)
one_of_both p q Equal is up down = exact p q is
one_of_both p q Greater is up down = absurd (not_less (cmp q p) up (total.antisymm q p ∙ ap ordering_reverse is))

less_through : (p y z : Path) (r : Ordering) → cmp y z ≡ r → IsUpTo p y → IsUpTo y z → cmp z p ≡ Less → ⊥
less_through p y z Less is low high less = not_less (cmp y p) low (total.trans y z p is less)
less_through p y z Equal is low high less = not_less (cmp y p) low (total.congr y z p is ∙ less)
less_through p y z Greater is low high less = not_less (cmp z y) high (total.antisymm z y ∙ ap ordering_reverse is)

up_through : (p y z : Path) (r : Ordering) → cmp z p ≡ r → IsUpTo p y → IsUpTo y z → IsUpTo p z
up_through p y z Less is low high = absurd (less_through p y z (cmp y z) refl low high is)
up_through p y z Equal is low high = ap is_lt is
up_through p y z Greater is low high = ap is_lt is

-- the first is the least
least : (p : Path) (ps : List Path) → IsSorted cmp (p ∷ ps) → (k : ℕ) → k < length (p ∷ ps) → IsUpTo p (get_or (p ∷ ps) k p)
least p ps sorted zero lt = up_to_itself p
least p ps sorted (suc k) lt =
    let next : IsUpTo (get_or (p ∷ ps) k p) (get_or (p ∷ ps) (suc k) p) =
    subst (λ j. IsUpTo (get_or (p ∷ ps) k p) (get_or (p ∷ ps) j p)) (let e : k + 1 ≡ suc k = omega arith in e)
    (sorted k p (omega arith) (omega (arith, lt))) in
    up_through p (get_or (p ∷ ps) k p) (get_or (p ∷ ps) (suc k) p) (cmp (get_or (p ∷ ps) (suc k) p) p) refl (least p ps sorted k (omega (arith, lt))) next

later : (p : Path) (ps : List Path) → IsSorted cmp (p ∷ ps) → IsSorted cmp ps
later p ps sorted k d low high =
    subst (λ j. is_lt (cmp (get_or (p ∷ ps) j d) (get_or (p ∷ ps) (suc k) d)) ≡ false) (let e : suc k + 1 ≡ suc (k + 1) = omega arith in e)
    (sorted (suc k) d (omega arith) (omega (arith, high)))

abbrev one_if : Bool → ℕ
one_if b = cond b 1 0

counted : (q p : Path) (ps : List Path) → count_by (is_path q) (p ∷ ps) ≡ one_if (is_path q p) + count_by (is_path q) ps
counted q p ps = sum_by-cons (λ (x : Path). one_if (is_path q x)) p ps

-- what is counted stands there
found : (q : Path) (ps : List Path) → 0 < count_by (is_path q) ps → (k : ℕ) × (k < length ps) × (q ≡ get_or ps k q)
found q [] some = absurd (omega (arith, some))
found q (p ∷ ps) some = by (is_path q p) refl (λ more. found q ps more)
  where
    by : (b : Bool) → is_path q p ≡ b → (0 < count_by (is_path q) ps → (k : ℕ) × (k < length ps) × (q ≡ get_or ps k q))
        → (k : ℕ) × (k < length (p ∷ ps)) × (q ≡ get_or (p ∷ ps) k q)
    by true is further = (0, omega arith, is_path-eq q p is)
    by false is further =
        let none : one_if (is_path q p) ≡ 0 = ap one_if is in
        let all : count_by (is_path q) (p ∷ ps) ≡ one_if (is_path q p) + count_by (is_path q) ps = counted q p ps in
        let rest = further (omega (arith, some, none, all)) in
        (suc rest.0, omega (arith, rest.1), rest.2)

counted_first : (p : Path) (ps : List Path) → 0 < count_by (is_path p) (p ∷ ps)
counted_first p ps =
    let one : one_if (is_path p p) ≡ 1 = ap one_if (itself p) in
    let all : count_by (is_path p) (p ∷ ps) ≡ one_if (is_path p p) + count_by (is_path p) ps = counted p p ps in
    omega (arith, one, all)

any_default : (xs : List Path) (d e : Path) (k : ℕ) → k < length xs → get_or xs k d ≡ get_or xs k e
any_default [] d e k lt = absurd (omega (arith, lt))
any_default (x ∷ xs) d e zero lt = refl
any_default (x ∷ xs) d e (suc k) lt = any_default xs d e k (omega (arith, lt))

reaches : (p q : Path) (ps qs : List Path) → IsSorted cmp (p ∷ ps) → ((r : Path) → count_by (is_path r) (p ∷ ps) ≡ count_by (is_path r) (q ∷ qs)) → IsUpTo p q
reaches p q ps qs sorted same =
    let at = found q (p ∷ ps) (omega (arith, counted_first q qs, same q)) in
    subst (λ y. IsUpTo p y) (sym at.2) (subst (λ y. IsUpTo p y) (any_default (p ∷ ps) p q at.0 at.1) (least p ps sorted at.0 at.1))

same_paths : (ps qs : List Path) → IsSorted cmp ps → IsSorted cmp qs → ((r : Path) → count_by (is_path r) ps ≡ count_by (is_path r) qs) → ps ≡ qs
same_paths [] [] ps_sorted qs_sorted same = refl
same_paths [] (q ∷ qs) ps_sorted qs_sorted same = absurd (omega (arith, counted_first q qs, same q))
same_paths (p ∷ ps) [] ps_sorted qs_sorted same = absurd (omega (arith, counted_first p ps, same p))
same_paths (p ∷ ps) (q ∷ qs) ps_sorted qs_sorted same =
    let e : p ≡ q = one_of_both p q (cmp p q) refl (reaches p q ps qs ps_sorted same) (reaches q p qs ps qs_sorted (λ r. sym (same r))) in
    let rest : ps ≡ qs = same_paths ps qs (later p ps ps_sorted) (later q qs qs_sorted) (λ r.
    let a : count_by (is_path r) (p ∷ ps) ≡ one_if (is_path r p) + count_by (is_path r) ps = counted r p ps in
    let b : count_by (is_path r) (q ∷ qs) ≡ one_if (is_path r q) + count_by (is_path r) qs = counted r q qs in
    let f : one_if (is_path r p) ≡ one_if (is_path r q) = ap (λ (x : Path). one_if (is_path r x)) e in
    omega (arith, a, b, f, same r)) in
    ap (λ (x : Path). x ∷ ps) e ∙ ap (λ (xs : List Path). q ∷ xs) rest

pub sorted_listings_are_one : (there : Listing) (ps qs : List (List (List ℕ))) → IsSortedListing (Some there) ps → IsSortedListing (Some there) qs → ps ≡ qs
sorted_listings_are_one there ps qs one other =
    same_paths ps qs one.in_order other.in_order (λ r. (one.listed there refl).each_once r ∙ sym ((other.listed there refl).each_once r))
