-- The finite map of places, by its look-ups.
use Rattle.std.proofs.Common.{◌≡◌, ◌≢◌, ◌⊎◌, ℕ, zero, suc, ◌+◌, ◌-◌, ◌*◌, ◌^◌, ◌<◌, ◌≤◌, Bool, true, false, cond, eqb, leb, ltb, ◌&&◌, Ordering, Less, Equal}
use Rattle.std.proofs.Common.{Greater, Option, Some, None, inl, inr, refl, sym, ap, ap₂, ◌∙◌, subst, arith}
use Rattle.std.specs.Ordering.{nat_cmp, eq_by_cmp, is_eq, ordering_then}
use Rattle.std.specs.Cmp.{IsTotalOrder, nat_cmp_total}
use Rattle.std.specs.Option.{option_or}
use Rattle.std.specs.FinMap.{insert, len, get-insert, get-empty, len-insert, len-empty, same_map, contains_key}
use Rattle.std.proofs.lemmas.Cmp.{then_total, on_total}
use Rattle.std.proofs.lemmas.Map.Lookups.{CmpEqualImpliesEq, exact_pairs, exact_unsigned}
use Rattle.std.proofs.lemmas.Bool.{cases_lt, cases_eq, cond-true, cond-false, and_left, and_right, and_from, eq-eqb, ne_eqb, lt-ltb, le-ltb, and_parts}
use Rattle.std.proofs.lemmas.Bool.{leb-true, ltb-true, le-leb}
use Rattle.std.proofs.lemmas.Option.{none-some}
use Rattle.hashtree.proofs.Pairs.{two-pow}
use Rattle.node_maps.specs.Digest.{Hash}
use Rattle.node_maps.specs.Places.{PartialTree, IsTreePlace}
use Rattle.node_maps.specs.Known.{place_cmp, Known, look, insert_some, with_row, with_layers, within, tabulate}
use Rattle.node_maps.proofs.Places.{twice_above}

pub place_total : IsTotalOrder place_cmp
place_total = then_total (on_total (λ (p : ℕ × ℕ). p.0) nat_cmp_total) (on_total (λ (p : ℕ × ℕ). p.1) nat_cmp_total)

pub place_exact : CmpEqualImpliesEq place_cmp
place_exact = exact_pairs nat_cmp nat_cmp exact_unsigned exact_unsigned

-- maps with the same look-ups are one
pub same_known : (m n : Known) → ((l i : ℕ) → look m l i ≡ look n l i) → m ≡ n
same_known m n h = same_map place_total place_exact m n (λ q. h q.0 q.1)

then_equal : (o p : Ordering) → is_eq (ordering_then o p) ≡ (is_eq o && is_eq p)
then_equal Less p = refl
then_equal Equal p = refl
then_equal Greater p = refl

pub nat_equal : (a b : ℕ) → is_eq (nat_cmp a b) ≡ eqb a b
nat_equal a b = elim (cases_lt a b) [
  | inl less ↦ ap is_eq (cond-true (ltb a b) Less (cond (eqb a b) Equal Greater) (lt-ltb a b less)) ∙ sym (ne_eqb a b (λ e. omega arith))
  | inr more ↦ ap is_eq (cond-false (ltb a b) Less (cond (eqb a b) Equal Greater) (le-ltb a b more)) ∙ by_test (eqb a b)
]
  where
    by_test : (b : Bool) → is_eq (cond b Equal Greater) ≡ b
    by_test true = refl
    by_test false = refl

-- the test of a place
pub same_place : (l i l' i' : ℕ) → eq_by_cmp place_cmp (l', i') (l, i) ≡ (eqb l' l && eqb i' i)
same_place l i l' i' = then_equal (nat_cmp l' l) (nat_cmp i' i) ∙ ap₂ ◌&&◌ (nat_equal l' l) (nat_equal i' i)

pub look-insert : (m : Known) (l i : ℕ) (h : Hash) (l' i' : ℕ) → look (insert m (l, i) h) l' i' ≡ cond (eqb l' l && eqb i' i) (Some h) (look m l' i')
look-insert m l i h l' i' = get-insert place_total m (l, i) h (l', i') ∙ ap (λ b. cond b (Some h) (look m l' i')) (same_place l i l' i')

pub look-insert_same : (m : Known) (l i : ℕ) (h : Hash) → look (insert m (l, i) h) l i ≡ Some h
look-insert_same m l i h = look-insert m l i h l i ∙ cond-true _ _ _ (and_from _ _ (eq-eqb l l refl) (eq-eqb i i refl))

pub look-insert_other : (m : Known) (l i : ℕ) (h : Hash) (l' i' : ℕ) → (l' ≢ l) ⊎ (i' ≢ i) → look (insert m (l, i) h) l' i' ≡ look m l' i'
look-insert_other m l i h l' i' (inl e) = look-insert m l i h l' i' ∙ cond-false _ _ _ (and_left _ _ (ne_eqb l' l e))
look-insert_other m l i h l' i' (inr e) = look-insert m l i h l' i' ∙ cond-false _ _ _ (and_right _ _ (ne_eqb i' i e))

some-here : (m : Known) (l i : ℕ) (o : Option Hash) → look (insert_some m (l, i) o) l i ≡ option_or o (look m l i)
some-here m l i None = refl
some-here m l i (Some h) = look-insert_same m l i h

some-other : (m : Known) (l i : ℕ) (o : Option Hash) (l' i' : ℕ) → (l' ≢ l) ⊎ (i' ≢ i) → look (insert_some m (l, i) o) l' i' ≡ look m l' i'
some-other m l i None l' i' e = refl
some-other m l i (Some h) l' i' e = look-insert_other m l i h l' i' e

row-other : (f : PartialTree) (l n : ℕ) (m : Known) (l' i' : ℕ) → (l' ≢ l) ⊎ (n ≤ i') → look (with_row f l n m) l' i' ≡ look m l' i'
row-other f l zero m l' i' e = refl
row-other f l (suc n) m l' i' (inl e) = some-other (with_row f l n m) l n (f l n) l' i' (inl e) ∙ row-other f l n m l' i' (inl e)
row-other f l (suc n) m l' i' (inr e) = some-other (with_row f l n m) l n (f l n) l' i' (inr (omega arith)) ∙ row-other f l n m l' i' (inr (omega arith))

row-here : (f : PartialTree) (l n : ℕ) (m : Known) (i : ℕ) → i < n → look (with_row f l n m) l i ≡ option_or (f l i) (look m l i)
row-here f l zero m i low = absurd (omega arith)
row-here f l (suc n) m i low = elim (cases_lt i n) [
  | inl less ↦ some-other (with_row f l n m) l n (f l n) l i (inr (omega arith)) ∙ row-here f l n m i less
  | inr more ↦
      let e : n ≡ i = omega arith in
      ap (λ k. look (insert_some (with_row f l n m) (l, k) (f l k)) l i) e ∙ some-here (with_row f l n m) l i (f l i)
      ∙ ap (option_or (f l i)) (row-other f l n m l i (inr more))
]

layers-past : (f : PartialTree) (h top l i : ℕ) → (top ≤ l) ⊎ (2 ^ (h - l) ≤ i) → look (with_layers f h top) l i ≡ None
layers-past f h zero l i e = get-empty place_cmp (l, i)
layers-past f h (suc top) l i (inl e) = row-other f top (2 ^ (h - top)) (with_layers f h top) l i (inl (omega arith))
    ∙ layers-past f h top l i (inl (omega arith))
layers-past f h (suc top) l i (inr e) = elim (cases_eq l top) [
  | inl same ↦ row-other f top (2 ^ (h - top)) (with_layers f h top) l i (inr (subst (λ k. 2 ^ (h - k) ≤ i) same e)) ∙ layers-past f h top l i (inr e)
  | inr other ↦ row-other f top (2 ^ (h - top)) (with_layers f h top) l i (inl other) ∙ layers-past f h top l i (inr e)
]

pub or_none : (o p : Option Hash) → p ≡ None → option_or o p ≡ o
or_none None p e = e
or_none (Some x) p e = refl

layers-here : (f : PartialTree) (h top l i : ℕ) → l < top → i < 2 ^ (h - l) → look (with_layers f h top) l i ≡ f l i
layers-here f h zero l i low in' = absurd (omega arith)
layers-here f h (suc top) l i low in' = elim (cases_lt l top) [
  | inl less ↦ row-other f top (2 ^ (h - top)) (with_layers f h top) l i (inl (omega arith)) ∙ layers-here f h top l i less in'
  | inr more ↦
      let e : top ≡ l = omega arith in
      ap (λ k. look (with_row f k (2 ^ (h - k)) (with_layers f h top)) l i) e
      ∙ row-here f l (2 ^ (h - l)) (with_layers f h top) i in'
      ∙ or_none (f l i) _ (layers-past f h top l i (inl more))
]

-- the map of a function that has values at places of the tree alone
pub look-tabulate : (h : ℕ) (f : PartialTree) → ((l i : ℕ) (v : Hash) → f l i ≡ Some v → IsTreePlace h l i) → (l i : ℕ) → look (tabulate h f) l i ≡ f l i
unfolding tabulate
look-tabulate h f inside l i = go (f l i) refl
  where
    nothing : f l i ≡ None → (suc h ≤ l) ⊎ (2 ^ (h - l) ≤ i) → look (with_layers f h (suc h)) l i ≡ f l i
    nothing none past = layers-past f h (suc h) l i past ∙ sym none

    go : (o : Option Hash) → f l i ≡ o → look (with_layers f h (suc h)) l i ≡ f l i
    go (Some v) e = let at : IsTreePlace h l i = inside l i v e in layers-here f h (suc h) l i (omega (arith, at.0)) at.1
    go None e = elim (cases_lt l (suc h)) [
      | inr high ↦ nothing e (inl high)
      | inl low ↦ elim (cases_lt i (2 ^ (h - l))) [
        | inr past ↦ nothing e (inr past)
        | inl in' ↦ layers-here f h (suc h) l i low in'
      ]
    ]

-- ---- how many places can be known

len-some : (m : Known) (p : ℕ × ℕ) (o : Option Hash) → len (insert_some m p o) ≤ len m + 1
len-some m p None = omega arith
len-some m p (Some h) = at_most (contains_key m p) (len m) (len (insert m p h)) (len-insert place_total m p h)
  where
    at_most : (b : Bool) (n k : ℕ) → k ≡ cond b n (n + 1) → k ≤ n + 1
    at_most true n k e = omega arith
    at_most false n k e = omega arith

len-row : (f : PartialTree) (l n : ℕ) (m : Known) → len (with_row f l n m) ≤ len m + n
len-row f l zero m = omega arith
len-row f l (suc n) m =
    let before : len (with_row f l n m) ≤ len m + n = len-row f l n m in
    let here : len (with_row f l (suc n) m) ≤ len (with_row f l n m) + 1 = len-some (with_row f l n m) (l, n) (f l n) in
    omega arith

len-layers : (f : PartialTree) (h top : ℕ) → top ≤ h → len (with_layers f h top) + 2 * 2 ^ (h - top) ≤ 2 * 2 ^ h
len-layers f h zero le =
    let none : len (with_layers f h zero) ≡ 0 = len-empty place_cmp Hash in
    let e : 2 ^ (h - 0) ≡ 2 ^ h = (let d : h - 0 ≡ h = omega arith in ap (λ k. 2 ^ k) d) in
    omega arith
len-layers f h (suc top) le =
    let before : len (with_layers f h top) + 2 * 2 ^ (h - top) ≤ 2 * 2 ^ h = len-layers f h top (omega arith) in
    let here : len (with_layers f h (suc top)) ≤ len (with_layers f h top) + 2 ^ (h - top) = len-row f top (2 ^ (h - top)) (with_layers f h top) in
    let half : 2 ^ (h - top) ≡ 2 ^ (h - suc top) + 2 ^ (h - suc top) = twice_above h top le in
    omega arith

-- a map of places of a tree of tree_height h has fewer than 2 ^ (h + 1) entries
pub len-tabulate : (h : ℕ) (f : PartialTree) → len (tabulate h f) < 2 ^ suc h
unfolding tabulate
len-tabulate h f =
    let before : len (with_layers f h h) + 2 * 2 ^ (h - h) ≤ 2 * 2 ^ h = len-layers f h h (omega arith) in
    let here : len (with_layers f h (suc h)) ≤ len (with_layers f h h) + 2 ^ (h - h) = len-row f h (2 ^ (h - h)) (with_layers f h h) in
    let one : 2 ^ (h - h) ≡ 2 ^ 0 = (let d : h - h ≡ 0 = omega arith in ap (λ k. 2 ^ k) d) in
    let twice : 2 ^ suc h ≡ 2 ^ h + 2 ^ h = two-pow h in
    omega arith

pub known-tabulate : (h : ℕ) (m : Known) → ((l i : ℕ) (v : Hash) → look m l i ≡ Some v → IsTreePlace h l i) → m ≡ tabulate h (look m)
known-tabulate h m inside = same_known m (tabulate h (look m)) (λ l i. sym (look-tabulate h (look m) inside l i))

pub len-known : (h : ℕ) (m : Known) → ((l i : ℕ) (v : Hash) → look m l i ≡ Some v → IsTreePlace h l i) → len m < 2 ^ suc h
len-known h m inside = subst (λ n. len n < 2 ^ suc h) (sym (known-tabulate h m inside)) (len-tabulate h (look m))

-- ---- for an implementation that keeps its cells in its own way

pub within-inside : (h : ℕ) (f : PartialTree) (l i : ℕ) (v : Hash) → within h f l i ≡ Some v → IsTreePlace h l i
within-inside h f l i v e = read (leb l h && ltb i (2 ^ (h - l))) refl e
  where
    read : (b : Bool) → (leb l h && ltb i (2 ^ (h - l))) ≡ b → cond b (f l i) None ≡ Some v → IsTreePlace h l i
    read true t e = let both = and_parts (leb l h) (ltb i (2 ^ (h - l))) t in (leb-true l h both.0, ltb-true i (2 ^ (h - l)) both.1)
    read false t e = absurd (none-some v e)

pub within-at : (h : ℕ) (f : PartialTree) (l i : ℕ) → IsTreePlace h l i → within h f l i ≡ f l i
within-at h f l i at = cond-true _ _ _ (and_from _ _ (le-leb l h at.0) (lt-ltb i (2 ^ (h - l)) at.1))

-- what is known of cells f
pub look-within : (h : ℕ) (f : PartialTree) (l i : ℕ) → look (tabulate h (within h f)) l i ≡ within h f l i
look-within h f l i = look-tabulate h (within h f) (within-inside h f) l i

-- a write to the cell of one place is an insertion
pub tabulate-put : (h : ℕ) (f g : PartialTree) (l i : ℕ) (v : Hash) → IsTreePlace h l i → g l i ≡ Some v
    → ((l' i' : ℕ) → (l' ≢ l) ⊎ (i' ≢ i) → g l' i' ≡ f l' i')
    → tabulate h (within h g) ≡ insert (tabulate h (within h f)) (l, i) v
tabulate-put h f g l i v at new old = same_known _ _ (λ l' i'. look-within h g l' i' ∙ by_place l' i' (cases_eq l' l) (cases_eq i' i))
  where
    elsewhere : (l' i' : ℕ) → (l' ≢ l) ⊎ (i' ≢ i) → within h g l' i' ≡ look (insert (tabulate h (within h f)) (l, i) v) l' i'
    elsewhere l' i' other =
        ap (λ o. cond (leb l' h && ltb i' (2 ^ (h - l'))) o None) (old l' i' other)
        ∙ sym (look-within h f l' i') ∙ sym (look-insert_other (tabulate h (within h f)) l i v l' i' other)

    by_place : (l' i' : ℕ) → (l' ≡ l) ⊎ (l' ≢ l) → (i' ≡ i) ⊎ (i' ≢ i) → within h g l' i' ≡ look (insert (tabulate h (within h f)) (l, i) v) l' i'
    by_place l' i' (inr other) q = elsewhere l' i' (inl other)
    by_place l' i' (inl p) (inr other) = elsewhere l' i' (inr other)
    by_place l' i' (inl p) (inl q) =
        ap₂ (within h g) p q ∙ within-at h g l i at ∙ new ∙ sym (look-insert_same (tabulate h (within h f)) l i v)
        ∙ sym (ap₂ (look (insert (tabulate h (within h f)) (l, i) v)) p q)
