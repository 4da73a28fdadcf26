-- Facts that hold or fail.
use Rattle.std.proofs.Common.{◌≡◌, ◌⊎◌, inl, inr, ℕ, zero, suc, ◌<◌, ◌≤◌, Bool, true, false, List, [], ◌∷◌, Option, Some, None, refl, ap, ◌∙◌, subst, arith}
use Rattle.std.specs.Bool.{Decides}
use Rattle.std.proofs.lemmas.Bool.{cases_lt}
use Rattle.chains.proofs.Cases.{last_or_before}

-- P holds, or does not
abbrev pub Decided : Type 0 → Type 0
Decided P = P ⊎ (P → ⊥)

pub by_test : {P : Type 0} (r : Bool) → Decides r P → Decided P
by_test true fits = inl (fits.0 refl)
by_test false fits = inr (λ holds. let never : false ≡ true = fits.1 holds in cc)

pub is_bool : (b c : Bool) → Decided (b ≡ c)
is_bool true true = inl refl
is_bool true false = inr (λ is. cc)
is_bool false true = inr (λ is. cc)
is_bool false false = inl refl

pub is_none : {A : Type 0} (o : Option A) → Decided (o ≡ None)
is_none None = inl refl
is_none (Some x) = inr (λ is. cc)

pub empty_decided : {A : Type 0} (xs : List A) → Decided (xs ≡ [])
empty_decided [] = inl refl
empty_decided (x ∷ xs) = inr (λ is. cc)

pub is_below : (m n : ℕ) → Decided (m < n)
is_below m n = elim (cases_lt m n) [ inl less ↦ inl less | inr more ↦ inr (λ less. omega (arith, less, more)) ]

pub is_at_most : (m n : ℕ) → Decided (m ≤ n)
is_at_most m n = elim (cases_lt n m) [ inl less ↦ inr (λ more. omega (arith, less, more)) | inr more ↦ inl more ]

pub neither : {P : Type 0} → Decided P → Decided (P → ⊥)
neither (inl p) = inr (λ never. never p)
neither (inr never) = inl never

pub both_decided : {P Q : Type 0} → Decided P → Decided Q → Decided (P × Q)
both_decided (inl p) (inl q) = inl (p, q)
both_decided (inl p) (inr never) = inr (λ pq. never pq.1)
both_decided (inr never) d = inr (λ pq. never pq.0)

pub either : {P Q : Type 0} → Decided P → Decided Q → Decided (P ⊎ Q)
either (inl p) d = inl (inl p)
either (inr never) (inl q) = inl (inr q)
either (inr never) (inr not) = inr (λ pq. elim pq [ inl p ↦ never p | inr q ↦ not q ])

pub moved : (P Q : Type 0) → (P → Q) → (Q → P) → Decided P → Decided Q
moved P Q to from (inl p) = inl (to p)
moved P Q to from (inr never) = inr (λ q. never (from q))

-- some number below a bound has a property
abbrev pub SomeBelow : (ℕ → Type 0) → ℕ → Type 0
SomeBelow P n = (k : ℕ) × (k < n) × P k

pub below_decided : (P : ℕ → Type 0) → ((k : ℕ) → Decided (P k)) → (n : ℕ) → Decided (SomeBelow P n)
below_decided P decided zero = inr (λ found. omega (arith, found.1))
below_decided P decided (suc n) = elim (decided n) [
  | inl here ↦ inl (n, omega arith, here)
  | inr never ↦ moved (SomeBelow P n) (SomeBelow P (suc n))
      (λ found. (found.0, omega (arith, found.1), found.2))
      (λ found. elim (last_or_before found.0 n (omega (arith, found.1))) [
        | inl before ↦ (found.0, before, found.2)
        | inr last ↦ absurd (never (subst P last found.2))
      ])
      (below_decided P decided n)
]

-- two lists of what is decided to be one or not
pub same_list : {A : Type 0} → ((x y : A) → Decided (x ≡ y)) → (xs ys : List A) → Decided (xs ≡ ys)
same_list same [] [] = inl refl
same_list same [] (y ∷ ys) = inr (λ is. cc)
same_list same (x ∷ xs) [] = inr (λ is. cc)
same_list same (x ∷ xs) (y ∷ ys) = elim (same x y) [
  | inl head ↦ elim (same_list same xs ys) [
    | inl rest ↦ inl (ap (λ z. z ∷ xs) head ∙ ap (λ zs. y ∷ zs) rest)
    | inr never ↦ inr (λ is. never (let rest : xs ≡ ys = cc in rest))
  ]
  | inr never ↦ inr (λ is. never (let head : x ≡ y = cc in head))
]
