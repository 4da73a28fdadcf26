-- The gaps: they never rise, and the true answer to what is wanted closes one.
use Rattle.std.proofs.Common.{◌≡◌, ◌≢◌, ◌⊎◌, ℕ, zero, suc, ◌+◌, ◌<◌, ◌≤◌, Bool, true, false, ◌||◌, inl, inr, refl, sym, ap, ap₂, ◌∙◌, arith}
use Rattle.std.proofs.lemmas.Bool.{cases_lt, cases_Bool, false≢true, or_cases, or_left, or_right, or_from}
use Rattle.partial_tree.specs.Gaps.{one_if, count_below, some_below}

-- ---- counts

one_le : (a b : Bool) → (a ≡ true → b ≡ true) → one_if a ≤ one_if b
one_le true true h = omega arith
one_le true false h = absurd (false≢true (h refl))
one_le false true h = omega arith
one_le false false h = omega arith

pub count-le : (p q : ℕ → Bool) (n : ℕ) → ((k : ℕ) → k < n → p k ≡ true → q k ≡ true) → count_below p n ≤ count_below q n
count-le p q zero h = omega arith
count-le p q (suc n) h =
    let before : count_below p n ≤ count_below q n = count-le p q n (λ k in' e. h k (omega arith) e) in
    let here : one_if (p n) ≤ one_if (q n) = one_le (p n) (q n) (h n (omega arith)) in
    omega arith

-- p passes no more than q, and fails where q passes
pub count-lt : (p q : ℕ → Bool) (n m : ℕ) → ((k : ℕ) → k < n → p k ≡ true → q k ≡ true) → m < n → p m ≡ false → q m ≡ true → count_below p n < count_below q n
count-lt p q zero m h in' out there = absurd (omega arith)
count-lt p q (suc n) m h in' out there = elim (cases_lt m n) [
  | inl less ↦
      let before : count_below p n < count_below q n = count-lt p q n m (λ k low e. h k (omega arith) e) less out there in
      let here : one_if (p n) ≤ one_if (q n) = one_le (p n) (q n) (h n (omega arith)) in
      omega arith
  | inr more ↦
      let same : m ≡ n = omega arith in
      let before : count_below p n ≤ count_below q n = count-le p q n (λ k low e. h k (omega arith) e) in
      let none : one_if (p n) ≡ 0 = ap (λ b. one_if b) (sym (ap p same) ∙ out) in
      let one : one_if (q n) ≡ 1 = ap (λ b. one_if b) (sym (ap q same) ∙ there) in
      omega arith
]

pub count-same : (p q : ℕ → Bool) (n : ℕ) → ((k : ℕ) → k < n → p k ≡ q k) → count_below p n ≡ count_below q n
count-same p q zero h = refl
count-same p q (suc n) h = ap₂ (λ a b. a + one_if b) (count-same p q n (λ k in'. h k (omega arith))) (h n (omega arith))

-- p is q but at one place, where it fails and q passes
pub count-one : (p q : ℕ → Bool) (n m : ℕ) → ((k : ℕ) → k < n → k ≢ m → p k ≡ q k) → m < n → p m ≡ false → q m ≡ true → count_below p n + 1 ≡ count_below q n
count-one p q zero m h in' out there = absurd (omega arith)
count-one p q (suc n) m h in' out there = elim (cases_lt m n) [
  | inl less ↦
      let before : count_below p n + 1 ≡ count_below q n = count-one p q n m (λ k low other. h k (omega arith) other) less out there in
      let here : one_if (p n) ≡ one_if (q n) = ap (λ b. one_if b) (h n (omega arith) (omega arith)) in
      omega arith
  | inr more ↦
      let same : m ≡ n = omega arith in
      let before : count_below p n ≡ count_below q n = count-same p q n (λ k low. h k (omega arith) (omega arith)) in
      let none : one_if (p n) ≡ 0 = ap (λ b. one_if b) (sym (ap p same) ∙ out) in
      let one : one_if (q n) ≡ 1 = ap (λ b. one_if b) (sym (ap q same) ∙ there) in
      omega arith
]

no_one : (b : Bool) → one_if b ≡ 0 → b ≡ false
no_one true e = absurd (omega arith)
no_one false e = refl

pub count-none : (p : ℕ → Bool) (n : ℕ) → count_below p n ≡ 0 → (k : ℕ) → k < n → p k ≡ false
count-none p zero e k in' = absurd (omega arith)
count-none p (suc n) e k in' = elim (cases_lt k n) [
  | inl less ↦ count-none p n (omega arith) k less
  | inr more ↦
      let same : k ≡ n = omega arith in
      let none : one_if (p n) ≡ 0 = omega arith in
      ap p same ∙ no_one (p n) none
]

pub count-zero : (p : ℕ → Bool) (n : ℕ) → ((k : ℕ) → k < n → p k ≡ false) → count_below p n ≡ 0
count-zero p zero h = refl
count-zero p (suc n) h =
    let before : count_below p n ≡ 0 = count-zero p n (λ k low. h k (omega arith)) in
    let here : one_if (p n) ≡ 0 = ap (λ b. one_if b) (h n (omega arith)) in
    omega arith

-- only this many can pass
pub count-at_most : (p : ℕ → Bool) (n : ℕ) → count_below p n ≤ n
count-at_most p zero = omega arith
count-at_most p (suc n) =
    let before : count_below p n ≤ n = count-at_most p n in
    let here : one_if (p n) ≤ one_if true = one_le (p n) true (λ e. refl) in
    omega arith

pub count-upto : (p : ℕ → Bool) (n m : ℕ) → ((k : ℕ) → p k ≡ true → k < m) → count_below p n ≤ m
count-upto p zero m h = omega arith
count-upto p (suc n) m h = elim (cases_Bool (p n)) [
  | inl yes' ↦
      let in' : n < m = h n yes' in
      let before : count_below p n ≤ n = count-at_most p n in
      let one : one_if (p n) ≡ 1 = ap (λ b. one_if b) yes' in
      omega arith
  | inr no' ↦
      let before : count_below p n ≤ m = count-upto p n m h in
      let none : one_if (p n) ≡ 0 = ap (λ b. one_if b) no' in
      omega arith
]

-- ---- some number passes

pub some-from : (p : ℕ → Bool) (n k : ℕ) → k < n → p k ≡ true → some_below p n ≡ true
some-from p zero k in' e = absurd (omega arith)
some-from p (suc n) k in' e = elim (cases_lt k n) [
  | inl less ↦ or_left _ _ (some-from p n k less e)
  | inr more ↦ let same : k ≡ n = omega arith in or_right _ _ (sym (ap p same) ∙ e)
]

pub some-where : (p : ℕ → Bool) (n : ℕ) → some_below p n ≡ true → (k : ℕ) × (k < n) × (p k ≡ true)
some-where p zero e = absurd (false≢true e)
some-where p (suc n) e = found (or_cases (some_below p n) (p n) e) (some-where p n)
  where
    found : (some_below p n ≡ true) ⊎ (p n ≡ true) → (some_below p n ≡ true → (k : ℕ) × (k < n) × (p k ≡ true)) → (k : ℕ) × (k < suc n) × (p k ≡ true)
    found (inl before) later = let (k, in', at) = later before in (k, omega arith, at)
    found (inr here) later = (n, omega arith, here)

pub some-none : (p : ℕ → Bool) (n : ℕ) → ((k : ℕ) → k < n → p k ≡ false) → some_below p n ≡ false
some-none p zero h = refl
some-none p (suc n) h = or_from _ _ (some-none p n (λ k low. h k (omega arith))) (h n (omega arith))

pub some-same : (p q : ℕ → Bool) (n : ℕ) → ((k : ℕ) → k < n → p k ≡ q k) → some_below p n ≡ some_below q n
some-same p q zero h = refl
some-same p q (suc n) h = ap₂ ◌||◌ (some-same p q n (λ k low. h k (omega arith))) (h n (omega arith))
