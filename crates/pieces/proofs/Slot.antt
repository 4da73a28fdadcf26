-- Slots of stretches: no two stretches that wait share one.
use Rattle.std.proofs.Common.{◌≡◌, ◌≢◌, ℕ, zero, suc, ◌+◌, ◌-◌, ◌*◌, ◌/◌, ◌%◌, ◌<◌, ◌≤◌, min, refl, sym, ap, ◌∙◌, subst, arith, inl, inr}
use Rattle.std.proofs.Math.Nat.{mul-add-div_right, add-mod_right, div-add-mod, mul-le-mul_left}
use Rattle.std.proofs.lemmas.Bool.{cases_lt, cases_eq}
use Rattle.lanes.specs.declared.words.TheConstants.{LANES}
use Rattle.pieces.specs.declared.slots.TheConstants.{SLOTS}
use Rattle.pieces.specs.Slot.{slot_of}

-- where the slots of stretch i + 1 begin
abbrev first : ℕ → ℕ
first i = (suc i * i) / 2

-- the slots of the next stretch begin behind them
row_next : (i : ℕ) → first (suc i) ≡ first i + suc i
row_next i =
    let split : suc (suc i) * suc i ≡ suc i * 2 + suc i * i = omega arith in
    ap (λ n. n / 2) split ∙ mul-add-div_right (let two : 0 < 2 = omega arith in two) (suc i) (suc i * i) ∙ omega arith

-- and those of each later one
rows_apart : (i d : ℕ) → first i + suc i ≤ first (suc i + d)
rows_apart i zero =
    let same : first (suc i + 0) ≡ first (suc i) = ap first (let s : suc i + 0 ≡ suc i = omega arith in s) in
    omega (arith, same, row_next i)
rows_apart i (suc d) =
    let same : first (suc i + suc d) ≡ first (suc (suc i + d)) = ap first (let s : suc i + suc d ≡ suc (suc i + d) = omega arith in s) in
    omega (arith, same, row_next (suc i + d), rows_apart i d)

rows_behind : (i j : ℕ) → i < j → first i + suc i ≤ first j
rows_behind i j less =
    let split : suc i + (j - suc i) ≡ j = omega arith in
    subst (λ k. first i + suc i ≤ first k) split (rows_apart i (j - suc i))

-- the slots of stretch i + 1
in_row : (piece i : ℕ) → (first i ≤ slot_of piece (suc i)) × (slot_of piece (suc i) < first i + suc i)
unfolding slot_of
in_row piece i =
    let less : piece % suc i < suc i = omega arith in
    (omega arith, omega (arith, less))

-- the slot behind all others
pub last_slot : (piece : ℕ) → slot_of piece 0 ≡ SLOTS - 1
unfolding slot_of
last_slot piece = refl

-- the slot of a later stretch
pub slot_after : (piece i : ℕ) → 0 < i → slot_of piece i ≡ (i * (i - 1)) / 2 + piece % i
unfolding slot_of
slot_after piece zero some = absurd (omega arith)
slot_after piece (suc i) some =
    let before : i ≡ suc i - 1 = omega arith in
    ap (λ k. (suc i * k) / 2 + piece % suc i) before

-- the slot of a later stretch is before that of stretch 0
pub slot_before : (piece i : ℕ) → 0 < i → i < LANES → slot_of piece i < SLOTS - 1
slot_before piece zero some less = absurd (omega arith)
slot_before piece (suc i) some less =
    let behind : first i + suc i ≤ first 7 = rows_behind i 7 (omega arith) in
    omega (arith, behind, (in_row piece i).1)

-- every slot is one of those that there are
pub slot_within : (piece i : ℕ) → i < LANES → slot_of piece i < SLOTS
slot_within piece zero less = omega (arith, last_slot piece)
slot_within piece (suc i) less = omega (arith, slot_before piece (suc i) (omega arith) less)

-- a step takes a stretch from the slot that its own number names
pub slot_again : (piece i : ℕ) → slot_of (piece + i) i ≡ slot_of piece i
unfolding slot_of
slot_again piece zero = refl
slot_again piece (suc i) = ap (λ k. (suc i * i) / 2 + k) (add-mod_right piece (suc i))

-- numbers that are closer than n are apart modulo n
apart : (a b n : ℕ) → a < b → b < a + n → a % n ≢ b % n
apart a b n less close same =
    let one : n * (a / n) + a % n ≡ a = div-add-mod a n in
    let two : n * (b / n) + b % n ≡ b = div-add-mod b n in
    elim (cases_lt (a / n) (b / n)) [
      | inl lower ↦ let m : n * (a / n + 1) ≤ n * (b / n) = mul-le-mul_left n (omega arith) in omega (arith, one, two, m, same)
      | inr higher ↦ let m : n * (b / n) ≤ n * (a / n) = mul-le-mul_left n higher in omega (arith, one, two, m, same)
    ]

-- slots of two stretches that have other numbers
other_rows : (k p i l : ℕ) → i < l → slot_of k (suc i) ≢ slot_of p (suc l)
other_rows k p i l less same = omega (arith, rows_behind i l less, (in_row k i).1, (in_row p l).0)

-- slots of one stretch of two pieces
one_row : (k p i : ℕ) → k < p → p < k + suc i → slot_of k (suc i) ≢ slot_of p (suc i)
unfolding slot_of
one_row k p i less close same = apart k p (suc i) less close (let rest : k % suc i ≡ p % suc i = omega (arith, same) in rest)

later_differ : (k i p l : ℕ) → k < p + 1 → (i ≡ l → k < p) → p < k + suc i → slot_of k (suc i) ≢ slot_of p (suc l)
later_differ k i p l not_after before waits same = elim (cases_eq i l) [
  | inl here ↦ one_row k p i (before here) waits (same ∙ ap (λ n. slot_of p (suc n)) (sym here))
  | inr other ↦ elim (cases_lt i l) [
    | inl less ↦ other_rows k p i l less same
    | inr more ↦ other_rows p k l i (let lt : l < i = omega arith in lt) (sym same)
  ]
]

-- a stretch that waits does not stand in the slot of the one that comes in
pub slots_differ : (k i p l : ℕ) → i < LANES → l < LANES → p + min l 1 ≤ k + i → LANES * k + i < LANES * p + l → slot_of k i ≢ slot_of p l
slots_differ k zero p zero bound within waits before same = omega arith
slots_differ k (suc i) p zero bound within waits before same =
    omega (arith, slot_before k (suc i) (omega arith) bound, last_slot p, same)
slots_differ k zero p (suc l) bound within waits before same = omega arith
slots_differ k (suc i) p (suc l) bound within waits before same =
    later_differ k i p l (omega arith) (λ here. omega (arith, here)) (omega arith) same

-- nor do the stretches of one piece share one
pub own_differ : (piece i l : ℕ) → i < l → l < LANES → slot_of piece i ≢ slot_of piece l
own_differ piece i zero less bound same = absurd (omega arith)
own_differ piece zero (suc l) less bound same = omega (arith, slot_before piece (suc l) (omega arith) bound, last_slot piece, same)
own_differ piece (suc i) (suc l) less bound same = other_rows piece piece i l (omega (arith, less)) same
