-- Which pieces of a file the parts have: all of them, in turn.
use Rattle.std.proofs.Common.{◌≡◌, inl, inr, ℕ, ◌+◌, ◌-◌, ◌*◌, ◌/◌, ◌<◌, ◌≤◌, min, Bool, true, false, ◌==◌, refl, ap, ◌∙◌}
use Rattle.std.proofs.Common.{if◌then◌else◌, arith}
use Rattle.std.proofs.Math.Nat.{div-mul-le_self, le-div_iff_mul-le}
use Rattle.std.proofs.lemmas.Bool.{cases_lt, eq-eqb, ne_eqb}
use Rattle.pieces.proofs.Cutting.{cut_count_is, cut_count_none}
use Rattle.pieces.specs.Pieces.{pieces_of}
use Rattle.part_texts.specs.Divisions.{first_piece, hashed, start_of}

-- ---- pieces

pub pieces_up : (p m n : ℕ) → 0 < p → m ≤ n → pieces_of p m ≤ pieces_of p n
pieces_up p m n some le =
    let below = div-mul-le_self (m + (p - 1)) p in
    (le-div_iff_mul-le {k = p} {x = pieces_of p m} {y = n + (p - 1)} some).1 (omega (arith, below, le))

-- a piece begins before the end
pub piece_begins : (p n k : ℕ) → 0 < p → k < pieces_of p n → k * p < n
piece_begins p n k some lt =
    let below = (le-div_iff_mul-le {k = p} {x = k + 1} {y = n + (p - 1)} some).0 (omega (arith, lt)) in
    omega (arith, below, some)

-- how many pieces there are between two
pub pieces_between : (p n k c : ℕ) → 0 < p → k + 1 + c ≤ pieces_of p n
    → (k * p < min ((k + 1 + c) * p) n) × (pieces_of p (min ((k + 1 + c) * p) n - k * p) ≡ c + 1)
pieces_between p n k c some le =
    let begins : (k + c) * p < n = piece_begins p n (k + c) some (omega (arith, le)) in
    let size : ℕ = min ((k + 1 + c) * p) n - k * p in
    let filled : ℕ = min ((k + 1 + c) * p) n - k * p - p * c in
    let more : 0 < filled = omega (arith, begins, some) in
    let fits : filled ≤ p = omega (arith, begins, some) in
    let whole : size ≡ p * c + filled = omega (arith, begins, some) in
    (omega (arith, begins, some), ap (pieces_of p) whole ∙ cut_count_is p c filled more fits)

-- ---- the pieces of one file

start_up : (total parts part : ℕ) → start_of total parts part ≤ start_of total parts (part + 1)
start_up total parts part = let each : ℕ = total / parts in let next : each * (part + 1) ≡ each * part + each = omega arith in omega (arith, next)

module _ (p total parts before n : ℕ) (legal : 0 < p) where
  abbrev at : ℕ → ℕ
  at part = first_piece p total parts before n part

  abbrev all : ℕ
  all = pieces_of p (hashed n)

  chosen : (b : Bool) (x y : ℕ) → x ≤ y → (if b then y else x) ≤ y
  chosen true x y le = omega arith
  chosen false x y le = le

  pub at_most : (part : ℕ) → at part ≤ all
  at_most part = chosen (part == parts) (min all (pieces_of p (start_of total parts part - before))) all (omega arith)

  pub at_end : at parts ≡ all
  at_end = ap (λ b. (if b then all else min all (pieces_of p (start_of total parts parts - before)))) (eq-eqb parts parts refl)

  off : (part : ℕ) → part < parts → at part ≡ min all (pieces_of p (start_of total parts part - before))
  off part lt = ap (λ b. (if b then all else min all (pieces_of p (start_of total parts part - before)))) (ne_eqb part parts (λ is. omega (arith, is, lt)))

  pub at_start : 0 < parts → at 0 ≡ 0
  at_start some =
      let none : start_of total parts 0 - before ≡ 0 = omega arith in
      off 0 some ∙ ap (λ k. min all (pieces_of p k)) none ∙ ap (min all) (cut_count_none p legal) ∙ omega arith

  pub at_up : (part : ℕ) → part < parts → at part ≤ at (part + 1)
  at_up part lt = elim (cases_lt (part + 1) parts) [
    | inl more ↦
        let up = pieces_up p (start_of total parts part - before) (start_of total parts (part + 1) - before) legal
        (omega (arith, start_up total parts part)) in
        let here = off part lt in
        let next = off (part + 1) more in
        omega (arith, up, here, next)
    | inr last ↦
        let end : part + 1 ≡ parts = omega (arith, lt, last) in
        let next : at (part + 1) ≡ all = ap at end ∙ at_end in
        omega (arith, next, at_most part)
  ]
