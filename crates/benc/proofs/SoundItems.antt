-- An integer, a byte string or a key that is read is spelled so.
use Rattle.std.proofs.Common.{◌≡◌, ℕ, zero, suc, ◌<◌, ◌≤◌, ◌^◌, Bool, true, false, not, ◌&&◌, ◌||◌, cond, eqb, ltb, List, [], ◌∷◌, ◌++◌, length, get_or}
use Rattle.std.proofs.Common.{take, drop, Option, Some, None, Result, Ok, Err, ℤ, refl, sym, ap, ◌∙◌, subst, append_assoc, arith}
use Rattle.std.specs.Prelude.{IsTrue, FitsSigned}
use Rattle.std.specs.Int.{w64}
use Rattle.std.specs.List.{prefix_len}
use Rattle.std.specs.Fmt.{decimal, signed_decimal}
use Rattle.std.specs.Str.Parse.{digits_value, AllDigits}
use Rattle.std.proofs.lemmas.Bool.Decides.{nat_tests}
use Rattle.std.proofs.lemmas.Bool.{ltb-false, eqb-true, both_ways}
use Rattle.std.proofs.lemmas.List.{take-append-drop, length-take-le}
use Rattle.std.proofs.lemmas.Str.Parse.{IsNumeralModel, numerals_by_value, tells_digits, digits_value_short}
use Rattle.std.proofs.lemmas.Fmt.{decimal-digits_value, decimal_digit}
use Rattle.benc.specs.declared.fault.FaultKind.{FaultKind}
use Rattle.benc.specs.declared.fault.FaultKind.TheVariants.{Truncated, BadStart, BadInteger, IntegerRange, BadLength, KeyOrder}
use Rattle.benc.specs.Spelling.{string, integer, IsAbove}
use Rattle.benc.specs.Digits.{is_digit, digits_of_front, after_digits, signed, in_range, IsDigitRun}
use Rattle.benc.specs.Spelling.{is_above}
use Rattle.benc.specs.Items.{is_plain_run, integer_of, digits_at, integer_at, string_of, string_at, in_order, key_at}
use Rattle.benc.proofs.Digits.{digit_high, digit_low, digit_value_is, front_is_run}

-- tests that did not fail
guard_no : {A E : Type 0} (b : Bool) (e : E) (r : Result A E) (y : A) → cond b (Err e) r ≡ Ok y → (b ≡ false) × (r ≡ Ok y)
guard_no true e r y h = absurd cc
guard_no false e r y h = (refl, h)

guard_yes : {A E : Type 0} (b : Bool) (e : E) (x y : A) → cond b (Ok x) (Err e) ≡ Ok y → (b ≡ true) × (x ≡ y)
guard_yes true e x y h = (refl, cc)
guard_yes false e x y h = absurd cc

three : (p q r : Bool) → (not p || not q || r) ≡ false → (p ≡ true) × (q ≡ true) × (r ≡ false)
three true true true h = absurd cc
three true true false h = (refl, refl, refl)
three true false r h = absurd cc
three false q r h = absurd cc

plain_facts : (run : List ℕ) → is_plain_run run ≡ true → (0 < length run) × (get_or run 0 0 ≡ 48 → length run ≡ 1)
plain_facts [] h = absurd cc
plain_facts (c ∷ cs) h = (omega arith, λ e. grind (arith, nat_tests, e, h))

own : IsNumeralModel (AllDigits 10) (digits_value 10)
own = numerals_by_value (AllDigits 10) tells_digits

run_digits : (run : List ℕ) → IsDigitRun run → AllDigits 10 run
run_digits [] h = tt
run_digits (c ∷ cs) h =
    let d : IsTrue (is_digit c) = h 0 (omega arith) in
    (omega (arith, digit_value_is c d, digit_high c d, digit_low c d), run_digits cs (λ i lt. h (suc i) (omega arith)))

run_decimal : (run : List ℕ) → IsDigitRun run → is_plain_run run ≡ true → digits_value 10 run < 2 ^ 64 → decimal (digits_value 10 run) ≡ run
run_decimal run h plain small = let facts = plain_facts run plain in decimal-digits_value own run (run_digits run h) facts.0 facts.1 small

abbrev done : {A E : Type 0} → E → A → Result A E
done e x = Ok x

ok_is : {A : Type 0} (x y : A) → done {E = FaultKind} Truncated x ≡ done Truncated y → x ≡ y
ok_is x y e = cc

-- the digits of a signed number
signed_text : (minus : Bool) (run : List ℕ) → IsDigitRun run → is_plain_run run ≡ true → (minus && eqb (get_or run 0 0) 48) ≡ false
    → in_range minus (digits_value 10 run) ≡ true
    → FitsSigned w64 (signed minus (digits_value 10 run)) × (signed_decimal (signed minus (digits_value 10 run)) ≡ cond minus (45 ∷ run) run)
signed_text false run h plain nz inside =
    let small : digits_value 10 run < 2 ^ 63 = grind (arith, nat_tests, inside) in
    (record { sfits = small }, run_decimal run h plain (omega arith))
signed_text true run h plain nz inside =
    let small : digits_value 10 run ≤ 2 ^ 63 = grind (arith, nat_tests, inside) in
    below_zero (digits_value 10 run) refl small
  where
    below_zero : (n : ℕ) → digits_value 10 run ≡ n → n ≤ 2 ^ 63 → FitsSigned w64 (signed true n) × (signed_decimal (signed true n) ≡ 45 ∷ run)
    below_zero zero e le =
        let zero_text : (48 ∷ []) ≡ run = sym (decimal_digit 0 (omega arith)) ∙ ap decimal (sym e) ∙ run_decimal run h plain (omega arith) in
        absurd (both_ways (eqb (get_or run 0 0) 48) nz (subst (λ r. (eqb (get_or r 0 0) 48) ≡ true) zero_text refl))
    below_zero (suc n) e le = (record { sfits = omega arith }, ap (λ r. 45 ∷ r) (ap decimal (sym e) ∙ run_decimal run h plain (omega arith)))

integer_of_takes : (minus : Bool) (run after : List ℕ) (z : ℤ) (rest : List ℕ) → IsDigitRun run → integer_of minus run after ≡ Ok (z, rest)
    → (after ≡ 101 ∷ rest) × FitsSigned w64 z × (signed_decimal z ≡ cond minus (45 ∷ run) run)
integer_of_takes minus run [] z rest h e = absurd cc
integer_of_takes minus run (c ∷ after) z rest h e =
    let a = guard_no _ BadInteger _ (z, rest) e in
    let t = three (eqb c 101) (is_plain_run run) (minus && eqb (get_or run 0 0) 48) a.0 in
    let b = guard_yes (in_range minus (digits_value 10 run)) IntegerRange (signed minus (digits_value 10 run), after) (z, rest) a.1 in
    let is_z : signed minus (digits_value 10 run) ≡ z = ap (λ (p : ℤ × List ℕ). p.0) b.1 in
    let is_rest : after ≡ rest = ap (λ (p : ℤ × List ℕ). p.1) b.1 in
    let is_mark : c ≡ 101 = eqb-true c 101 t.0 in
    let s = signed_text minus run h t.1 t.2 b.0 in
    (rw (is_mark, is_rest) refl, subst (λ y. FitsSigned w64 y) is_z s.0, ap signed_decimal (sym is_z) ∙ s.1)

digits_take : (minus : Bool) (bytes : List ℕ) (z : ℤ) (rest : List ℕ) → digits_at minus bytes ≡ Ok (z, rest)
    → FitsSigned w64 z × (cond minus (45 ∷ bytes) bytes ≡ signed_decimal z ++ 101 ∷ rest)
digits_take minus bytes z rest e =
    let t = integer_of_takes minus (digits_of_front bytes) (after_digits bytes) z rest (front_is_run bytes) e in
    let parts : digits_of_front bytes ++ after_digits bytes ≡ bytes = take-append-drop (prefix_len is_digit bytes) bytes in
    (t.1, with_sign minus (digits_of_front bytes) (after_digits bytes) parts t.0 t.2)
  where
    with_sign : (m : Bool) (run after : List ℕ) → run ++ after ≡ bytes → after ≡ 101 ∷ rest → signed_decimal z ≡ cond m (45 ∷ run) run
        → cond m (45 ∷ bytes) bytes ≡ signed_decimal z ++ 101 ∷ rest
    with_sign true run after p q r = ap (λ b. 45 ∷ b) (sym p ∙ ap (λ t. run ++ t) q) ∙ ap (λ t. t ++ 101 ∷ rest) (sym r)
    with_sign false run after p q r = sym p ∙ ap (λ t. run ++ t) q ∙ ap (λ t. t ++ 101 ∷ rest) (sym r)

pub integer_takes : (bytes : List ℕ) (z : ℤ) (rest : List ℕ) → integer_at bytes ≡ Ok (z, rest) → FitsSigned w64 z × (105 ∷ bytes ≡ integer z ++ rest)
integer_takes [] z rest e = absurd cc
integer_takes (c ∷ bytes) z rest e = by_sign (eqb c 45) refl e
  where
    spelled : (b : List ℕ) → (b ≡ signed_decimal z ++ 101 ∷ rest) → 105 ∷ b ≡ integer z ++ rest
    spelled b p = ap (λ t. 105 ∷ t) (p ∙ sym (append_assoc (signed_decimal z) (101 ∷ []) rest))

    by_sign : (m : Bool) → eqb c 45 ≡ m → cond m (digits_at true bytes) (digits_at false (c ∷ bytes)) ≡ Ok (z, rest)
        → FitsSigned w64 z × (105 ∷ c ∷ bytes ≡ integer z ++ rest)
    by_sign true s f = let d = digits_take true bytes z rest f in (d.0, spelled (c ∷ bytes) (ap (λ x. x ∷ bytes) (eqb-true c 45 s) ∙ d.1))
    by_sign false s f = let d = digits_take false (c ∷ bytes) z rest f in (d.0, spelled (c ∷ bytes) d.1)

fits_64_bits : (n : ℕ) → n < 10 ^ 10 → n < 2 ^ 64
fits_64_bits n h = omega arith

string_of_takes : (run after s rest : List ℕ) → IsDigitRun run → string_of run after ≡ Ok (s, rest) → (length s < 10 ^ 10) × (run ≡ decimal (length s))
    × (after ≡ 58 ∷ (s ++ rest))
string_of_takes run [] s rest h e = absurd cc
string_of_takes run (c ∷ after) s rest h e =
    let n = digits_value 10 run in
    let a = guard_no _ BadLength _ (s, rest) e in
    let t = three (eqb c 58) (is_plain_run run) (ltb 10 (length run)) a.0 in
    let b = guard_no (ltb (length after) n) Truncated (Ok (take n after, drop n after)) (s, rest) a.1 in
    let parts : (take n after, drop n after) ≡ (s, rest) = ok_is _ _ b.1 in
    let is_s : take n after ≡ s = ap (λ (p : List ℕ × List ℕ). p.0) parts in
    let is_rest : drop n after ≡ rest = ap (λ (p : List ℕ × List ℕ). p.1) parts in
    let is_mark : c ≡ 58 = eqb-true c 58 t.0 in
    let few : length run ≤ 10 = ltb-false _ _ t.2 in
    let enough : n ≤ length after = ltb-false _ _ b.0 in
    let smaller : n < 10 ^ 10 = digits_value_short own run 10 (run_digits run h) few in
    let len : length s ≡ n = ap length (sym is_s) ∙ length-take-le n after enough in (
      subst (λ k. k < 10 ^ 10) (sym len) smaller,
      sym (run_decimal run h t.1 (fits_64_bits n smaller)) ∙ ap decimal (sym len),
      rw (is_mark, ← is_s, ← is_rest, take-append-drop n after) refl,
    )

pub string_takes : (bytes s rest : List ℕ) → string_at bytes ≡ Ok (s, rest) → (length s < 10 ^ 10) × (bytes ≡ string s ++ rest)
string_takes bytes s rest e =
    let t = string_of_takes (digits_of_front bytes) (after_digits bytes) s rest (front_is_run bytes) e in
    let parts : digits_of_front bytes ++ after_digits bytes ≡ bytes = take-append-drop (prefix_len is_digit bytes) bytes in
    (t.0, sym parts ∙ rw (t.1, t.2) (sym (append_assoc (decimal (length s)) (58 ∷ s) rest)))

above : (k : List ℕ) (before : Option (List ℕ)) → is_above k before ≡ true → IsAbove k before
above k None h = tt
above k (Some last) h = grind (arith, nat_tests, h)

ordered : (before : Option (List ℕ)) (r : Result (List ℕ × List ℕ) FaultKind) (k : List ℕ × List ℕ) → in_order before r ≡ Ok k → (r ≡ Ok k) × IsAbove k.0 before
ordered before (Ok x) k e =
    let g = guard_yes (is_above x.0 before) KeyOrder x k e in
    (ap (λ y. Ok y) g.1, subst (λ (y : List ℕ × List ℕ). IsAbove y.0 before) g.1 (above x.0 before g.0))
ordered before (Err f) k e = absurd cc

pub key_takes : (before : Option (List ℕ)) (bytes k rest : List ℕ) → key_at before bytes ≡ Ok (k, rest) → (length k < 10 ^ 10) × IsAbove k before
    × (bytes ≡ string k ++ rest)
key_takes before [] k rest e = absurd cc
key_takes before (c ∷ bytes) k rest e =
    let g = guarded (is_digit c) e in
    let o = ordered before (string_at (c ∷ bytes)) (k, rest) g in
    let s = string_takes (c ∷ bytes) k rest o.0 in
    (s.0, o.1, s.1)
  where
    guarded : (b : Bool) → cond b (in_order before (string_at (c ∷ bytes))) (Err BadStart) ≡ Ok (k, rest)
        → in_order before (string_at (c ∷ bytes)) ≡ Ok (k, rest)
    guarded true h = h
    guarded false h = absurd cc
