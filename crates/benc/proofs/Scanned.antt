-- The fault of an item by reading it, and that it is the fault that the table has.
use Rattle.std.proofs.Common.{◌≡◌, ℕ, suc, Bool, true, false, not, ◌&&◌, ◌||◌, ◌==◌, if◌then◌else◌, cond, eqb, ltb, List, [], ◌∷◌, ◌++◌, length, get_or, take}
use Rattle.std.proofs.Common.{drop, Option, Some, None, Result, Ok, Err, refl, sym, ap, ◌∙◌, arith}
use Rattle.std.specs.List.{prefix_len}
use Rattle.std.specs.Str.Parse.{digits_value}
use Rattle.std.proofs.lemmas.Bool.Decides.{nat_tests}
use Rattle.std.proofs.lemmas.Bool.{eqb-true}
use Rattle.benc.specs.Digits.{after_digits, digits_of_front, in_range, is_digit, signed}
use Rattle.benc.specs.Spelling.{is_above}
use Rattle.benc.specs.Items.{in_order, integer_at, integer_of, is_plain_run, key_at, string_at, string_of}
use Rattle.benc.specs.Table.{FaultRow, first_row_fault, has_leading_zero, has_ended, digit_rows, integer_rows, is_zero, key_rows, length_rows}
use Rattle.benc.specs.Table.{bytes_after_colon, string_rows}
use Rattle.benc.specs.Table.{unless_end, value_rows}
use Rattle.benc.specs.Fails.{Due, a_key_or_end, a_value, a_value_or_end, item_fault}
use Rattle.benc.specs.declared.fault.FaultKind.{FaultKind}
use Rattle.benc.specs.declared.fault.FaultKind.TheVariants.{Truncated, BadStart, BadInteger, IntegerRange, BadLength, KeyOrder, TooDeep}
use Rattle.benc.proofs.Turns.{is_other}

abbrev pub fault_of : {A : Type 0} → Result A FaultKind → Option FaultKind
fault_of (Ok x) = None
fault_of (Err f) = Some f

abbrev pub value_fault : ℕ → List ℕ → Option FaultKind
value_fault left [] = Some Truncated
value_fault left (c ∷ rest) =
    if c == 105 then fault_of (integer_at rest)
    else (if (c == 108) || (c == 100) then (if left == 0 then Some TooDeep else None)
    else (if is_digit c then fault_of (string_at (c ∷ rest)) else Some BadStart))

abbrev pub fault_unless_end : List ℕ → Option FaultKind → Option FaultKind
fault_unless_end [] f = f
fault_unless_end (c ∷ rest) f = if c == 101 then None else f

-- what reading an item that is due fails with
abbrev pub scanned_fault : Due → ℕ → List ℕ → Option FaultKind
scanned_fault a_value left bytes = value_fault left bytes
scanned_fault a_value_or_end left bytes = fault_unless_end bytes (value_fault left bytes)
scanned_fault (a_key_or_end before) left bytes = fault_unless_end bytes (fault_of (key_at before bytes))

-- a run is in its one form exactly if it is not empty and has no leading zero
plain_is : (run : List ℕ) → is_plain_run run ≡ not (has_ended run || has_leading_zero run)
plain_is [] = refl
plain_is (d ∷ []) = by_zero (eqb d 48)
  where
    by_zero : (b : Bool) → (not b || true) ≡ true
    by_zero true = refl
    by_zero false = refl
plain_is (d ∷ e ∷ run) =
    let long : ltb 0 (length (d ∷ e ∷ run)) ≡ true = grind (arith, nat_tests) in
    let more : eqb (length (d ∷ e ∷ run)) 1 ≡ false = is_other _ 1 (λ h. omega arith) in
    rw (long, more) (by_zero (eqb d 48))
  where
    by_zero : (b : Bool) → (true && (not b || false)) ≡ not (false || b)
    by_zero true = refl
    by_zero false = refl

-- `0` behind '-', or a number with a leading zero
zero_is : (run : List ℕ) (m : Bool) → (not (is_plain_run run) || (m && eqb (get_or run 0 0) 48)) ≡ (has_ended run || has_leading_zero run || (m && is_zero run))
zero_is [] m = refl
zero_is (d ∷ []) m = by_zero (eqb d 48) m
  where
    by_zero : (b m : Bool) → (not (true && (not b || true)) || (m && b)) ≡ (m && b)
    by_zero true m = refl
    by_zero false m = refl
zero_is (d ∷ e ∷ run) m = rw (plain_is (d ∷ e ∷ run)) (by_zero (eqb d 48) m)
  where
    by_zero : (b m : Bool) → (not (not (false || b)) || (m && b)) ≡ (false || b || (m && false))
    by_zero true m = refl
    by_zero false true = refl
    by_zero false false = refl

or_assoc : (a b c : Bool) → (a || b || c) ≡ (a || (b || c))
or_assoc true b c = refl
or_assoc false b c = refl

or_four : (a b c d : Bool) → (a || b || c || d) ≡ (a || (b || c || d))
or_four true b c d = refl
or_four false b c d = refl

-- a guard, and what it guards
two_rows : {A : Type 0} (a b : Bool) (f g : FaultKind) (x : A) → fault_of (cond a (Err f) (cond b (Ok x) (Err g))) ≡ first_row_fault ((a, f) ∷ (not b, g) ∷ [])
two_rows true b f g x = refl
two_rows false true f g x = refl
two_rows false false f g x = refl

digits_scanned : (minus : Bool) (run after : List ℕ) → fault_of (integer_of minus run after) ≡ first_row_fault (digit_rows minus run after)
digits_scanned minus run [] = refl
digits_scanned minus run (c ∷ rest) =
    let n = digits_value 10 run in
    let test : (not (eqb c 101) || not (is_plain_run run) || (minus && eqb (get_or run 0 0) 48)) ≡ (not (eqb c 101) || has_ended run || has_leading_zero
    run || (minus && is_zero run)) =
    or_assoc (not (eqb c 101)) (not (is_plain_run run)) (minus && eqb (get_or run 0 0) 48) ∙ ap (λ b. not (eqb c 101) || b) (zero_is run minus)
    ∙ sym (or_four (not (eqb c 101)) (has_ended run) (has_leading_zero run) (minus && is_zero run)) in
    two_rows _ (in_range minus n) BadInteger IntegerRange (signed minus n, rest)
    ∙ ap (λ b. cond b (Some BadInteger) (cond (not (in_range minus n)) (Some IntegerRange) None)) test

integer_scanned : (bytes : List ℕ) → fault_of (integer_at bytes) ≡ first_row_fault (integer_rows bytes)
integer_scanned [] = digits_scanned false (digits_of_front []) (after_digits [])
integer_scanned (c ∷ rest) = by_sign (eqb c 45)
  where
    by_sign : (m : Bool) → fault_of (cond m (integer_of true (digits_of_front rest) (after_digits rest))
        (integer_of false (digits_of_front (c ∷ rest)) (after_digits (c ∷ rest))))
        ≡ first_row_fault (digit_rows m (digits_of_front (cond m rest (c ∷ rest))) (after_digits (cond m rest (c ∷ rest))))
    by_sign true = digits_scanned true (digits_of_front rest) (after_digits rest)
    by_sign false = digits_scanned false (digits_of_front (c ∷ rest)) (after_digits (c ∷ rest))

-- the test of a length, whose run is not empty
length_test : (a s : Bool) (run : List ℕ) → has_ended run ≡ false → (a || not (is_plain_run run) || s) ≡ (a || has_leading_zero run || s)
length_test a s run some = ap (λ b. a || not b || s) (plain_is run ∙ ap (λ b. not (b || has_leading_zero run)) some)
    ∙ ap (λ b. a || b || s) (twice (has_leading_zero run))
  where
    twice : (b : Bool) → not (not (false || b)) ≡ b
    twice true = refl
    twice false = refl

-- a guard, a second one, and then a last test of what was read
more_rows : (a b : Bool) (f g h : FaultKind) (before : Option (List ℕ)) (k : List ℕ × List ℕ)
    → fault_of (in_order before (cond a (Err f) (cond b (Err g) (Ok k)))) ≡ first_row_fault ((a, f) ∷ (b, g) ∷ (not (is_above k.0 before), KeyOrder) ∷ [])
more_rows true b f g h before k = refl
more_rows false true f g h before k = refl
more_rows false false f g h before k = by_order (is_above k.0 before)
  where
    by_order : (o : Bool) → fault_of (cond o (Ok k) (Err KeyOrder)) ≡ first_row_fault ((not o, KeyOrder) ∷ [])
    by_order true = refl
    by_order false = refl

plain_rows : (a b : Bool) (f g : FaultKind) (k : List ℕ × List ℕ) → fault_of (cond a (Err f) (cond b (Err g) (Ok k))) ≡ first_row_fault ((a, f) ∷ (b, g) ∷ [])
plain_rows true b f g k = refl
plain_rows false true f g k = refl
plain_rows false false f g k = refl

string_scanned : (run after : List ℕ) → has_ended run ≡ false → fault_of (string_of run after) ≡ first_row_fault (length_rows run after)
string_scanned run [] some = refl
string_scanned run (c ∷ rest) some =
    let n = digits_value 10 run in
    plain_rows _ (ltb (length rest) n) BadLength Truncated (take n rest, drop n rest)
    ∙ ap (λ b. cond b (Some BadLength) (cond (ltb (length rest) n) (Some Truncated) None)) (length_test (not (eqb c 58)) (ltb 10 (length run)) run some)

key_scanned : (run after : List ℕ) (before : Option (List ℕ)) → has_ended run ≡ false
    → fault_of (in_order before (string_of run after)) ≡ first_row_fault (length_rows run after ++ (
      not (is_above (take (digits_value 10 run) (drop 1 after)) before),
      KeyOrder,
    ) ∷ [])
key_scanned run [] before some = refl
key_scanned run (c ∷ rest) before some =
    let n = digits_value 10 run in
    more_rows _ (ltb (length rest) n) BadLength Truncated KeyOrder before (take n rest, drop n rest)
    ∙ ap (λ b. cond b (Some BadLength) (cond (ltb (length rest) n) (Some Truncated) (cond (not (is_above (take n rest) before)) (Some KeyOrder) None)))
    (length_test (not (eqb c 58)) (ltb 10 (length run)) run some)

-- a run is not empty behind a digit
starts : (c : ℕ) (rest : List ℕ) → is_digit c ≡ true → has_ended (digits_of_front (c ∷ rest)) ≡ false
starts c rest d =
    let some : prefix_len is_digit (c ∷ rest) ≡ suc (prefix_len is_digit rest) = rw d (omega arith) in
    rw some refl

value_scanned : (left : ℕ) (bytes : List ℕ) → value_fault left bytes ≡ first_row_fault (value_rows left bytes)
value_scanned left [] = refl
value_scanned left (c ∷ rest) = by_i (eqb c 105) (eqb c 108) (eqb c 100) (is_digit c) refl refl refl
  where
    goal : (i l d m : Bool) → Type 0
    goal i l d m =
        cond i (fault_of (integer_at rest)) (cond (l || d) (cond (eqb left 0) (Some TooDeep) None) (cond m (fault_of (string_at (c ∷ rest))) (Some BadStart)))
        ≡ first_row_fault (cond i (integer_rows rest) (cond m (string_rows (c ∷ rest)) ((not (l || d), BadStart) ∷ (eqb left 0, TooDeep) ∷ [])))

    no_digit : (x : ℕ) → eqb c x ≡ true → is_digit x ≡ false → is_digit c ≡ true → ⊥
    no_digit x e n y = let no : true ≡ false = sym y ∙ ap is_digit (eqb-true c x e) ∙ n in absurd cc

    by_i : (i l d m : Bool) → eqb c 108 ≡ l → eqb c 100 ≡ d → is_digit c ≡ m → goal i l d m
    by_i true l d m p q r = integer_scanned rest
    by_i false true d true p q r = absurd (no_digit 108 p refl r)
    by_i false true d false p q r = refl
    by_i false false true true p q r = absurd (no_digit 100 q refl r)
    by_i false false true false p q r = refl
    by_i false false false true p q r = string_scanned (digits_of_front (c ∷ rest)) (after_digits (c ∷ rest)) (starts c rest r)
    by_i false false false false p q r = refl

keys_scanned : (before : Option (List ℕ)) (bytes : List ℕ) → fault_of (key_at before bytes) ≡ first_row_fault (key_rows before bytes)
keys_scanned before [] = refl
keys_scanned before (c ∷ rest) = by_digit (is_digit c) refl
  where
    by_digit : (m : Bool) → is_digit c ≡ m → fault_of (cond m (in_order before (string_at (c ∷ rest))) (Err BadStart))
        ≡ first_row_fault
        ((false, Truncated) ∷ (not m, BadStart) ∷ (string_rows (c ∷ rest) ++ (not (is_above (bytes_after_colon (c ∷ rest)) before), KeyOrder) ∷ []))
    by_digit true e = key_scanned (digits_of_front (c ∷ rest)) (after_digits (c ∷ rest)) before (starts c rest e)
    by_digit false e = refl

end_scanned : (bytes : List ℕ) (f : Option FaultKind) (rows : List FaultRow) → f ≡ first_row_fault rows
    → fault_unless_end bytes f ≡ first_row_fault (unless_end bytes rows)
end_scanned [] f rows e = e
end_scanned (c ∷ rest) f rows e = by_end (eqb c 101)
  where
    by_end : (b : Bool) → cond b None f ≡ first_row_fault (cond b [] rows)
    by_end true = refl
    by_end false = e

-- reading fails with the fault that the table has
pub table_is : (due : Due) (left : ℕ) (bytes : List ℕ) → scanned_fault due left bytes ≡ item_fault due left bytes
table_is a_value left bytes = value_scanned left bytes
table_is a_value_or_end left bytes = end_scanned bytes (value_fault left bytes) (value_rows left bytes) (value_scanned left bytes)
table_is (a_key_or_end before) left bytes = end_scanned bytes (fault_of (key_at before bytes)) (key_rows before bytes) (keys_scanned before bytes)
