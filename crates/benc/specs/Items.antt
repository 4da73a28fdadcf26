-- The parser's own contracts cite these, no public clause does; the table and `Fails` are the
-- definition. Reading one item from the front (BEP 3, "bencoding"): what it is and what follows it,
-- or its fault.
use Rattle.std.specs.Prelude.{◌≡◌, ℕ, ℤ, Bool, true, false, not, ◌&&◌, ◌||◌, ◌==◌, nat_lt, if◌then◌else◌, List, [], ◌∷◌, length, take, drop, slice_index}
use Rattle.std.specs.Prelude.{Option, Result, Ok, Err}
use Rattle.std.specs.Str.Parse.{digits_value}
use Rattle.benc.specs.Ascii.{colon, digit_zero, end_mark, minus_sign}
use Rattle.benc.specs.Digits.{after_digits, digits_of_front, in_range, is_digit, signed}
use Rattle.benc.specs.Spelling.{is_above}
use Rattle.benc.specs.declared.fault.FaultKind.{FaultKind}
use Rattle.benc.specs.declared.fault.FaultKind.TheVariants.{Truncated, BadStart, BadInteger, IntegerRange, BadLength, KeyOrder}

-- digits with no leading zero, but for `0` itself
abbrev pub is_plain_run : List ℕ → Bool
is_plain_run run =
    nat_lt 0 (length run) && (not (slice_index run 0 == digit_zero) || (length run == 1))

-- the digits have been read: what follows them
abbrev pub integer_of : Bool → List ℕ → List ℕ → Result (ℤ × List ℕ) FaultKind
integer_of minus run [] = Err Truncated
integer_of minus run (c ∷ rest) =
    let n = digits_value 10 run in
    let is_bad = not (c == end_mark) || not (is_plain_run run)
    || (minus && (slice_index run 0 == digit_zero)) in
    if is_bad then Err BadInteger
    else (if in_range minus n then Ok (signed minus n, rest) else Err IntegerRange)

-- an integer, after its sign
abbrev pub digits_at : Bool → List ℕ → Result (ℤ × List ℕ) FaultKind
digits_at minus bytes = integer_of minus (digits_of_front bytes) (after_digits bytes)

-- an integer, after its `i`
abbrev pub integer_at : List ℕ → Result (ℤ × List ℕ) FaultKind
integer_at [] = digits_at false []
integer_at (c ∷ rest) = if c == minus_sign then digits_at true rest else digits_at false (c ∷ rest)

-- the digits of the length have been read: the bytes after the colon, and what follows them
abbrev pub string_of : List ℕ → List ℕ → Result (List ℕ × List ℕ) FaultKind
string_of run [] = Err Truncated
string_of run (c ∷ rest) =
    if not (c == colon) || not (is_plain_run run) || nat_lt 10 (length run) then Err BadLength
    else (if nat_lt (length rest) (digits_value 10 run) then Err Truncated
    else Ok (take (digits_value 10 run) rest, drop (digits_value 10 run) rest))

-- a byte string, which begins with a digit
abbrev pub string_at : List ℕ → Result (List ℕ × List ℕ) FaultKind
string_at bytes = string_of (digits_of_front bytes) (after_digits bytes)

-- a key that was read, if it is above the one before it
abbrev pub in_order : Option (List ℕ) → Result (List ℕ × List ℕ) FaultKind
    → Result (List ℕ × List ℕ) FaultKind
in_order before (Ok k) = if is_above k.0 before then Ok k else Err KeyOrder
in_order before (Err f) = Err f

-- a key above the one before it
abbrev pub key_at : Option (List ℕ) → List ℕ → Result (List ℕ × List ℕ) FaultKind
key_at before [] = Err Truncated
key_at before (c ∷ rest) =
    if is_digit c then in_order before (string_at (c ∷ rest)) else Err BadStart

-- what a function of the code returned, seen by view, is what is read
abbrev pub ReadsAs : {X Y E : Type 0} → (X → Y) → Result X E → Result Y E → Type 0
ReadsAs view (Ok x) known = known ≡ Ok (view x)
ReadsAs view (Err e) known = known ≡ Err e
