-- The table of faults (BEP 3, "bencoding"; the order of the faults is this project's profile). Each
-- row is a test of the input from the place where an item is due, and the fault that comes if no
-- row above it holds.
use Rattle.std.specs.Prelude.{ℕ, Bool, true, false, not, ◌&&◌, ◌||◌, ◌==◌, nat_lt, if◌then◌else◌, List, [], ◌∷◌, ◌++◌, length, take, drop, Option, Some, None}
use Rattle.std.specs.Str.Parse.{digits_value}
use Rattle.benc.specs.Ascii.{minus_sign, digit_zero, colon, dict_mark, integer_mark, list_mark, end_mark}
use Rattle.benc.specs.Digits.{is_digit, digits_of_front, after_digits, in_range}
use Rattle.benc.specs.Spelling.{is_above}
use Rattle.benc.specs.declared.fault.FaultKind.{FaultKind}
use Rattle.benc.specs.declared.fault.FaultKind.TheVariants.{Truncated, BadStart, BadInteger, IntegerRange, BadLength, KeyOrder, TooDeep}

-- whether the test of the row holds, and its fault
abbrev pub FaultRow : Type 0
FaultRow = Bool × FaultKind

-- the fault of the first row whose test holds
abbrev pub first_row_fault : List FaultRow → Option FaultKind
first_row_fault [] = None
first_row_fault (row ∷ rows) = if row.0 then Some row.1 else first_row_fault rows

-- the input has ended
abbrev pub has_ended : List ℕ → Bool
has_ended [] = true
has_ended (c ∷ rest) = false

-- the next byte is this one
abbrev pub starts_with : ℕ → List ℕ → Bool
starts_with byte [] = false
starts_with byte (c ∷ rest) = c == byte

-- the next byte is a digit
abbrev pub starts_with_digit : List ℕ → Bool
starts_with_digit [] = false
starts_with_digit (c ∷ rest) = is_digit c

-- a run of two digits or more, the first of which is 0
abbrev pub has_leading_zero : List ℕ → Bool
has_leading_zero [] = false
has_leading_zero (d ∷ []) = false
has_leading_zero (d ∷ e ∷ run) = d == digit_zero

-- the run `0`
abbrev pub is_zero : List ℕ → Bool
is_zero [] = false
is_zero (d ∷ []) = d == digit_zero
is_zero (d ∷ e ∷ run) = false

-- an integer, after `i` and an optional `-`: the longest run of digits, and what follows it
abbrev pub digit_rows : Bool → List ℕ → List ℕ → List FaultRow
digit_rows minus run after =
    (has_ended after, Truncated)
    ∷ (
      not (starts_with end_mark after) || has_ended run || has_leading_zero run
          || (minus && is_zero run),
      BadInteger,
    )
    ∷ (not (in_range minus (digits_value 10 run)), IntegerRange)
    ∷ []

-- an integer, after its `i`
abbrev pub integer_rows : List ℕ → List FaultRow
integer_rows bytes =
    let minus = starts_with minus_sign bytes in
    let number = if minus then drop 1 bytes else bytes in
    digit_rows minus (digits_of_front number) (after_digits number)

-- a byte string: the longest run of digits at its front, and what follows it
abbrev pub length_rows : List ℕ → List ℕ → List FaultRow
length_rows run after =
    (has_ended after, Truncated)
    ∷ (not (starts_with colon after) || has_leading_zero run || nat_lt 10 (length run), BadLength)
    ∷ (nat_lt (length (drop 1 after)) (digits_value 10 run), Truncated)
    ∷ []

-- a byte string
abbrev pub string_rows : List ℕ → List FaultRow
string_rows bytes = length_rows (digits_of_front bytes) (after_digits bytes)

-- the bytes after the colon, as many as the run says
abbrev pub bytes_after_colon : List ℕ → List ℕ
bytes_after_colon bytes =
    take (digits_value 10 (digits_of_front bytes)) (drop 1 (after_digits bytes))

-- a value, if `left` more lists and dictionaries may be opened
abbrev pub value_rows : ℕ → List ℕ → List FaultRow
value_rows left [] = (true, Truncated) ∷ []
value_rows left (c ∷ rest) =
    if c == integer_mark then integer_rows rest
    else (if is_digit c then string_rows (c ∷ rest)
    else (not ((c == list_mark) || (c == dict_mark)), BadStart) ∷ (left == 0, TooDeep) ∷ [])

-- a key, after the one before it
abbrev pub key_rows : Option (List ℕ) → List ℕ → List FaultRow
key_rows before bytes =
    (has_ended bytes, Truncated)
    ∷ (not (starts_with_digit bytes), BadStart)
    ∷ (string_rows bytes ++ (not (is_above (bytes_after_colon bytes) before), KeyOrder) ∷ [])

-- the end mark, in the place of a value or a key, is no fault
abbrev pub unless_end : List ℕ → List FaultRow → List FaultRow
unless_end bytes rows = if starts_with end_mark bytes then [] else rows
