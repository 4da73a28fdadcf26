-- Runs of base-ten digits, and the numbers that they write (BEP 3, "bencoding").
use Rattle.std.specs.Prelude.{ℕ, zero, suc, ◌<◌, ◌^◌, ℤ, pos, negsuc, Bool, true, false, ◌&&◌, nat_lt, nat_le, if◌then◌else◌, IsTrue, List, length, take, drop}
use Rattle.std.specs.Prelude.{slice_index}
use Rattle.std.specs.List.{prefix_len}
use Rattle.benc.specs.Ascii.{digit_zero, digit_nine}

-- a digit in base ten
abbrev pub is_digit : ℕ → Bool
is_digit c = nat_le digit_zero c && nat_le c digit_nine

-- a run of digits
abbrev pub IsDigitRun : List ℕ → Type 0
IsDigitRun run = (i : ℕ) → i < length run → IsTrue (is_digit (slice_index run i))

-- the longest run of digits at the front
abbrev pub digits_of_front : List ℕ → List ℕ
digits_of_front bytes = take (prefix_len is_digit bytes) bytes

-- what follows it
abbrev pub after_digits : List ℕ → List ℕ
after_digits bytes = drop (prefix_len is_digit bytes) bytes

-- the number of a sign and a magnitude
abbrev pub signed : Bool → ℕ → ℤ
signed false n = pos n
signed true zero = pos 0
signed true (suc n) = negsuc n

-- it fits 64 bits
abbrev pub in_range : Bool → ℕ → Bool
in_range minus n = if minus then nat_le n (2 ^ 63) else nat_lt n (2 ^ 63)
