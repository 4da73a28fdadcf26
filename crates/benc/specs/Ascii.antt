-- The bytes of bencoding's syntax by name (BEP 3, "bencoding").
use Rattle.std.specs.Prelude.{ℕ}

-- '-'
abbrev pub minus_sign : ℕ
minus_sign = 45

-- '0'
abbrev pub digit_zero : ℕ
digit_zero = 48

-- '9'
abbrev pub digit_nine : ℕ
digit_nine = 57

-- ':', after the length of a byte string
abbrev pub colon : ℕ
colon = 58

-- 'd', which begins a dictionary
abbrev pub dict_mark : ℕ
dict_mark = 100

-- 'i', which begins an integer
abbrev pub integer_mark : ℕ
integer_mark = 105

-- 'l', which begins a list
abbrev pub list_mark : ℕ
list_mark = 108

-- 'e', which ends each of them
abbrev pub end_mark : ℕ
end_mark = 101
