-- Names and paths as they are printed.
use Rattle.std.specs.Prelude.{ℕ, List, [], ◌∷◌, ◌++◌, codes, Bool, nat_lt, ◌==◌, ◌||◌, if◌then◌else◌}
use Rattle.std.specs.List.{flat_map, join_with_byte}
use Rattle.hex.specs.Hex.{encode_lower}
use Rattle.printing.specs.Ascii.{backslash, delete, slash, space}

-- the byte is not printed as it stands: it is below the space, the
-- delete character or the backslash
abbrev pub is_special : ℕ → Bool
is_special b = nat_lt b space || (b == delete || b == backslash)

-- a byte as it is printed: a special one as `\x` and two hexadecimal digits
abbrev pub escape_of : ℕ → List ℕ
escape_of b = (if is_special b then codes "\\x" ++ encode_lower (b ∷ []) else b ∷ [])

-- a text as it is printed
abbrev pub escaped : List ℕ → List ℕ
escaped text = flat_map escape_of text

-- a path as it is printed: its components, joined by `/`
abbrev pub path_text : List (List ℕ) → List ℕ
path_text path = escaped (join_with_byte slash path)
