-- Strings of JSON (RFC 8259, section 7). Bytes from 128 on stand as they are: the texts are UTF-8.
use Rattle.std.specs.Prelude.{ℕ, ◌==◌, nat_lt, if◌then◌else◌, List, [], ◌∷◌, ◌++◌, codes}
use Rattle.std.specs.List.{flat_map}
use Rattle.hex.specs.Hex.{encode_lower}

-- the letter of a byte's short escape, or 0 if it has none
abbrev pub short_escape : ℕ → ℕ
short_escape b =
    (if b == 34 then 34 else (if b == 92 then 92 else (if b == 8 then 98 else
    (if b == 9 then 116 else (if b == 10 then 110 else (if b == 12 then 102 else
    (if b == 13 then 114 else 0)))))))

-- a byte as it stands in a JSON string
abbrev pub string_byte : ℕ → List ℕ
string_byte b =
    (if nat_lt 0 (short_escape b) then 92 ∷ short_escape b ∷ []
    else (if nat_lt b 32 then codes "\\u00" ++ encode_lower (b ∷ []) else b ∷ []))

-- the bytes of a JSON string without its quotes
abbrev pub string_bytes : List ℕ → List ℕ
string_bytes t = flat_map string_byte t

-- a JSON string
abbrev pub quoted : List ℕ → List ℕ
quoted t = codes "\"" ++ (string_bytes t ++ codes "\"")

-- a JSON string of a text with nothing that is escaped
abbrev pub plain_string : List ℕ → List ℕ
plain_string t = codes "\"" ++ (t ++ codes "\"")
