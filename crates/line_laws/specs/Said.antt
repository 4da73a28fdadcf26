-- What holds of each line that is said.
use Rattle.std.specs.Prelude.{◌≡◌, ◌<◌, ◌^◌, ℕ, List, [], ◌∷◌, codes, length, ⊤, Bool, true, false, not, ◌&&◌, ◌==◌, nat_le, bytes_eq}
use Rattle.std.specs.List.{list_all}
use Rattle.hex.specs.Hex.{IsBytes}
use Rattle.lines.specs.Rows.{Item, Row, row, word, number, start, over, name, code, text, unprinted}
use Rattle.lines.specs.Table.{row_of}
use Rattle.lines.specs.Texts.{text_of}
use Rattle.lines.specs.declared.line.Line.{Line}
use Rattle.line_laws.specs.Plain.{is_plain, ArePlain}

-- a byte of a word: it is plain and no space
abbrev pub is_solid : ℕ → Bool
is_solid b = is_plain b && not (b == 32)

-- a word
abbrev pub IsWord : List ℕ → Type 0
IsWord t = list_all is_solid t ≡ true

-- capital letters of ASCII
abbrev pub is_capital : ℕ → Bool
is_capital b = nat_le 65 b && nat_le b 90

abbrev pub AreCapitals : List ℕ → Type 0
AreCapitals t = list_all is_capital t ≡ true

-- a number fits 64 bits; a name is a word, but the key of a torrent may have spaces; a root has its
-- 64 digits; the letter of a code is a capital one; a text is bytes
abbrev pub IsSaidItem : Item → Type 0
IsSaidItem (word w) = ⊤
IsSaidItem (number key n) = n < 2 ^ 64
IsSaidItem (start key n) = n < 2 ^ 64
IsSaidItem (over key n) = n < 2 ^ 64
IsSaidItem (name key t) =
    ArePlain t × (bytes_eq key (codes "key") ≡ false → IsWord t)
    × (bytes_eq key (codes "root") ≡ true → length t ≡ 64)
IsSaidItem (code key letter n) = AreCapitals letter × (n < 2 ^ 64)
IsSaidItem (text key t) = IsBytes t
IsSaidItem (unprinted key t) = IsBytes t

unfoldable pub AreSaid : List Item → Type 0
AreSaid [] = ⊤
AreSaid (item ∷ items) = IsSaidItem item × AreSaid items

-- the items of a line are as they are said
abbrev pub IsSaidRow : Row → Type 0
IsSaidRow r = AreSaid r.items

-- what is printed of items; what is not printed stands before others
abbrev pub printed_items : List Item → List Item
printed_items (unprinted key t ∷ item ∷ items) = item ∷ items
printed_items items = items

-- what is printed of a line: all but the path of a run of bad pieces, which the line before has
abbrev pub printed : Row → Row
printed r = row r.kind (printed_items r.items)

-- lines with one text are one line, as far as they are printed
abbrev pub TextsTell : Type 0
TextsTell =
    (a b : Line) → IsSaidRow (row_of a) → IsSaidRow (row_of b)
    → text_of (row_of a) ≡ text_of (row_of b) → printed (row_of a) ≡ printed (row_of b)
