-- The text of a line.
use Rattle.std.specs.Prelude.{ℕ, List, [], ◌∷◌, ◌++◌, decimal}
use Rattle.printing.specs.Text.{escaped}
use Rattle.lines.specs.Rows.{Item, Row, Spelling, word, number, start, over, name, code, text, unprinted}

-- an item as it is printed
abbrev pub item_text : Item → List ℕ
item_text (word w) = w
item_text (number key n) = decimal n
item_text (start key n) = decimal n
item_text (over key n) = decimal n
item_text (name key t) = t
item_text (code key letter n) = letter ++ decimal n
item_text (text key t) = escaped t
item_text (unprinted key t) = []

-- what stands between an item and the next: a space, but a dash behind a start, a slash behind what
-- is over another number, and nothing behind what is not printed
abbrev pub gap_after : Item → List ℕ
gap_after (word w) = 32 ∷ []
gap_after (number key n) = 32 ∷ []
gap_after (start key n) = 45 ∷ []
gap_after (over key n) = 47 ∷ []
gap_after (name key t) = 32 ∷ []
gap_after (code key letter n) = 32 ∷ []
gap_after (text key t) = 32 ∷ []
gap_after (unprinted key t) = []

-- what stands behind an item, by the items after it: the gap, or a line feed behind the last
abbrev pub after_part : Item → List Item → List ℕ
after_part item [] = 10 ∷ []
after_part item (next ∷ items) = gap_after item

-- the items of a line as they are printed
unfoldable pub items_text : List Item → List ℕ
items_text [] = []
items_text (item ∷ items) = item_text item ++ (after_part item items ++ items_text items)

-- a line as it is printed
abbrev pub text_of : Spelling
text_of r = items_text r.items
