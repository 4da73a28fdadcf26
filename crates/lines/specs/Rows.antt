-- What a line says: its kind, and the items of its row.
use Rattle.std.specs.Prelude.{ℕ, List, map, string_bytes}
use Rattle.std.specs.List.{flat_map, join_with_byte}
use Rattle.filetree.specs.FileTree.{slash}
use Rattle.hex.specs.Hex.{encode_lower}
use Rattle.lines.specs.declared.part.Part.{Part}
use Rattle.lines.specs.declared.part.Part.TheVariants as part

-- an item of a line: a word; under a key a number, a number with a dash or a slash behind it, a
-- name that is printed as it is, a letter with a number behind it, a text that is printed with its
-- escapes, or a text of the object alone, which is not printed
pub data Item : Type 0 where
  word : List ℕ → Item
  number : List ℕ → ℕ → Item
  start : List ℕ → ℕ → Item
  over : List ℕ → ℕ → Item
  name : List ℕ → List ℕ → Item
  code : List ℕ → List ℕ → ℕ → Item
  text : List ℕ → List ℕ → Item
  unprinted : List ℕ → List ℕ → Item

-- what a part says: a digest is its hexadecimal, and a path is its components with `/` between them
abbrev pub item_of : Part → Item
item_of (part.Word w) = word w.now
item_of (part.Number key n) = number key.now n
item_of (part.Start key n) = start key.now n
item_of (part.Over key n) = over key.now n
item_of (part.Name key t) = name key.now t.now
item_of (part.Code key letter n) = code key.now letter.now n
item_of (part.Sha256 key d) = name key.now (encode_lower d.now)
item_of (part.Sha1 key d) = name key.now (encode_lower d.now)
item_of (part.Text key t) = text key.now t.now
item_of (part.Path key p) = text key.now (join_with_byte slash (map (λ s. s.now) p.now))
item_of (part.OwnPath key p) = text key.now (join_with_byte slash (map string_bytes p.now))
item_of (part.Unprinted key p) = unprinted key.now (join_with_byte slash (map (λ s. s.now) p.now))

-- a line
pub record Row : Type 0 where
  pub kind : List ℕ
  pub items : List Item

abbrev pub row : List ℕ → List Item → Row
row kind items = record { kind = kind; items = items }

-- how lines are spelled: as texts, or as JSON objects
abbrev pub Spelling : Type 0
Spelling = Row → List ℕ

-- lines, one after the other
abbrev pub spell : Spelling → List Row → List ℕ
spell spelled rows = flat_map spelled rows
