-- What a line says, as a value of the kit's `serde_json`.
use Rattle.std.specs.Prelude.{◌≡◌, List, [], ◌∷◌, ◌++◌, codes, decimal}
use Rattle.serde_json.specs.Data.{Data, Members, no_members, member, unsigned, put}
use Rattle.serde_json.specs.Data as json
use Rattle.serde_json.specs.Written.{compact_text}
use Rattle.lines.specs.Rows.{Item, Row, word, number, start, over, name, code, text, unprinted}
use Rattle.lines.specs.Objects.{object_of}
use Rattle.line_laws.specs.Plain.{IsPlainRow}

-- members, and the one of this item among them, as the map of `serde_json` takes it: a number is a
-- number, and a name, a code and a text are strings; a word is no member
abbrev pub with_member : Item → Members → Members
with_member (word w) found = found
with_member (number key n) found = put key (json.number (unsigned n)) found
with_member (start key n) found = put key (json.number (unsigned n)) found
with_member (over key n) found = put key (json.number (unsigned n)) found
with_member (name key t) found = put key (json.string t) found
with_member (code key letter n) found = put key (json.string (letter ++ decimal n)) found
with_member (text key t) found = put key (json.string t) found
with_member (unprinted key t) found = put key (json.string t) found

-- members, and those of these items among them
unfoldable pub with_members : List Item → Members → Members
with_members [] found = found
with_members (item ∷ items) found = with_members items (with_member item found)

-- the value that a line says: an object with its kind and its items
abbrev pub json_value_of : Row → Data
json_value_of r =
    json.object (with_members r.items (put (codes "kind") (json.string r.kind) no_members))

-- the object of a line is the text that `serde_json` writes for its value, and a line feed
abbrev pub ObjectsAreTexts : Type 0
ObjectsAreTexts =
    (r : Row) → IsPlainRow r → object_of r ≡ compact_text (json_value_of r) ++ 10 ∷ []
