-- The rows of lines are plain: kinds and keys are constants.
use Rattle.std.proofs.Common.{◌≡◌, ◌∷◌, [], List, ℕ, Bool, true, ◌&&◌, codes, map, Option, Some, None, option_map, length, ◌<◌, arith, refl}
use Rattle.std.specs.Prelude.{string_bytes}
use Rattle.std.specs.List.{list_all}
use Rattle.std.proofs.lemmas.Bool.{and_parts}
use Rattle.filetree.specs.declared.refusal.Refusal.{Refusal}
use Rattle.filetree.specs.declared.refusal.Refusal.TheVariants as refusals
use Rattle.lines.specs.Rows.{Item, Row, word, number, start, over, name, code, text, unprinted}
use Rattle.lines.specs.Table.{checked_row, file_row, parted_row, refusal_row, root_row, row_of, shown_row}
use Rattle.lines.specs.declared.checked.Checked.{Checked}
use Rattle.lines.specs.declared.checked.Checked.TheVariants as checked
use Rattle.lines.specs.declared.line.Line.{Line}
use Rattle.lines.specs.declared.line.Line.TheVariants as line
use Rattle.lines.specs.declared.parted.Parted.{Parted}
use Rattle.lines.specs.declared.parted.Parted.TheVariants as parted
use Rattle.lines.specs.declared.shown.Shown.{Shown}
use Rattle.lines.specs.declared.shown.Shown.TheVariants as shown
use Rattle.line_laws.specs.Lines.{LineObjectsAreTexts, LinesArePlain, LineTextsTell}
use Rattle.line_laws.specs.Plain.{ArePlainItems, IsPlainRow, are_new, is_plain}
use Rattle.line_laws.specs.Said.{AreSaid, IsSaidRow}
use Rattle.line_laws.proofs.ObjectTexts.{objects_are_texts}
use Rattle.line_laws.proofs.Names.{code_is_plain}
use Rattle.line_laws.proofs.SaidLines.{said}
use Rattle.line_laws.proofs.Telling.{texts_tell}

-- no key has a byte that is escaped, and no word a line feed
unfoldable pub keys_plain : List Item → Bool
keys_plain [] = true
keys_plain (word w ∷ items) = list_all is_plain w && keys_plain items
keys_plain (number key n ∷ items) = list_all is_plain key && keys_plain items
keys_plain (start key n ∷ items) = list_all is_plain key && keys_plain items
keys_plain (over key n ∷ items) = list_all is_plain key && keys_plain items
keys_plain (name key t ∷ items) = list_all is_plain key && keys_plain items
keys_plain (code key letter n ∷ items) = list_all is_plain key && keys_plain items
keys_plain (text key t ∷ items) = list_all is_plain key && keys_plain items
keys_plain (unprinted key t ∷ items) = list_all is_plain key && keys_plain items

abbrev is_keyed : Row → Bool
is_keyed r = list_all is_plain r.kind && (keys_plain r.items && are_new (codes "kind" ∷ []) r.items)

plain_items : (items : List Item) → AreSaid items → keys_plain items ≡ true → ArePlainItems items
unfolding AreSaid keys_plain ArePlainItems
plain_items [] h k = tt
plain_items (word w ∷ items) h k = (tt, plain_items items h.1 (and_parts (list_all is_plain w) (keys_plain items) k).1)
plain_items (number key n ∷ items) h k = let p = and_parts (list_all is_plain key) (keys_plain items) k in (p.0, plain_items items h.1 p.1)
plain_items (start key n ∷ items) h k = let p = and_parts (list_all is_plain key) (keys_plain items) k in (p.0, plain_items items h.1 p.1)
plain_items (over key n ∷ items) h k = let p = and_parts (list_all is_plain key) (keys_plain items) k in (p.0, plain_items items h.1 p.1)
plain_items (name key t ∷ items) h k = let p = and_parts (list_all is_plain key) (keys_plain items) k in ((p.0, h.0.0), plain_items items h.1 p.1)
plain_items (code key letter n ∷ items) h k =
    let p = and_parts (list_all is_plain key) (keys_plain items) k in ((p.0, code_is_plain letter n h.0.0 h.0.1), plain_items items h.1 p.1)
plain_items (text key t ∷ items) h k = let p = and_parts (list_all is_plain key) (keys_plain items) k in (p.0, plain_items items h.1 p.1)
plain_items (unprinted key t ∷ items) h k = let p = and_parts (list_all is_plain key) (keys_plain items) k in (p.0, plain_items items h.1 p.1)

plain_row : (r : Row) → IsSaidRow r → is_keyed r ≡ true → IsPlainRow r
plain_row r h k =
    let kind = and_parts (list_all is_plain r.kind) (keys_plain r.items && are_new (codes "kind" ∷ []) r.items) k in
    let items = and_parts (keys_plain r.items) (are_new (codes "kind" ∷ []) r.items) kind.1 in
    (kind.0, plain_items r.items h items.0, items.1)

root_keyed : (len : ℕ) (root : Option (List ℕ)) → is_keyed (root_row len root) ≡ true
unfolding keys_plain are_new
root_keyed len None = refl
root_keyed len (Some root) = refl

file_keyed : (len : ℕ) (root : Option (List ℕ)) (parts : List (List ℕ)) → is_keyed (file_row len root parts) ≡ true
unfolding keys_plain are_new
file_keyed len None parts = refl
file_keyed len (Some root) parts = refl

shown_keyed : (s : Shown) → is_keyed (shown_row s) ≡ true
unfolding keys_plain are_new
shown_keyed (shown.File len root p) = file_keyed len (option_map (λ r. r.now) root) (map (λ s. s.now) p.now)
shown_keyed s = refl

checked_keyed : (c : Checked) → is_keyed (checked_row c) ≡ true
unfolding keys_plain are_new
checked_keyed (checked.Extra p) = refl
checked_keyed c = refl

parted_keyed : (p : Parted) → is_keyed (parted_row p) ≡ true
unfolding keys_plain are_new
parted_keyed parted.Yes = refl
parted_keyed p = refl

refusal_keyed : (r : Refusal) (parts : List (List ℕ)) → is_keyed (refusal_row r parts) ≡ true
unfolding keys_plain are_new
refusal_keyed refusals.TooLarge [] = refl
refusal_keyed refusals.TooLarge (part ∷ parts) = refl
refusal_keyed r [] = refl
refusal_keyed r (part ∷ parts) = refl

keyed : (l : Line) → is_keyed (row_of l) ≡ true
unfolding keys_plain are_new
keyed (line.Root len root) = root_keyed len (option_map (λ r. r.now) root)
keyed (line.Shown s) = shown_keyed s
keyed (line.Checked found) = checked_keyed found
keyed (line.Parted p) = parted_keyed p
keyed (line.Refusal r p) = refusal_keyed r.now (map string_bytes p.now)
keyed l = refl

pub line_keys : (l : Line) → keys_plain (row_of l).items ≡ true
line_keys l =
    let r = row_of l in
    let kind = and_parts (list_all is_plain r.kind) (keys_plain r.items && are_new (codes "kind" ∷ []) r.items) (keyed l) in
    (and_parts (keys_plain r.items) (are_new (codes "kind" ∷ []) r.items) kind.1).0

-- a line has an item

shown_some : (s : Shown) → 0 < length (shown_row s).items
shown_some (shown.Name called) = omega arith
shown_some s = omega arith

checked_some : (c : Checked) → 0 < length (checked_row c).items
checked_some (checked.Extra p) = omega arith
checked_some c = omega arith

parted_some : (p : Parted) → 0 < length (parted_row p).items
parted_some parted.Yes = omega arith
parted_some p = omega arith

pub some_items : (l : Line) → 0 < length (row_of l).items
some_items (line.Shown s) = shown_some s
some_items (line.Checked found) = checked_some found
some_items (line.Parted p) = parted_some p
some_items l = omega arith

pub plain : LinesArePlain
plain l h = plain_row (row_of l) (said l h) (keyed l)

pub line_objects_are_texts : LineObjectsAreTexts
line_objects_are_texts l h = objects_are_texts (row_of l) (plain l h)

pub line_texts_tell : LineTextsTell
line_texts_tell a b ha hb e = texts_tell a b (said a ha) (said b hb) e
