-- The kit's `serde_json` reads the object of a line as its value.
use Rattle.std.proofs.Common.{◌≡◌, ◌∷◌, ◌++◌, ◌∙◌, ◌≤◌, ◌<◌, ◌^◌, [], List, ℕ, max, Option, Some, option_map, option_and_then, Less, Greater, nat_cmp}
use Rattle.std.proofs.Common.{append_assoc, ap, ap₂, sym, subst, refl, arith}
use Rattle.std.specs.Prelude.{⊤}
use Rattle.std.specs.Cmp.Lexicographic.{slice_cmp}
use Rattle.std.specs.Ordering.{ordering_reverse}
use Rattle.std.proofs.lemmas.Cmp.{nat_list_cmp_total}
use Rattle.std.proofs.lemmas.List.{append-nil, append_cancel_right}
use Rattle.json.specs.Json as json
use Rattle.json.specs.Lex.{tokens}
use Rattle.json.specs.Token.{Token}
use Rattle.json.specs.Tree.{HasNumbers, MembersHaveNumbers, json_tokens}
use Rattle.json.specs.Tree as tree
use Rattle.json.proofs.Printed.Decimals.{IsNumber-decimal}
use Rattle.json.proofs.Printed.Tokens.{tokens-print}
use Rattle.json.proofs.Printed.Trees.{ArePrintable-json_tokens, value-json_tokens}
use Rattle.serde_json.specs.Data.{Data, Members, member, put}
use Rattle.serde_json.specs.Data as values
use Rattle.serde_json.specs.Read.{max_depth, of_json, of_members, read}
use Rattle.serde_json.specs.Written.{compact_text, members_outline, outline}
use Rattle.serde_json.proofs.Numbers.{number_of-decimal}
use Rattle.serde_json.proofs.Texts.{print-outline}
use Rattle.lines.specs.Objects.{all_placed, key_of, members_of, placed}
use Rattle.lines.specs.Rows.{Item, Row, word, number, start, over, name, code, text, unprinted}
use Rattle.lines.specs.Table.{row_of}
use Rattle.line_laws.specs.Lines.{LineObjectsReadBack}
use Rattle.line_laws.specs.Plain.{IsPlainRow}
use Rattle.line_laws.specs.Said.{AreSaid, IsSaidRow}
use Rattle.line_laws.specs.Values.{json_value_of}
use Rattle.line_laws.proofs.Members.{AllItems, Ascends, data_of, members, placed_so}
use Rattle.line_laws.proofs.ObjectTexts.{kind_item, objects_are_texts, row_put}
use Rattle.line_laws.proofs.PlainLines.{plain}
use Rattle.line_laws.proofs.SaidLines.{said}

-- ---- one item

abbrev IsFit : Item → Type 0
IsFit (word w) = ⊤
IsFit (number key n) = n < 2 ^ 64
IsFit (start key n) = n < 2 ^ 64
IsFit (over key n) = n < 2 ^ 64
IsFit (name key t) = ⊤
IsFit (code key letter n) = ⊤
IsFit (text key t) = ⊤
IsFit (unprinted key t) = ⊤

item_back : (item : Item) → IsFit item → of_json (outline (data_of item)) ≡ Some (data_of item)
item_back (word w) h = refl
item_back (number key n) h = ap (option_map values.number) (number_of-decimal n h)
item_back (start key n) h = ap (option_map values.number) (number_of-decimal n h)
item_back (over key n) h = ap (option_map values.number) (number_of-decimal n h)
item_back (name key t) h = refl
item_back (code key letter n) h = refl
item_back (text key t) h = refl
item_back (unprinted key t) h = refl

item_number : (item : Item) → IsFit item → HasNumbers (outline (data_of item))
item_number (word w) h = tt
item_number (number key n) h = IsNumber-decimal n h
item_number (start key n) h = IsNumber-decimal n h
item_number (over key n) h = IsNumber-decimal n h
item_number (name key t) h = tt
item_number (code key letter n) h = tt
item_number (text key t) h = tt
item_number (unprinted key t) h = tt

item_flat : (item : Item) → tree.depth (outline (data_of item)) ≡ 0
item_flat (word w) = refl
item_flat (number key n) = refl
item_flat (start key n) = refl
item_flat (over key n) = refl
item_flat (name key t) = refl
item_flat (code key letter n) = refl
item_flat (text key t) = refl
item_flat (unprinted key t) = refl

-- ---- all members

all_numbers : (items : List Item) → AllItems IsFit items → MembersHaveNumbers (members_outline (members items))
all_numbers [] h = tt
all_numbers (item ∷ items) h = (item_number item h.0, all_numbers items h.1)

all_flat : (items : List Item) → tree.members_depth (members_outline (members items)) ≡ 0
all_flat [] = refl
all_flat (item ∷ items) = ap₂ max (item_flat item) (all_flat items)

-- the keys of these stand before this one
abbrev Under : List ℕ → List Item → Type 0
Under key items = AllItems (λ item. slice_cmp nat_cmp (key_of item) key ≡ Less) items

-- a member whose key is above those before it goes last
put_last : (done : List Item) (new : Item) → Under (key_of new) done → put (key_of new) (data_of new) (members done) ≡ members (done ++ new ∷ [])
put_last [] new h = refl
put_last (item ∷ done) new h =
    let above : slice_cmp nat_cmp (key_of new) (key_of item) ≡ Greater =
    nat_list_cmp_total.antisymm (key_of new) (key_of item) ∙ ap ordering_reverse h.0 in
    rw above (ap (member (key_of item) (data_of item)) (put_last done new h.1))

in_middle : (P : Item → Type 0) (done : List Item) (item : Item) (more : List Item) → AllItems P (done ++ item ∷ more) → P item
in_middle P [] item more h = h.0
in_middle P (first ∷ done) item more h = in_middle P done item more h.1

under_middle : (done : List Item) (item : Item) (more : List Item) → Ascends (done ++ item ∷ more) → Under (key_of item) done
under_middle [] item more a = tt
under_middle (first ∷ done) item more a =
    (in_middle (λ other. slice_cmp nat_cmp (key_of first) (key_of other) ≡ Less) done item more a.0, under_middle done item more a.1)

members_back : (done items : List Item) → Ascends (done ++ items) → AllItems IsFit items
    → of_members (members_outline (members items)) (members done) ≡ Some (members (done ++ items))
members_back done [] a h = ap (λ l. Some (members l)) (sym (append-nil done))
members_back done (item ∷ items) a h =
    let more = members_outline (members items) in
    let regrouped = append_assoc done (item ∷ []) items in
    ap (option_and_then (λ d. of_members more (put (key_of item) d (members done)))) (item_back item h.0)
    ∙ ap (of_members more) (put_last done item (under_middle done item items a))
    ∙ members_back (done ++ item ∷ []) items (subst Ascends (sym regrouped) a) h.1
    ∙ ap (λ l. Some (members l)) regrouped

-- ---- the text

abbrev last_value : Option (json.Json × List Token) → Option Data
last_value o = option_and_then of_json (option_and_then (λ p. json.if_last p.0 p.1) o)

text_back : (items : List Item) → Ascends items → AllItems IsFit items
    → read (compact_text (values.object (members items))) ≡ Some (values.object (members items))
text_back items a h =
    let d = values.object (members items) in
    let j = outline d in
    let shallow : tree.depth j ≤ max_depth = omega (arith, all_flat items) in
    let printed = ap tokens (sym (print-outline d)) ∙ tokens-print (json_tokens j) (ArePrintable-json_tokens j (all_numbers items h)) in
    ap last_value (ap (json.value max_depth) (printed ∙ sym (append-nil (json_tokens j))) ∙ value-json_tokens j max_depth [] shallow)
    ∙ ap (option_map values.object) (members_back [] items a h)

-- ---- lines

all_fit : (items found : List Item) → AreSaid items → AllItems IsFit found → AllItems IsFit (all_placed items found)
unfolding all_placed AreSaid
all_fit [] found h f = f
all_fit (word w ∷ items) found h f = all_fit items found h.1 f
all_fit (number key n ∷ items) found h f = all_fit items (placed (number key n) found) h.1 (placed_so IsFit (number key n) found h.0 f)
all_fit (start key n ∷ items) found h f = all_fit items (placed (start key n) found) h.1 (placed_so IsFit (start key n) found h.0 f)
all_fit (over key n ∷ items) found h f = all_fit items (placed (over key n) found) h.1 (placed_so IsFit (over key n) found h.0 f)
all_fit (name key t ∷ items) found h f = all_fit items (placed (name key t) found) h.1 (placed_so IsFit (name key t) found tt f)
all_fit (code key letter n ∷ items) found h f =
    all_fit items (placed (code key letter n) found) h.1 (placed_so IsFit (code key letter n) found tt f)
all_fit (text key t ∷ items) found h f = all_fit items (placed (text key t) found) h.1 (placed_so IsFit (text key t) found tt f)
all_fit (unprinted key t ∷ items) found h f = all_fit items (placed (unprinted key t) found) h.1 (placed_so IsFit (unprinted key t) found tt f)

row_back : (r : Row) → IsPlainRow r → IsSaidRow r → read (compact_text (json_value_of r)) ≡ Some (json_value_of r)
row_back r p h =
    let in_order = row_put r p in
    subst (λ ms. read (compact_text (values.object ms)) ≡ Some (values.object ms)) (sym in_order.same)
    (text_back (members_of r) in_order.ascends (all_fit r.items (kind_item r.kind ∷ []) h (tt, tt)))

pub line_objects_read_back : LineObjectsReadBack
line_objects_read_back l h t e =
    let p = plain l h in
    let same = append_cancel_right t (compact_text (json_value_of (row_of l))) (10 ∷ []) (sym e ∙ objects_are_texts (row_of l) p) in
    ap read same ∙ row_back (row_of l) p (said l h)
