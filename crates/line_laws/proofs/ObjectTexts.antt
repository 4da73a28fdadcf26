-- An object is the text of its members.
use Rattle.std.proofs.Common.{◌≡◌, ◌∷◌, ◌++◌, ◌∙◌, [], List, ℕ, Bool, true, false, bytes_eq, if◌then◌else◌, codes, decimal, ap, sym}
use Rattle.std.proofs.Common.{refl, arith, append_assoc, length, drop, ◌<◌}
use Rattle.std.proofs.lemmas.Bool.{or_parts}
use Rattle.json.specs.Print.{quoted}
use Rattle.serde_json.specs.Written.{compact_text}
use Rattle.serde_json.specs.Written as written
use Rattle.lines.specs.Rows.{Item, Row, word, number, start, over, name, code, text, unprinted}
use Rattle.lines.specs.Objects.{is_before, key_of, placed, all_placed, members_of, key_text, member_text, after_member, members_text}
use Rattle.lines.specs.Strings as lines
use Rattle.line_laws.specs.Plain.{ArePlain, ArePlainItems, IsPlainRow}
use Rattle.line_laws.specs.Values.{ObjectsAreTexts}
use Rattle.line_laws.proofs.Bytes.{same_string, plain_string}
use Rattle.line_laws.proofs.Members.{AllItems, ArePut, Covers, all_put, data_of, members, not_true, placed_so}

-- ---- the text

abbrev pub IsMember : Item → Type 0
IsMember (word w) = ⊥
IsMember (number key n) = ArePlain key
IsMember (start key n) = ArePlain key
IsMember (over key n) = ArePlain key
IsMember (name key t) = ArePlain key × ArePlain t
IsMember (code key letter n) = ArePlain key × ArePlain (letter ++ decimal n)
IsMember (text key t) = ArePlain key
IsMember (unprinted key t) = ArePlain key

abbrev pub AreMembers : List Item → Type 0
AreMembers items = AllItems IsMember items

-- a key with its colon, a value and what follows
with_key : (key value more : List ℕ) → ArePlain key → (key_text key ++ value) ++ more ≡ quoted key ++ 58 ∷ (value ++ more)
with_key key value more h = rw (plain_string key h) (ap (λ t. 34 ∷ t) (regroup key value more))
  where
    regroup : (key value more : List ℕ) → ((key ++ 34 ∷ 58 ∷ []) ++ value) ++ more ≡ (key ++ 34 ∷ []) ++ 58 ∷ (value ++ more)
    regroup key value more = simp append_assoc

same_name : (t : List ℕ) → ArePlain t → lines.plain_string t ≡ quoted t
same_name t h = ap (λ s. 34 ∷ (s ++ 34 ∷ [])) (sym (plain_string t h))

same_text : (t : List ℕ) → lines.quoted t ≡ quoted t
same_text t = ap (λ s. 34 ∷ (s ++ 34 ∷ [])) (same_string t)

under_key : (key value same more : List ℕ) → ArePlain key → value ≡ same → (key_text key ++ value) ++ more ≡ quoted key ++ 58 ∷ (same ++ more)
under_key key value same more h e = with_key key value more h ∙ ap (λ t. quoted key ++ 58 ∷ (t ++ more)) e

one_member : (item : Item) (more : List ℕ) → IsMember item
    → member_text item ++ more ≡ quoted (key_of item) ++ 58 ∷ (compact_text (data_of item) ++ more)
one_member (word w) more h = absurd h
one_member (number key n) more h = under_key key (decimal n) (decimal n) more h refl
one_member (start key n) more h = under_key key (decimal n) (decimal n) more h refl
one_member (over key n) more h = under_key key (decimal n) (decimal n) more h refl
one_member (name key t) more h = under_key key (lines.plain_string t) (quoted t) more h.0 (same_name t h.1)
one_member (code key letter n) more h =
    under_key key (lines.plain_string (letter ++ decimal n)) (quoted (letter ++ decimal n)) more h.0 (same_name (letter ++ decimal n) h.1)
one_member (text key t) more h = under_key key (lines.quoted t) (quoted t) more h (same_text t)
one_member (unprinted key t) more h = under_key key (lines.quoted t) (quoted t) more h (same_text t)

regroup_end : (q v s : List ℕ) → q ++ 58 ∷ (v ++ (s ++ 10 ∷ [])) ≡ (q ++ 58 ∷ (v ++ s)) ++ 10 ∷ []
regroup_end q v s = simp append_assoc

-- what follows a member
rest_text : (items : List Item) → AreMembers items → after_member items ++ members_text items ≡ written.members_text true (members items) ++ 10 ∷ []
unfolding members_text
rest_text [] h = refl
rest_text (item ∷ items) h =
    ap (λ t. 44 ∷ t) (one_member item (after_member items ++ members_text items) h.0)
    ∙ ap (λ t. 44 ∷ (quoted (key_of item) ++ 58 ∷ (compact_text (data_of item) ++ t))) (rest_text items h.1)
    ∙ ap (λ t. 44 ∷ t) (regroup_end (quoted (key_of item)) (compact_text (data_of item)) (written.members_text true (members items)))

-- the members of an object, of which there is one
all_text : (items : List Item) → AreMembers items → 0 < length items → members_text items ≡ written.members_text false (members items) ++ 10 ∷ []
all_text [] h some = absurd (omega arith)
all_text (item ∷ items) h some = ap (drop 1) (rest_text (item ∷ items) h)

-- ---- the members of a line

some_placed : (new : Item) (items : List Item) → 0 < length (placed new items)
unfolding placed
some_placed new [] = omega arith
some_placed new (item ∷ items) = by_test (is_before (key_of new) (key_of item))
  where
    by_test : (b : Bool) → 0 < length (if b then new ∷ item ∷ items else item ∷ placed new items)
    by_test true = omega arith
    by_test false = omega arith

abbrev Whole : List Item → Type 0
Whole found = AreMembers found × (0 < length found)

one_more : (new : Item) (found : List Item) → IsMember new → Whole found → Whole (placed new found)
one_more new found h w = (placed_so IsMember new found h w.0, some_placed new found)

all_members : (items found : List Item) → ArePlainItems items → Whole found → Whole (all_placed items found)
unfolding all_placed ArePlainItems
all_members [] found h w = w
all_members (word v ∷ items) found h w = all_members items found h.1 w
all_members (number key n ∷ items) found h w = all_members items (placed (number key n) found) h.1 (one_more (number key n) found h.0 w)
all_members (start key n ∷ items) found h w = all_members items (placed (start key n) found) h.1 (one_more (start key n) found h.0 w)
all_members (over key n ∷ items) found h w = all_members items (placed (over key n) found) h.1 (one_more (over key n) found h.0 w)
all_members (name key t ∷ items) found h w = all_members items (placed (name key t) found) h.1 (one_more (name key t) found h.0 w)
all_members (code key letter n ∷ items) found h w =
    all_members items (placed (code key letter n) found) h.1 (one_more (code key letter n) found h.0 w)
all_members (text key t ∷ items) found h w = all_members items (placed (text key t) found) h.1 (one_more (text key t) found h.0 w)
all_members (unprinted key t ∷ items) found h w = all_members items (placed (unprinted key t) found) h.1 (one_more (unprinted key t) found h.0 w)

abbrev pub kind_item : List ℕ → Item
kind_item kind = name (codes "kind") kind

kind_covered : (kind : List ℕ) → Covers (codes "kind" ∷ []) (kind_item kind ∷ [])
kind_covered kind = record {
  apart = λ key h. ((or_parts (bytes_eq key (codes "kind")) false (not_true _ h)).0, tt);
  ascends = (tt, tt);
}

-- the value of a line has its members in order
pub row_put : (r : Row) → IsPlainRow r → ArePut r.items (kind_item r.kind ∷ [])
row_put r h = all_put r.items (codes "kind" ∷ []) (kind_item r.kind ∷ []) h.2 (kind_covered r.kind)

pub objects_are_texts : ObjectsAreTexts
objects_are_texts r h =
    let w = all_members r.items (kind_item r.kind ∷ []) h.1 (((refl, h.0), tt), omega arith) in
    ap (λ t. 123 ∷ t) (all_text (members_of r) w.0 w.1)
    ∙ ap (λ ms. 123 ∷ (written.members_text false ms ++ 10 ∷ [])) (sym (row_put r h).same)
