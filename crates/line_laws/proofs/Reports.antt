-- A report's text tells its lines: each ends at its one line feed.
use Rattle.std.proofs.Common.{◌≡◌, ◌∷◌, ◌++◌, ◌∙◌, ◌<◌, ◌^◌, ◌/◌, ◌%◌, [], List, ℕ, suc, slice_index, Bool, true, false, not, ◌&&◌, ◌==◌, length, map}
use Rattle.std.proofs.Common.{decimal, codes, if◌then◌else◌, nat_le, append_assoc, ap, ap₂, sym, refl, arith, ◌≤◌, ne_eqb}
use Rattle.std.specs.Char.{is_ascii_digit}
use Rattle.std.specs.List.{list_all}
use Rattle.std.proofs.lemmas.Bool.{and_parts, leb-true}
use Rattle.std.proofs.lemmas.List.{append_cancel_left, length-append}
use Rattle.hex.specs.Hex.{IsBytes, encode_lower, encode_with, lower_digits}
use Rattle.lines.specs.Rows.{Item, word, number, start, over, name, code, text, unprinted, spell}
use Rattle.lines.specs.Table.{row_of}
use Rattle.lines.specs.Texts.{gap_after, item_text, items_text, text_of}
use Rattle.lines.specs.declared.line.Line.{Line}
use Rattle.printing.specs.Text.{escaped, escape_of, is_special}
use Rattle.line_laws.specs.Lines.{IsSaid, ReportsTell}
use Rattle.line_laws.specs.Plain.{ArePlain, is_plain}
use Rattle.line_laws.specs.Said.{AreSaid, is_solid}
use Rattle.line_laws.proofs.Cuts.{all_both, all_so, decimal_digits, front, front_at}
use Rattle.line_laws.proofs.Names.{code_is_plain, digit_is_plain, digit_is_solid}
use Rattle.line_laws.proofs.PlainLines.{keys_plain, line_keys, line_texts_tell, some_items}
use Rattle.line_laws.proofs.SaidLines.{said}
use Rattle.line_laws.proofs.Unescaped.{not_ten}

abbrev is_feed : ℕ → Bool
is_feed b = b == 10

-- there is no line feed
abbrev HasNone : List ℕ → Type 0
HasNone t = list_all (λ b. not (is_feed b)) t ≡ true

plain_is_none : (b : ℕ) → is_plain b ≡ true → not (is_feed b) ≡ true
plain_is_none b h =
    let over : 32 ≤ b = leb-true 32 b (and_parts (nat_le 32 b) (not (b == 34) && not (b == 92)) h).0 in
    rw (ne_eqb b 10 (λ e. omega (arith, e))) refl

plain_has_none : (t : List ℕ) → ArePlain t → HasNone t
plain_has_none t h = all_so is_plain (λ b. not (is_feed b)) plain_is_none t h

decimal_has_none : (n : ℕ) → n < 2 ^ 64 → HasNone (decimal n)
decimal_has_none n small = plain_has_none (decimal n) (all_so is_ascii_digit is_plain digit_is_plain (decimal n) (decimal_digits n small))

digit_is_none : (d : ℕ) → is_solid d ≡ true → not (is_feed d) ≡ true
digit_is_none d h = plain_is_none d (and_parts (is_plain d) (not (d == 32)) h).0

one_has_none : (s : Bool) (b : ℕ) → s ≡ is_special b → b < 256 → HasNone (if s then codes "\\x" ++ encode_lower (b ∷ []) else b ∷ [])
unfolding encode_with
one_has_none true b e fits =
    rw (digit_is_none (slice_index lower_digits (b / 16)) (digit_is_solid (b / 16) (omega arith)))
    (rw (digit_is_none (slice_index lower_digits (b % 16)) (digit_is_solid (b % 16) (omega arith))) refl)
one_has_none false b e fits = rw (not_ten b (sym e)) refl

escaped_has_none : (t : List ℕ) → IsBytes t → HasNone (escaped t)
escaped_has_none [] h = refl
escaped_has_none (b ∷ t) h =
    all_both (λ c. not (is_feed c)) (escape_of b) (escaped t) (one_has_none (is_special b) b refl (h 0)) (escaped_has_none t (λ i. h (suc i)))

-- ---- lines

-- bytes without a line feed, and one
record Ended (t : List ℕ) : Type 0 where
  body : List ℕ
  ends : t ≡ body ++ 10 ∷ []
  none : HasNone body

gap_has_none : (item : Item) → HasNone (gap_after item)
gap_has_none (word w) = refl
gap_has_none (number key n) = refl
gap_has_none (start key n) = refl
gap_has_none (over key n) = refl
gap_has_none (name key t) = refl
gap_has_none (code key letter n) = refl
gap_has_none (text key t) = refl
gap_has_none (unprinted key t) = refl

longer : (front t : List ℕ) → HasNone front → Ended t → Ended (front ++ t)
longer front t h more = record {
  body = front ++ more.body;
  ends = ap (λ u. front ++ u) more.ends ∙ sym (append_assoc front more.body (10 ∷ []));
  none = all_both (λ b. not (is_feed b)) front more.body h more.none;
}

ended : (item : Item) (items : List Item) → HasNone (item_text item) → (0 < length items → Ended (items_text items)) → Ended (items_text (item ∷ items))
unfolding items_text
ended item [] h more = record { body = item_text item; ends = refl; none = h }
ended item (next ∷ items) h more =
    longer (item_text item) (gap_after item ++ items_text (next ∷ items)) h
    (longer (gap_after item) (items_text (next ∷ items)) (gap_has_none item) (more (omega arith)))

all_ended : (items : List Item) → AreSaid items → keys_plain items ≡ true → 0 < length items → Ended (items_text items)
unfolding AreSaid keys_plain
all_ended [] h k some = absurd (omega arith)
all_ended (word w ∷ items) h k some =
    let p = and_parts (list_all is_plain w) (keys_plain items) k in ended (word w) items (plain_has_none w p.0) (all_ended items h.1 p.1)
all_ended (number key n ∷ items) h k some =
    let p = and_parts (list_all is_plain key) (keys_plain items) k in ended (number key n) items (decimal_has_none n h.0) (all_ended items h.1 p.1)
all_ended (start key n ∷ items) h k some =
    let p = and_parts (list_all is_plain key) (keys_plain items) k in ended (start key n) items (decimal_has_none n h.0) (all_ended items h.1 p.1)
all_ended (over key n ∷ items) h k some =
    let p = and_parts (list_all is_plain key) (keys_plain items) k in ended (over key n) items (decimal_has_none n h.0) (all_ended items h.1 p.1)
all_ended (name key t ∷ items) h k some =
    let p = and_parts (list_all is_plain key) (keys_plain items) k in ended (name key t) items (plain_has_none t h.0.0) (all_ended items h.1 p.1)
all_ended (code key letter n ∷ items) h k some =
    let p = and_parts (list_all is_plain key) (keys_plain items) k in
    ended (code key letter n) items (plain_has_none (letter ++ decimal n) (code_is_plain letter n h.0.0 h.0.1)) (all_ended items h.1 p.1)
all_ended (text key t ∷ items) h k some =
    let p = and_parts (list_all is_plain key) (keys_plain items) k in ended (text key t) items (escaped_has_none t h.0) (all_ended items h.1 p.1)
all_ended (unprinted key t ∷ items) h k some =
    let p = and_parts (list_all is_plain key) (keys_plain items) k in ended (unprinted key t) items refl (all_ended items h.1 p.1)

line_ended : (l : Line) → IsSaid l → Ended (text_of (row_of l))
line_ended l h = all_ended (row_of l).items (said l h) (line_keys l) (some_items l)

-- ---- reports

split : (t rest : List ℕ) (a : Ended t) → t ++ rest ≡ a.body ++ 10 ∷ rest
split t rest a = ap (λ u. u ++ rest) a.ends ∙ append_assoc a.body (10 ∷ []) rest

never_none : (t rest : List ℕ) → Ended t → [] ≡ t ++ rest → ⊥
never_none t rest a e = let long = ap length (e ∙ split t rest a) in omega (arith, long, length-append a.body (10 ∷ rest))

same_first : (s t u v : List ℕ) → Ended s → Ended t → s ++ u ≡ t ++ v → s ≡ t
same_first s t u v a b e =
    let bodies = sym (front_at is_feed a.body 10 u a.none refl) ∙ ap (front is_feed) (sym (split s u a) ∙ e ∙ split t v b)
    ∙ front_at is_feed b.body 10 v b.none refl in
    a.ends ∙ ap (λ x. x ++ 10 ∷ []) bodies ∙ sym b.ends

pub reports_tell : ReportsTell
reports_tell [] [] hx hy e = refl
reports_tell [] (y ∷ ys) hx hy e = absurd (never_none (text_of (row_of y)) (spell text_of (map row_of ys)) (line_ended y hy.0) e)
reports_tell (x ∷ xs) [] hx hy e = absurd (never_none (text_of (row_of x)) (spell text_of (map row_of xs)) (line_ended x hx.0) (sym e))
reports_tell (x ∷ xs) (y ∷ ys) hx hy e =
    let more_x = spell text_of (map row_of xs) in
    let more_y = spell text_of (map row_of ys) in
    let same = same_first (text_of (row_of x)) (text_of (row_of y)) more_x more_y (line_ended x hx.0) (line_ended y hy.0) e in
    ap₂ (λ r rs. r ∷ rs) (line_texts_tell x y hx.0 hy.0 same)
    (reports_tell xs ys hx.1 hy.1 (append_cancel_left (text_of (row_of x)) more_x more_y (e ∙ ap (λ t. t ++ more_y) (sym same))))
