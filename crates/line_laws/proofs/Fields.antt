-- The items of a line are read from its text, if it is known which items there are.
use Rattle.std.proofs.Common.{◌≡◌, ◌∷◌, ◌++◌, ◌∙◌, ◌+◌, ◌<◌, ◌^◌, [], List, ℕ, Bool, true, false, not, ◌&&◌, ◌||◌, ◌==◌, nat_le, length, drop, map, decimal}
use Rattle.std.proofs.Common.{bytes_eq, codes, if◌then◌else◌, ap, ap₂, sym, refl, arith, append_assoc, ne_eqb, ◌≤◌}
use Rattle.std.proofs.lemmas.List.{drop_at, length-append}
use Rattle.std.specs.Char.{is_ascii_digit}
use Rattle.std.specs.List.{list_all}
use Rattle.std.specs.Str.Parse.{digits_value}
use Rattle.std.proofs.lemmas.Bool.{and_parts, leb-true, true≢false}
use Rattle.std.proofs.lemmas.Bool.Decides.{nat_tests}
use Rattle.std.proofs.lemmas.Fmt.{decimal_is_IsNumeral}
use Rattle.lines.specs.Rows.{Item, word, number, start, over, name, code, text, unprinted}
use Rattle.lines.specs.Texts.{after_part, gap_after, items_text}
use Rattle.line_laws.specs.Plain.{is_plain}
use Rattle.line_laws.specs.Said.{is_solid, is_capital, IsWord, AreSaid}
use Rattle.line_laws.proofs.Cuts.{front, onward, front_at, onward_at, all_so, all_both, not_so, decimal_digits, decimal_first}
use Rattle.line_laws.proofs.Unescaped.{unescaped, outside, unescaped_back}

abbrev pub is_gap : ℕ → Bool
is_gap b = b == 32 || b == 10

abbrev pub is_no_digit : ℕ → Bool
is_no_digit b = not (is_ascii_digit b)

-- the text behind the byte that stops
abbrev pub behind : (ℕ → Bool) → List ℕ → List ℕ
behind stops t = drop 1 (onward stops t)

-- ---- items with their values left out

-- what is kept of a name: a torrent's key, which may have spaces
abbrev pub kept : Bool → List ℕ → List ℕ
kept is_key t = (if is_key then t else [])

abbrev pub is_key : List ℕ → Bool
is_key key = bytes_eq key (codes "key")

abbrev pub erased : Item → Item
erased (word w) = word w
erased (number key n) = number key 0
erased (start key n) = start key 0
erased (over key n) = over key 0
erased (name key t) = name key (kept (is_key key) t)
erased (code key letter n) = code key [] 0
erased (text key t) = text key []
erased (unprinted key t) = unprinted key t

-- items whose values are read from a text
unfoldable pub filled : List Item → List ℕ → List Item
filled [] t = []
filled (word w ∷ items) t = word w ∷ filled items (drop (length w + 1) t)
filled (number key n ∷ items) t = number key (digits_value 10 (front is_no_digit t)) ∷ filled items (behind is_no_digit t)
filled (start key n ∷ items) t = start key (digits_value 10 (front is_no_digit t)) ∷ filled items (behind is_no_digit t)
filled (over key n ∷ items) t = over key (digits_value 10 (front is_no_digit t)) ∷ filled items (behind is_no_digit t)
filled (name key s ∷ items) t =
    (if is_key key then name key s ∷ filled items (drop (length s + 1) t) else name key (front is_gap t) ∷ filled items (behind is_gap t))
filled (code key s n ∷ items) t =
    code key (front is_ascii_digit t) (digits_value 10 (front is_no_digit (onward is_ascii_digit t))) ∷ filled items (behind is_gap t)
filled (text key s ∷ items) t = text key (unescaped outside t) ∷ filled items []
filled (unprinted key s ∷ items) t = []

-- a text stands last, and all is printed
unfoldable pub text_last : List Item → Bool
text_last [] = true
text_last (word w ∷ items) = text_last items
text_last (number key n ∷ items) = text_last items
text_last (start key n ∷ items) = text_last items
text_last (over key n ∷ items) = text_last items
text_last (name key t ∷ items) = text_last items
text_last (code key letter n ∷ items) = text_last items
text_last (text key t ∷ []) = true
text_last (text key t ∷ item ∷ items) = false
text_last (unprinted key t ∷ items) = false

-- ---- the gap

-- a gap, and not a dash or a slash
abbrev pub gap_before : List Item → ℕ
gap_before [] = 10
gap_before (item ∷ items) = 32

abbrev dash_before : List Item → ℕ
dash_before [] = 10
dash_before (item ∷ items) = 45

abbrev slash_before : List Item → ℕ
slash_before [] = 10
slash_before (item ∷ items) = 47

pub gap_is : (items : List Item) → is_gap (gap_before items) ≡ true
gap_is [] = refl
gap_is (item ∷ items) = refl

pub gap_is_no_digit : (items : List Item) → is_no_digit (gap_before items) ≡ true
gap_is_no_digit [] = refl
gap_is_no_digit (item ∷ items) = refl

dash_is_no_digit : (items : List Item) → is_no_digit (dash_before items) ≡ true
dash_is_no_digit [] = refl
dash_is_no_digit (item ∷ items) = refl

slash_is_no_digit : (items : List Item) → is_no_digit (slash_before items) ≡ true
slash_is_no_digit [] = refl
slash_is_no_digit (item ∷ items) = refl

-- ---- bytes

solid_is_no_gap : (b : ℕ) → is_solid b ≡ true → not (is_gap b) ≡ true
solid_is_no_gap b h =
    let parts = and_parts (is_plain b) (not (b == 32)) h in
    let low : 32 ≤ b = leb-true 32 b (and_parts (nat_le 32 b) (not (b == 34) && not (b == 92)) parts.0).0 in
    rw (not_so (b == 32) parts.1, ne_eqb b 10 (λ e. omega (arith, e))) refl

digit_is_no_gap : (b : ℕ) → is_ascii_digit b ≡ true → not (is_gap b) ≡ true
digit_is_no_gap b h =
    let low : 48 ≤ b = leb-true 48 b (and_parts (nat_le 48 b) (nat_le b 57) h).0 in
    rw (ne_eqb b 32 (λ e. omega (arith, e)), ne_eqb b 10 (λ e. omega (arith, e))) refl

capital_is_no_gap : (b : ℕ) → is_capital b ≡ true → not (is_gap b) ≡ true
capital_is_no_gap b h =
    let low : 65 ≤ b = leb-true 65 b (and_parts (nat_le 65 b) (nat_le b 90) h).0 in
    rw (ne_eqb b 32 (λ e. omega (arith, e)), ne_eqb b 10 (λ e. omega (arith, e))) refl

capital_is_no_digit : (b : ℕ) → is_capital b ≡ true → not (is_ascii_digit b) ≡ true
capital_is_no_digit b h = grind (arith, nat_tests, h)

digit_is_no_other : (b : ℕ) → is_ascii_digit b ≡ true → not (is_no_digit b) ≡ true
digit_is_no_other b h = rw h refl

-- ---- one item

number_value : (n c : ℕ) (rest : List ℕ) → n < 2 ^ 64 → is_no_digit c ≡ true → digits_value 10 (front is_no_digit (decimal n ++ c ∷ rest)) ≡ n
number_value n c rest small at =
    ap (digits_value 10) (front_at is_no_digit (decimal n) c rest
    (all_so is_ascii_digit (λ b. not (is_no_digit b)) digit_is_no_other (decimal n) (decimal_digits n small)) at)
    ∙ (decimal_is_IsNumeral n small).1

pub number_onward : (n c : ℕ) (rest : List ℕ) → n < 2 ^ 64 → is_no_digit c ≡ true → onward is_no_digit (decimal n ++ c ∷ rest) ≡ c ∷ rest
number_onward n c rest small at =
    onward_at is_no_digit (decimal n) c rest
    (all_so is_ascii_digit (λ b. not (is_no_digit b)) digit_is_no_other (decimal n) (decimal_digits n small)) at

pub behind_number : (n c : ℕ) (rest : List ℕ) → n < 2 ^ 64 → is_no_digit c ≡ true → behind is_no_digit (decimal n ++ c ∷ rest) ≡ rest
behind_number n c rest small at = ap (drop 1) (number_onward n c rest small at)

pub word_front : (t : List ℕ) (c : ℕ) (rest : List ℕ) → IsWord t → is_gap c ≡ true → front is_gap (t ++ c ∷ rest) ≡ t
word_front t c rest h at = front_at is_gap t c rest (all_so is_solid (λ b. not (is_gap b)) solid_is_no_gap t h) at

pub word_onward : (t : List ℕ) (c : ℕ) (rest : List ℕ) → IsWord t → is_gap c ≡ true → onward is_gap (t ++ c ∷ rest) ≡ c ∷ rest
word_onward t c rest h at = onward_at is_gap t c rest (all_so is_solid (λ b. not (is_gap b)) solid_is_no_gap t h) at

code_letters : (letter : List ℕ) (n : ℕ) (rest : List ℕ) → list_all is_capital letter ≡ true → n < 2 ^ 64
    → front is_ascii_digit ((letter ++ decimal n) ++ rest) ≡ letter
code_letters letter n rest h small =
    let d = decimal_first n small in
    ap (λ ds. front is_ascii_digit ((letter ++ ds) ++ rest)) d.is ∙ ap (front is_ascii_digit) (append_assoc letter (d.first ∷ d.others) rest)
    ∙ front_at is_ascii_digit letter d.first (d.others ++ rest) (all_so is_capital (λ b. not (is_ascii_digit b)) capital_is_no_digit letter h) d.digit

code_number : (letter : List ℕ) (n : ℕ) (rest : List ℕ) → list_all is_capital letter ≡ true → n < 2 ^ 64
    → onward is_ascii_digit ((letter ++ decimal n) ++ rest) ≡ decimal n ++ rest
code_number letter n rest h small =
    let d = decimal_first n small in
    ap (λ ds. onward is_ascii_digit ((letter ++ ds) ++ rest)) d.is ∙ ap (onward is_ascii_digit) (append_assoc letter (d.first ∷ d.others) rest)
    ∙ onward_at is_ascii_digit letter d.first (d.others ++ rest) (all_so is_capital (λ b. not (is_ascii_digit b)) capital_is_no_digit letter h) d.digit
    ∙ ap (λ ds. ds ++ rest) (sym d.is)

pub code_onward : (letter : List ℕ) (n c : ℕ) (rest : List ℕ) → list_all is_capital letter ≡ true → n < 2 ^ 64 → is_gap c ≡ true
    → onward is_gap ((letter ++ decimal n) ++ c ∷ rest) ≡ c ∷ rest
code_onward letter n c rest h small at =
    onward_at is_gap (letter ++ decimal n) c rest
    (all_both (λ b. not (is_gap b)) letter (decimal n) (all_so is_capital (λ b. not (is_gap b)) capital_is_no_gap letter h)
    (all_so is_ascii_digit (λ b. not (is_gap b)) digit_is_no_gap (decimal n) (decimal_digits n small))) at

-- a text behind as many bytes
drop_word : (w : List ℕ) (c : ℕ) (rest : List ℕ) → drop (length w + 1) (w ++ c ∷ rest) ≡ rest
drop_word w c rest =
    ap (drop (length w + 1)) (sym (append_assoc w (c ∷ []) rest))
    ∙ drop_at (w ++ c ∷ []) rest (length w + 1) (length-append w (c ∷ []))

take_word : (w : List ℕ) (c : ℕ) (rest : List ℕ) (items : List Item) → filled (word w ∷ items) (w ++ c ∷ rest) ≡ word w ∷ filled items rest
unfolding filled
take_word w c rest items = ap (λ t. word w ∷ filled items t) (drop_word w c rest)

take_number : (key : List ℕ) (n c : ℕ) (rest : List ℕ) (items : List Item) → n < 2 ^ 64 → is_no_digit c ≡ true
    → filled (number key 0 ∷ items) (decimal n ++ c ∷ rest) ≡ number key n ∷ filled items rest
unfolding filled
take_number key n c rest items small at =
    ap₂ (λ m t. number key m ∷ filled items t) (number_value n c rest small at) (behind_number n c rest small at)

take_start : (key : List ℕ) (n c : ℕ) (rest : List ℕ) (items : List Item) → n < 2 ^ 64 → is_no_digit c ≡ true
    → filled (start key 0 ∷ items) (decimal n ++ c ∷ rest) ≡ start key n ∷ filled items rest
unfolding filled
take_start key n c rest items small at =
    ap₂ (λ m t. start key m ∷ filled items t) (number_value n c rest small at) (behind_number n c rest small at)

take_over : (key : List ℕ) (n c : ℕ) (rest : List ℕ) (items : List Item) → n < 2 ^ 64 → is_no_digit c ≡ true
    → filled (over key 0 ∷ items) (decimal n ++ c ∷ rest) ≡ over key n ∷ filled items rest
unfolding filled
take_over key n c rest items small at =
    ap₂ (λ m t. over key m ∷ filled items t) (number_value n c rest small at) (behind_number n c rest small at)

abbrev name_by : Bool → List ℕ → List ℕ → List Item → List ℕ → List Item
name_by b key s items t =
    (if b then name key s ∷ filled items (drop (length s + 1) t) else name key (front is_gap t) ∷ filled items (behind is_gap t))

take_name_by : (b : Bool) (key t : List ℕ) (c : ℕ) (rest : List ℕ) (items : List Item) → (b ≡ false → IsWord t) → is_gap c ≡ true
    → name_by b key (kept b t) items (t ++ c ∷ rest) ≡ name key t ∷ filled items rest
take_name_by true key t c rest items h at = ap (λ u. name key t ∷ filled items u) (drop_word t c rest)
take_name_by false key t c rest items h at =
    ap₂ (λ u v. name key u ∷ filled items (drop 1 v)) (word_front t c rest (h refl) at) (word_onward t c rest (h refl) at)

take_name : (key t : List ℕ) (c : ℕ) (rest : List ℕ) (items : List Item) → (is_key key ≡ false → IsWord t) → is_gap c ≡ true
    → filled (erased (name key t) ∷ items) (t ++ c ∷ rest) ≡ name key t ∷ filled items rest
unfolding filled
take_name key t c rest items h at = take_name_by (is_key key) key t c rest items h at

take_code : (key letter : List ℕ) (n c : ℕ) (rest : List ℕ) (items : List Item) → list_all is_capital letter ≡ true → n < 2 ^ 64
    → is_gap c ≡ true → is_no_digit c ≡ true
    → filled (code key [] 0 ∷ items) ((letter ++ decimal n) ++ c ∷ rest) ≡ code key letter n ∷ filled items rest
unfolding filled
take_code key letter n c rest items h small at end =
    let value : digits_value 10 (front is_no_digit (onward is_ascii_digit ((letter ++ decimal n) ++ c ∷ rest))) ≡ n =
    ap (λ t. digits_value 10 (front is_no_digit t)) (code_number letter n (c ∷ rest) h small) ∙ number_value n c rest small end in
    ap₂ (λ l m. code key l m ∷ filled items (behind is_gap ((letter ++ decimal n) ++ c ∷ rest))) (code_letters letter n (c ∷ rest) h small) value
    ∙ ap (λ t. code key letter n ∷ filled items (drop 1 t)) (code_onward letter n c rest h small at)

-- ---- all items

pub gapped : (item : Item) (items : List Item) → gap_after item ≡ 32 ∷ []
    → after_part item items ++ items_text items ≡ gap_before items ∷ items_text items
gapped item [] e = refl
gapped item (next ∷ items) e = ap (λ g. g ++ items_text (next ∷ items)) e

dashed : (key : List ℕ) (n : ℕ) (items : List Item) → after_part (start key n) items ++ items_text items ≡ dash_before items ∷ items_text items
dashed key n [] = refl
dashed key n (next ∷ items) = refl

slashed : (key : List ℕ) (n : ℕ) (items : List Item) → after_part (over key n) items ++ items_text items ≡ slash_before items ∷ items_text items
slashed key n [] = refl
slashed key n (next ∷ items) = refl

pub reads : (items : List Item) → AreSaid items → text_last items ≡ true → filled (map erased items) (items_text items) ≡ items
unfolding filled items_text AreSaid text_last
reads [] h last = refl
reads (word w ∷ items) h last =
    ap (λ g. filled (word w ∷ map erased items) (w ++ g)) (gapped (word w) items refl)
    ∙ take_word w (gap_before items) (items_text items) (map erased items) ∙ ap (λ l. word w ∷ l) (reads items h.1 last)
reads (number key n ∷ items) h last =
    ap (λ g. filled (number key 0 ∷ map erased items) (decimal n ++ g)) (gapped (number key n) items refl)
    ∙ take_number key n (gap_before items) (items_text items) (map erased items) h.0 (gap_is_no_digit items)
    ∙ ap (λ l. number key n ∷ l) (reads items h.1 last)
reads (start key n ∷ items) h last =
    ap (λ g. filled (start key 0 ∷ map erased items) (decimal n ++ g)) (dashed key n items)
    ∙ take_start key n (dash_before items) (items_text items) (map erased items) h.0 (dash_is_no_digit items)
    ∙ ap (λ l. start key n ∷ l) (reads items h.1 last)
reads (over key n ∷ items) h last =
    ap (λ g. filled (over key 0 ∷ map erased items) (decimal n ++ g)) (slashed key n items)
    ∙ take_over key n (slash_before items) (items_text items) (map erased items) h.0 (slash_is_no_digit items)
    ∙ ap (λ l. over key n ∷ l) (reads items h.1 last)
reads (name key t ∷ items) h last =
    ap (λ g. filled (erased (name key t) ∷ map erased items) (t ++ g)) (gapped (name key t) items refl)
    ∙ take_name key t (gap_before items) (items_text items) (map erased items) h.0.1 (gap_is items)
    ∙ ap (λ l. name key t ∷ l) (reads items h.1 last)
reads (code key letter n ∷ items) h last =
    ap (λ g. filled (code key [] 0 ∷ map erased items) ((letter ++ decimal n) ++ g)) (gapped (code key letter n) items refl)
    ∙ take_code key letter n (gap_before items) (items_text items) (map erased items) h.0.0 h.0.1 (gap_is items) (gap_is_no_digit items)
    ∙ ap (λ l. code key letter n ∷ l) (reads items h.1 last)
reads (text key t ∷ []) h last = ap (λ u. text key u ∷ []) (unescaped_back t h.0)
reads (text key t ∷ item ∷ items) h last = absurd (true≢false (sym last))
reads (unprinted key t ∷ items) h last = absurd (true≢false (sym last))
