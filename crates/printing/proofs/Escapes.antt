-- A text that is escaped part by part, and a path that is written component by component.
use Rattle.std.proofs.Common.{◌≡◌, ◌++◌, ◌+◌, ◌-◌, ◌<◌, ◌≤◌, ℕ, List, [], ◌∷◌, length, take, drop, codes, slice_index, false, if◌then◌else◌, sym, ap, ◌∙◌}
use Rattle.std.proofs.Common.{arith, append_assoc}
use Rattle.std.proofs.lemmas.List.{take-append-drop, take_more, drop_more, get_or-drop, length-drop, append-nil}
use Rattle.std.proofs.Math.Seq.{take-length}
use Rattle.std.proofs.lemmas.Grind.{flat_map-append}
use Rattle.std.specs.List.{flat_map, join_with_byte}
use Rattle.hex.specs.Hex.{encode_lower}
use Rattle.printing.specs.Ascii.{slash}
use Rattle.printing.specs.Text.{is_special, escape_of, escaped, path_text}

-- what is escaped of the first bytes, and what is to come
pub escaped_split : (text : List ℕ) (i : ℕ) → escaped text ≡ escaped (take i text) ++ escaped (drop i text)
escaped_split text i = ap escaped (sym (take-append-drop i text)) ∙ flat_map-append escape_of (take i text) (drop i text)

-- one more byte
pub escaped_more : (text : List ℕ) (i : ℕ) → i < length text → escaped (take (i + 1) text) ≡ escaped (take i text) ++ escape_of (slice_index text i)
escaped_more text i l =
    ap escaped (take_more text i 0 l) ∙ flat_map-append escape_of (take i text) (slice_index text i ∷ [])
    ∙ ap (λ t. escaped (take i text) ++ t) (append-nil (escape_of (slice_index text i)))

-- one byte and the rest
pub escaped_next : (text : List ℕ) (i : ℕ) → i < length text → escaped (drop i text) ≡ escape_of (slice_index text i) ++ escaped (drop (i + 1) text)
escaped_next text i l = ap escaped (drop_more text i 0 l)

pub escape_plain : (b : ℕ) → is_special b ≡ false → escape_of b ≡ b ∷ []
escape_plain b e = ap (λ t. if t then codes "\\x" ++ encode_lower (b ∷ []) else b ∷ []) e

-- a part of the text that ends before one byte, and the part with that byte
pub part_more : (text : List ℕ) (start i : ℕ) → start ≤ i → i < length text → take (i + 1 - start) (drop start text) ≡ take (i - start) (drop start text)
    ++ slice_index text i ∷ []
part_more text start i le l =
    let n : i + 1 - start ≡ (i - start) + 1 = omega arith in
    let there : i - start < length (drop start text) = omega (arith, length-drop start text) in
    let at : start + (i - start) ≡ i = omega arith in
    ap (λ k. take k (drop start text)) n ∙ take_more (drop start text) (i - start) 0 there
    ∙ ap (λ b. take (i - start) (drop start text) ++ b ∷ []) (get_or-drop start text (i - start) 0 ∙ ap (slice_index text) at)

-- the text, cut at one byte, if what is escaped so far is what went out and a part that is to come
pub cut_at : (text : List ℕ) (i : ℕ) (sent part : List ℕ) → escaped (take i text) ≡ sent ++ part → escaped text ≡ sent ++ (part ++ escaped (drop i text))
cut_at text i sent part e = escaped_split text i ∙ ap (λ t. t ++ escaped (drop i text)) e ∙ append_assoc sent part (escaped (drop i text))

-- the same with that byte's escape on its own
pub cut_round : (text : List ℕ) (i : ℕ) (sent part escape : List ℕ) → i < length text → escaped (take i text) ≡ sent ++ part
    → escape ≡ escape_of (slice_index text i)
    → escaped text ≡ sent ++ (part ++ (escape ++ escaped (drop (i + 1) text)))
cut_round text i sent part escape l e is =
    cut_at text i sent part e ∙ ap (λ t. sent ++ (part ++ t)) (escaped_next text i l ∙ ap (λ t. t ++ escaped (drop (i + 1) text)) (sym is))

-- an escape went out
pub after_escape : (text : List ℕ) (i start : ℕ) (sent part escape : List ℕ) → i < length text → escaped (take i text) ≡ sent ++ part
    → escape ≡ escape_of (slice_index text i) → start ≡ i + 1
    → escaped (take (i + 1) text) ≡ (sent ++ (part ++ escape)) ++ take (i + 1 - start) (drop start text)
after_escape text i start sent part escape l e is at =
    let none : i + 1 - start ≡ 0 = omega arith in
    escaped_more text i l ∙ ap (λ t. t ++ escape_of (slice_index text i)) e ∙ ap (λ t. (sent ++ part) ++ t) (sym is) ∙ append_assoc sent part escape
    ∙ sym (append-nil (sent ++ (part ++ escape))) ∙ ap (λ k. (sent ++ (part ++ escape)) ++ take k (drop start text)) (sym none)

-- a byte that stands as it is joins the part that is to come
pub after_plain : (text : List ℕ) (i start : ℕ) (sent : List ℕ) → i < length text → start ≤ i
    → escaped (take i text) ≡ sent ++ take (i - start) (drop start text) → is_special (slice_index text i) ≡ false
    → escaped (take (i + 1) text) ≡ sent ++ take (i + 1 - start) (drop start text)
after_plain text i start sent l le e plain =
    escaped_more text i l ∙ ap (λ t. escaped (take i text) ++ t) (escape_plain (slice_index text i) plain) ∙ ap (λ t. t ++ slice_index text i ∷ []) e
    ∙ append_assoc sent (take (i - start) (drop start text)) (slice_index text i ∷ []) ∙ ap (λ t. sent ++ t) (sym (part_more text start i le l))

-- all bytes were looked at
pub at_end : (text : List ℕ) (i start : ℕ) (sent : List ℕ) → i ≡ length text → escaped (take i text) ≡ sent ++ take (i - start) (drop start text)
    → escaped text ≡ sent ++ take (length text - start) (drop start text)
at_end text i start sent all e =
    ap escaped (sym (take-length text)) ∙ ap (λ k. escaped (take k text)) (sym all) ∙ e ∙ ap (λ k. sent ++ take (k - start) (drop start text)) all

-- components of a path after the first one
abbrev pub tail_text : List (List ℕ) → List ℕ
tail_text parts = flat_map (λ part. slash ∷ escaped part) parts

-- a path is its first component and those after it
pub path_text-cons : (first : List ℕ) (others : List (List ℕ)) → path_text (first ∷ others) ≡ escaped first ++ tail_text others
path_text-cons first [] = sym (append-nil (escaped first))
path_text-cons first (next ∷ others) =
    flat_map-append escape_of first (slash ∷ join_with_byte slash (next ∷ others))
    ∙ ap (λ t. escaped first ++ (slash ∷ t)) (path_text-cons next others)
