-- Strings as they are spelled.
use Rattle.std.proofs.Common.{◌≡◌, ◌∷◌, ◌++◌, ◌∙◌, ◌+◌, [], List, ℕ, true, false, nat_lt, if◌then◌else◌, codes, drop, get_or, length, ap, sym, refl, ◌≤◌, ◌<◌}
use Rattle.std.proofs.Common.{arith, map}
use Rattle.std.proofs.lemmas.Bool.Decides.{nat_tests}
use Rattle.std.specs.List.{join_with_byte}
use Rattle.filetree.specs.FileTree.{slash}
use Rattle.std.proofs.lemmas.Grind.{flat_map-append}
use Rattle.std.proofs.lemmas.List.{append-nil, drop_more}
use Rattle.hex.specs.Hex.{encode_lower}
use Rattle.lines.specs.Strings.{short_escape, string_byte, string_bytes}

none_above : (n : ℕ) → n ≤ 0 → nat_lt 0 n ≡ false
none_above n h = grind (arith, nat_tests)

is_below : (b : ℕ) → b < 32 → nat_lt b 32 ≡ true
is_below b h = grind (arith, nat_tests)

-- a control character that has no short escape
pub control_is : (b letter : ℕ) → letter ≡ short_escape b → letter ≤ 0 → b < 32 → string_byte b ≡ codes "\\u00" ++ encode_lower (b ∷ [])
control_is b letter e none low =
    let no_letter = none_above letter none in
    let is_low = is_below b low in
    ap (λ l. if nat_lt 0 l then 92 ∷ l ∷ [] else (if nat_lt b 32 then codes "\\u00" ++ encode_lower (b ∷ []) else b ∷ [])) (sym e)
    ∙ ap (λ t. if t then 92 ∷ letter ∷ [] else (if nat_lt b 32 then codes "\\u00" ++ encode_lower (b ∷ []) else b ∷ [])) no_letter
    ∙ ap (λ t. if t then codes "\\u00" ++ encode_lower (b ∷ []) else b ∷ []) is_low

-- the byte at an index, and those after it
pub next_byte : (text : List ℕ) (i d : ℕ) → i < length text → string_bytes (drop i text) ≡ string_byte (get_or text i d) ++ string_bytes (drop (i + 1) text)
next_byte text i d inside = ap string_bytes (drop_more text i d inside)

-- a path's components after the first, with `/` before each
abbrev pub joined_rest : List (List ℕ) → List ℕ
joined_rest [] = []
joined_rest (next ∷ others) = codes "/" ++ (string_bytes next ++ joined_rest others)

-- a path is its first component and those after it
joined_first : (first : List ℕ) (others : List (List ℕ)) → string_bytes (join_with_byte slash (first ∷ others)) ≡ string_bytes first ++ joined_rest others
joined_first first [] = sym (append-nil (string_bytes first))
joined_first first (next ∷ others) =
    flat_map-append string_byte first (slash ∷ join_with_byte slash (next ∷ others))
    ∙ ap (λ t. string_bytes first ++ (codes "/" ++ t)) (joined_first next others)

-- the same of a path by what its components say
pub from_first : {A : Type 0} (text_of : A → List ℕ) (path others : List A) (first : A) (text : List ℕ) → path ≡ first ∷ others → text ≡ text_of first
    → string_bytes (join_with_byte slash (map text_of path)) ≡ string_bytes text ++ joined_rest (map text_of others)
from_first text_of path others first text is same =
    ap (λ p. string_bytes (join_with_byte slash (map text_of p))) is ∙ joined_first (text_of first) (map text_of others)
    ∙ ap (λ t. string_bytes t ++ joined_rest (map text_of others)) (sym same)

-- the component at an index, and those after it
pub next_part : {A : Type 0} (text_of : A → List ℕ) (parts : List A) (i : ℕ) (d : A) (text : List ℕ) → i < length parts → text ≡ text_of (get_or parts i d)
    → joined_rest (map text_of (drop i parts)) ≡ codes "/" ++ (string_bytes text ++ joined_rest (map text_of (drop (i + 1) parts)))
next_part text_of parts i d text inside is =
    ap (λ ps. joined_rest (map text_of ps)) (drop_more parts i d inside)
    ∙ ap (λ t. codes "/" ++ (string_bytes t ++ joined_rest (map text_of (drop (i + 1) parts)))) (sym is)
