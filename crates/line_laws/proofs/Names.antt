-- Names, digests and paths of lines.
use Rattle.std.proofs.Common.{◌≡◌, ◌∷◌, ◌++◌, ◌/◌, ◌%◌, ◌<◌, ◌^◌, [], List, ℕ, zero, suc, Bool, true, ◌&&◌, length, slice_index, decimal, refl, arith, inl}
use Rattle.std.proofs.Common.{inr, nat_le, ◌≤◌, le-leb, ne_eqb}
use Rattle.std.specs.Char.{is_ascii_digit}
use Rattle.std.specs.List.{join_with_byte}
use Rattle.std.proofs.lemmas.Bool.{and_parts, cases_lt, leb-true}
use Rattle.filetree.specs.FileTree.{slash}
use Rattle.hex.specs.Hex.{encode_lower, encode_with, lower_digits, IsBytes}
use Rattle.hex.proofs.HexLemmas.{length-encode_with}
use Rattle.line_laws.specs.Plain.{ArePlain, is_plain}
use Rattle.line_laws.specs.Said.{is_solid, is_capital, AreCapitals, IsWord}
use Rattle.line_laws.specs.Lines.{AreTexts}
use Rattle.line_laws.proofs.Cuts.{all_so, all_both, decimal_digits}

pub word_is_plain : (t : List ℕ) → IsWord t → ArePlain t
word_is_plain t h = all_so is_solid is_plain (λ b e. (and_parts (is_plain b) _ e).0) t h

capital_is_plain : (b : ℕ) → is_capital b ≡ true → is_plain b ≡ true
capital_is_plain b h =
    let over : 65 ≤ b = leb-true 65 b (and_parts (nat_le 65 b) (nat_le b 90) h).0 in
    let under : b ≤ 90 = leb-true b 90 (and_parts (nat_le 65 b) (nat_le b 90) h).1 in
    rw (le-leb 32 b (omega arith), ne_eqb b 34 (λ e. omega (arith, e)), ne_eqb b 92 (λ e. omega (arith, e))) refl

pub digit_is_plain : (b : ℕ) → is_ascii_digit b ≡ true → is_plain b ≡ true
digit_is_plain b h =
    let over : 48 ≤ b = leb-true 48 b (and_parts (nat_le 48 b) (nat_le b 57) h).0 in
    let under : b ≤ 57 = leb-true b 57 (and_parts (nat_le 48 b) (nat_le b 57) h).1 in
    rw (le-leb 32 b (omega arith), ne_eqb b 34 (λ e. omega (arith, e)), ne_eqb b 92 (λ e. omega (arith, e))) refl

pub code_is_plain : (letter : List ℕ) (n : ℕ) → AreCapitals letter → n < 2 ^ 64 → ArePlain (letter ++ decimal n)
code_is_plain letter n h small =
    all_both is_plain letter (decimal n) (all_so is_capital is_plain capital_is_plain letter h)
    (all_so is_ascii_digit is_plain digit_is_plain (decimal n) (decimal_digits n small))

-- ---- digests

abbrev all_solid : ℕ → Bool
all_solid zero = true
all_solid (suc n) = is_solid (slice_index lower_digits n) && all_solid n

solid_below : (n d : ℕ) → all_solid n ≡ true → d < n → is_solid (slice_index lower_digits d) ≡ true
solid_below zero d h below = absurd (omega arith)
solid_below (suc n) d h below =
    let parts = and_parts (is_solid (slice_index lower_digits n)) (all_solid n) h in
    elim (cases_lt d n) [
      | inl under ↦ solid_below n d parts.1 under
      | inr over ↦ let at : d ≡ n = omega arith in rw at parts.0
    ]

pub digit_is_solid : (d : ℕ) → d < 16 → is_solid (slice_index lower_digits d) ≡ true
digit_is_solid d small = solid_below 16 d refl small

pub hex_is_word : (d : List ℕ) → IsBytes d → IsWord (encode_lower d)
unfolding encode_with
hex_is_word [] h = refl
hex_is_word (b ∷ d) h =
    let fits : b < 256 = h 0 in
    rw (digit_is_solid (b / 16) (omega arith), digit_is_solid (b % 16) (omega arith), hex_is_word d (λ i. h (suc i))) refl

pub root_digits : (d : List ℕ) → length d ≡ 32 → length (encode_lower d) ≡ 64
root_digits d e = let n = length-encode_with lower_digits d in omega (arith, n, e)

-- ---- paths

bytes_more : (b : ℕ) (t : List ℕ) → b < 256 → IsBytes t → IsBytes (b ∷ t)
bytes_more b t small h zero = small
bytes_more b t small h (suc i) = h i

bytes_both : (s t : List ℕ) → IsBytes s → IsBytes t → IsBytes (s ++ t)
bytes_both [] t hs ht = ht
bytes_both (b ∷ s) t hs ht = bytes_more b (s ++ t) (hs 0) (bytes_both s t (λ i. hs (suc i)) ht)

no_bytes : IsBytes []
no_bytes i = omega arith

pub path_is_bytes : (parts : List (List ℕ)) → AreTexts parts → IsBytes (join_with_byte slash parts)
path_is_bytes [] h = no_bytes
path_is_bytes (part ∷ []) h = h.0
path_is_bytes (part ∷ next ∷ parts) h =
    bytes_both part (slash ∷ join_with_byte slash (next ∷ parts)) h.0
    (bytes_more slash (join_with_byte slash (next ∷ parts)) (omega arith) (path_is_bytes (next ∷ parts) h.1))
