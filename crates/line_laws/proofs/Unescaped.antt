-- A text that is printed with its escapes is read back.
use Rattle.std.proofs.Common.{◌≡◌, ◌∷◌, ◌++◌, ◌∙◌, ◌<◌, [], List, ℕ, zero, suc, Bool, true, false, ◌==◌, ◌||◌, nat_lt, if◌then◌else◌, codes, ap, sym, refl}
use Rattle.std.proofs.Common.{arith, append_assoc}
use Rattle.std.specs.Result.{result_unwrap_or}
use Rattle.std.proofs.lemmas.Bool.{eqb-true, false_from_ne_true, or_parts, true≢false}
use Rattle.hex.specs.Hex.{encode_lower, encode_with, IsBytes, decode_of}
use Rattle.hex.proofs.HexLemmas.{decode_of-encode_lower}
use Rattle.printing.specs.Text.{escaped, escape_of, is_special}

-- where reading is: outside an escape, behind its backslash, behind its letter, or behind a digit
pub data Place : Type 0 where
  outside : Place
  behind_backslash : Place
  behind_letter : Place
  behind_digit : ℕ → Place

abbrev pub byte_of : ℕ → ℕ → List ℕ
byte_of high low = result_unwrap_or (decode_of (high ∷ low ∷ [])) []

-- the text that was printed, up to the line feed
unfoldable pub unescaped : Place → List ℕ → List ℕ
unescaped p [] = []
unescaped outside (x ∷ xs) = (if x == 10 then [] else (if x == 92 then unescaped behind_backslash xs else x ∷ unescaped outside xs))
unescaped behind_backslash (x ∷ xs) = unescaped behind_letter xs
unescaped behind_letter (x ∷ xs) = unescaped (behind_digit x) xs
unescaped (behind_digit high) (x ∷ xs) = byte_of high x ++ unescaped outside xs

one_byte : (b : ℕ) → b < 256 → IsBytes (b ∷ [])
one_byte b fits zero = fits
one_byte b fits (suc i) = omega arith

digits_back : (b : ℕ) → b < 256 → result_unwrap_or (decode_of (encode_lower (b ∷ []))) [] ≡ b ∷ []
digits_back b fits = ap (λ r. result_unwrap_or r []) (decode_of-encode_lower (b ∷ []) (one_byte b fits))

pub not_ten : (b : ℕ) → is_special b ≡ false → (b == 10) ≡ false
not_ten b e =
    false_from_ne_true (b == 10) (λ t. let is : is_special 10 ≡ false = ap is_special (sym (eqb-true b 10 t)) ∙ e in true≢false is)

not_backslash : (b : ℕ) → is_special b ≡ false → (b == 92) ≡ false
not_backslash b e = (or_parts (b == 127) (b == 92) (or_parts (nat_lt b 32) (b == 127 || b == 92) e).1).1

one_back : (s : Bool) (b : ℕ) (rest : List ℕ) → s ≡ is_special b → b < 256
    → unescaped outside ((if s then codes "\\x" ++ encode_lower (b ∷ []) else b ∷ []) ++ rest) ≡ b ∷ unescaped outside rest
unfolding unescaped encode_with
one_back true b rest e fits = ap (λ t. t ++ unescaped outside rest) (digits_back b fits)
one_back false b rest e fits = rw (not_ten b (sym e), not_backslash b (sym e)) refl

pub unescaped_back : (t : List ℕ) → IsBytes t → unescaped outside (escaped t ++ 10 ∷ []) ≡ t
unfolding unescaped
unescaped_back [] h = refl
unescaped_back (b ∷ t) h =
    ap (unescaped outside) (append_assoc (escape_of b) (escaped t) (10 ∷ []))
    ∙ one_back (is_special b) b (escaped t ++ 10 ∷ []) refl (h 0)
    ∙ ap (λ s. b ∷ s) (unescaped_back t (λ i. h (suc i)))
