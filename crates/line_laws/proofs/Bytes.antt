-- A string as lines spell it is the string of the kit's JSON writer.
use Rattle.std.proofs.Common.{◌≡◌, ◌∷◌, ◌++◌, ◌≤◌, ◌<◌, [], List, ℕ, zero, suc, Bool, true, false, ◌&&◌, ◌==◌, not, nat_lt, nat_le, bytes_eq, ap₂, sym, refl}
use Rattle.std.proofs.Common.{arith, inl, inr, ne_eqb, true≢false}
use Rattle.std.specs.List.{list_all}
use Rattle.std.proofs.lemmas.Bool.{and_parts, cases_lt, leb-true}
use Rattle.std.proofs.lemmas.Bool.Decides.{nat_tests}
use Rattle.std.proofs.lemmas.Slice.Eq.{bytes_eq-Decides}
use Rattle.hex.specs.Hex.{encode_with}
use Rattle.json.specs.Print.{escape, escape_byte}
use Rattle.lines.specs.Strings.{string_byte, string_bytes}
use Rattle.line_laws.specs.Plain.{is_plain, ArePlain}

-- the two spell this byte alike
abbrev is_alike : ℕ → Bool
is_alike b = bytes_eq (string_byte b) (escape_byte b)

abbrev all_alike : ℕ → Bool
all_alike zero = true
all_alike (suc n) = is_alike n && all_alike n

alike_below : (n b : ℕ) → all_alike n ≡ true → b < n → is_alike b ≡ true
alike_below zero b h below = absurd (omega arith)
alike_below (suc n) b h below =
    let parts = and_parts (is_alike n) (all_alike n) h in
    elim (cases_lt b n) [
      | inl under ↦ alike_below n b parts.1 under
      | inr over ↦ let at : b ≡ n = omega arith in rw at parts.0
    ]

low_ones : all_alike 93 ≡ true
unfolding escape_byte encode_with
low_ones = refl

not_this : (k b : ℕ) → k < 93 → 93 ≤ b → (b == k) ≡ false
not_this k b low high = ne_eqb b k (λ e. omega (arith, e))

not_below : (b : ℕ) → 93 ≤ b → nat_lt b 32 ≡ false
not_below b high = grind (arith, nat_tests)

high_one : (b : ℕ) → 93 ≤ b → string_byte b ≡ escape_byte b
unfolding escape_byte
high_one b h =
    rw (
      not_this 34 b (omega arith) h,
      not_this 92 b (omega arith) h,
      not_this 8 b (omega arith) h,
      not_this 9 b (omega arith) h,
      not_this 10 b (omega arith) h,
      not_this 12 b (omega arith) h,
      not_this 13 b (omega arith) h,
      not_below b h,
    ) refl

pub same_byte : (b : ℕ) → string_byte b ≡ escape_byte b
same_byte b =
    elim (cases_lt b 93) [
      | inl low ↦ (bytes_eq-Decides (string_byte b) (escape_byte b)).0 (alike_below 93 b low_ones low)
      | inr high ↦ high_one b high
    ]

pub same_string : (t : List ℕ) → string_bytes t ≡ escape t
same_string [] = refl
same_string (b ∷ t) = ap₂ (λ x y. x ++ y) (same_byte b) (same_string t)

-- a byte that is plain is no quote, no backslash and no control character
above : (k b : ℕ) → k < 32 → nat_le 32 b ≡ true → (b == k) ≡ false
above k b low high = let over : 32 ≤ b = leb-true 32 b high in ne_eqb b k (λ e. omega (arith, e))

is_over : (b : ℕ) → nat_le 32 b ≡ true → nat_lt b 32 ≡ false
is_over b high = grind (arith, nat_tests, high)

not_so : (t : Bool) → not t ≡ true → t ≡ false
not_so true e = absurd (true≢false (sym e))
not_so false e = refl

plain_byte : (b : ℕ) → is_plain b ≡ true → escape_byte b ≡ b ∷ []
unfolding escape_byte
plain_byte b h =
    let parts = and_parts (nat_le 32 b) (not (b == 34) && not (b == 92)) h in
    let others = and_parts (not (b == 34)) (not (b == 92)) parts.1 in
    rw (
      not_so (b == 34) others.0,
      not_so (b == 92) others.1,
      above 8 b (omega arith) parts.0,
      above 9 b (omega arith) parts.0,
      above 10 b (omega arith) parts.0,
      above 12 b (omega arith) parts.0,
      above 13 b (omega arith) parts.0,
      is_over b parts.0,
    ) refl

pub plain_string : (t : List ℕ) → ArePlain t → escape t ≡ t
plain_string [] h = refl
plain_string (b ∷ t) h =
    let parts = and_parts (is_plain b) (list_all is_plain t) h in ap₂ (λ x y. x ++ y) (plain_byte b parts.0) (plain_string t parts.1)
