-- The number in front of a text.
use Rattle.std.proofs.Common.{◌≡◌, inl, inr, ℕ, ◌+◌, ◌<◌, List, ◌++◌, length, take, drop, get_or, sym, ◌∙◌, ap, subst, arith, take-append-drop}
use Rattle.std.proofs.lemmas.Bool.{cases_lt}
use Rattle.std.proofs.lemmas.List.{get_or-take, get_or_past, length-take-le}
use Rattle.std.proofs.lemmas.Nat.{be_bytes_8}
use Rattle.std.specs.Int.{w64, from_be_bytes, to_be_bytes}
use Rattle.part_texts.specs.Texts.{number_text}

small_front : (text : List ℕ) (i : ℕ) → length (take 8 text) ≡ 8 → ((i : ℕ) → get_or text i 0 < 256) → get_or (take 8 text) i 0 < 256
small_front text i len small = elim (cases_lt i 8) [
  | inl low ↦ omega (arith, get_or-take 8 text i 0 low, small i)
  | inr past ↦ omega (arith, get_or_past (take 8 text) i 0 (omega (arith, past, len)))
]

-- the text begins with the number that its first eight bytes are
pub number_in_front : (text bytes rest : List ℕ) (n : ℕ) → ((i : ℕ) → get_or text i 0 < 256) → bytes ≡ take 8 text → rest ≡ drop 8 text
    → length rest + 8 ≡ length text → n ≡ from_be_bytes w64 bytes → text ≡ number_text n ++ rest
unfolding number_text
number_in_front text bytes rest n small front back count is =
    let len : length (take 8 text) ≡ 8 = length-take-le 8 text (omega (arith, count)) in
    let own = be_bytes_8 (take 8 text) n len (λ i. small_front text i len small) (is ∙ ap (from_be_bytes w64) front) in
    sym (take-append-drop 8 text) ∙ ap (λ l. l ++ drop 8 text) (sym own) ∙ ap (λ l. to_be_bytes w64 n ++ l) (sym back)
