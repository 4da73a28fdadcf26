-- What is spelled so is read, whatever follows.
use Rattle.std.proofs.Common.{◌≡◌, ◌≢◌, ℕ, zero, suc, ◌+◌, ◌-◌, ◌<◌, ◌≤◌, ◌^◌, true, false, cond, eqb, leb, ltb, List, [], ◌∷◌, ◌++◌, length, get_or, Option}
use Rattle.std.proofs.Common.{Some, None, Ok, Err, ℤ, pos, negsuc, refl, sym, ap, ap₂, ◌∙◌, subst, append_assoc, arith}
use Rattle.std.specs.Prelude.{FitsSigned}
use Rattle.std.specs.Int.{w64}
use Rattle.std.specs.List.{prefix_len}
use Rattle.std.specs.Fmt.{decimal, signed_decimal}
use Rattle.std.specs.Char.{digit_value}
use Rattle.std.specs.Str.Parse.{AllDigits}
use Rattle.std.proofs.lemmas.Bool.Decides.{nat_tests}
use Rattle.std.proofs.lemmas.Bool.{le-ltb}
use Rattle.std.proofs.lemmas.List.{take_at, drop_at, length-append, append_cancel_right}
use Rattle.benc.proofs.Sound.{fine, ok_of}
use Rattle.std.proofs.lemmas.Fmt.{decimal_is_IsNumeral, first_decimal, decimal_digit, length-decimal-le}
use Rattle.benc.proofs.Turns.{is_other}
use Rattle.benc.specs.Value.{Bencode, int, text, list, dict, Items, no_items, item, Pairs, no_pairs, pair}
use Rattle.benc.specs.Spelling.{string, IsAbove, Spelled, SpelledItems, SpelledPairs}
use Rattle.benc.specs.Parser.{◌>>=◌, Parsed, begun_at, items_at, pairs_at, value_at}
use Rattle.benc.specs.declared.fault.FaultKind.TheVariants.{KeyOrder}
use Rattle.benc.proofs.Values.{value_integer, value_items, value_pairs, value_text}
use Rattle.benc.specs.Digits.{is_digit, digits_of_front, after_digits}
use Rattle.benc.specs.Spelling.{is_above}
use Rattle.benc.specs.Items.{is_plain_run, integer_of, digits_at, integer_at, string_of, string_at, in_order, key_at}

digit_test : (c : ℕ) → digit_value c < 10 → is_digit c ≡ true
digit_test c h = grind (arith, nat_tests, h)

-- a run of digits before a byte that is none
front_len : (run : List ℕ) (c : ℕ) (rest : List ℕ) → AllDigits 10 run → is_digit c ≡ false → prefix_len is_digit (run ++ c ∷ rest) ≡ length run
front_len [] c rest h n = rw n refl
front_len (d ∷ run) c rest h n = rw (digit_test d h.0, front_len run c rest h.1 n) (omega arith)

front_is : (run : List ℕ) (c : ℕ) (rest : List ℕ) → AllDigits 10 run → is_digit c ≡ false → digits_of_front (run ++ c ∷ rest) ≡ run
front_is run c rest h n = rw (front_len run c rest h n) (take_at run (c ∷ rest) (length run) refl)

after_is : (run : List ℕ) (c : ℕ) (rest : List ℕ) → AllDigits 10 run → is_digit c ≡ false → after_digits (run ++ c ∷ rest) ≡ c ∷ rest
after_is run c rest h n = rw (front_len run c rest h n) (drop_at run (c ∷ rest) (length run) refl)

-- the text of a number has no leading zero, but for `0`
decimal_plain : (n : ℕ) → n < 2 ^ 64 → is_plain_run (decimal n) ≡ true
decimal_plain zero small = rw (decimal_digit 0 (omega arith)) refl
decimal_plain (suc n) small =
    let long = (decimal_is_IsNumeral (suc n) small).0.0 in
    let first = first_decimal (suc n) (omega arith) small in
    grind (arith, nat_tests, long, first)

-- ':' and 'e' are no digits
stops_digits : (c : ℕ) → 57 < c → is_digit c ≡ false
stops_digits c h = grind (arith, nat_tests, h)

pub string_again : (s rest : List ℕ) → length s < 10 ^ 10 → string_at (string s ++ rest) ≡ Ok (s, rest)
string_again s rest small =
    let n = length s in
    let run = decimal n in
    let numeral = decimal_is_IsNumeral n (omega arith) in
    let other = stops_digits 58 (omega arith) in
    let regrouped : string s ++ rest ≡ run ++ 58 ∷ (s ++ rest) = append_assoc run (58 ∷ s) rest in
    let few : ltb 10 (length run) ≡ false = le-ltb _ _ (length-decimal-le 10 n (omega arith) small (omega arith)) in
    let enough : ltb (length (s ++ rest)) n ≡ false = le-ltb _ _ (omega (arith, length-append s rest)) in
    ap string_at regrouped ∙ ap₂ string_of (front_is run 58 (s ++ rest) numeral.0.1 other) (after_is run 58 (s ++ rest) numeral.0.1 other)
    ∙ rw (decimal_plain n (omega arith), few, numeral.1, enough, take_at s rest n refl, drop_at s rest n refl) refl

plus_again : (n : ℕ) (rest : List ℕ) → n < 2 ^ 63 → digits_at false (decimal n ++ 101 ∷ rest) ≡ Ok (pos n, rest)
plus_again n rest small =
    let run = decimal n in
    let numeral = decimal_is_IsNumeral n (omega arith) in
    let other = stops_digits 101 (omega arith) in
    let inside : ltb n (2 ^ 63) ≡ true = grind (arith, nat_tests, small) in
    ap₂ (integer_of false) (front_is run 101 rest numeral.0.1 other) (after_is run 101 rest numeral.0.1 other)
    ∙ rw (decimal_plain n (omega arith), numeral.1, inside) refl

minus_again : (n : ℕ) (rest : List ℕ) → n < 2 ^ 63 → digits_at true (decimal (suc n) ++ 101 ∷ rest) ≡ Ok (negsuc n, rest)
minus_again n rest small =
    let run = decimal (suc n) in
    let numeral = decimal_is_IsNumeral (suc n) (omega arith) in
    let other = stops_digits 101 (omega arith) in
    let inside : leb (suc n) (2 ^ 63) ≡ true = grind (arith, nat_tests, small) in
    let first = first_decimal (suc n) (omega arith) (omega arith) in
    let head : eqb (get_or run 0 0) 48 ≡ false = is_other _ _ (λ e. omega arith) in
    ap₂ (integer_of true) (front_is run 101 rest numeral.0.1 other) (after_is run 101 rest numeral.0.1 other)
    ∙ rw (decimal_plain (suc n) (omega arith), head, numeral.1, inside) refl

unsigned_at : (run rest : List ℕ) → AllDigits 10 run → 0 < length run → integer_at (run ++ rest) ≡ digits_at false (run ++ rest)
unsigned_at [] rest h long = absurd (omega arith)
unsigned_at (d ∷ run) rest h long = rw (is_other d 45 (λ e. absurd (omega (arith, subst (λ x. digit_value x < 10) e h.0)))) refl

pub integer_again : (z : ℤ) (rest : List ℕ) → FitsSigned w64 z → integer_at (signed_decimal z ++ 101 ∷ rest) ≡ Ok (z, rest)
integer_again (pos n) rest fits =
    let small : n < 2 ^ 63 = omega (arith, fits.sfits) in
    let numeral = decimal_is_IsNumeral n (omega arith) in
    unsigned_at (decimal n) (101 ∷ rest) numeral.0.1 numeral.0.0 ∙ plus_again n rest small
integer_again (negsuc n) rest fits = minus_again n rest (omega (arith, fits.sfits))

pub digits_head : (run x : List ℕ) → AllDigits 10 run → 0 < length run → (c : ℕ) × (t : List ℕ) × (run ++ x ≡ c ∷ t) × (48 ≤ c) × (c ≤ 57)
digits_head [] x h long = absurd (omega arith)
digits_head (d ∷ run) x h long = (d, run ++ x, refl, grind (arith, nat_tests, h.0), grind (arith, nat_tests, h.0))

key_cons : (before : Option (List ℕ)) (run r : List ℕ) → AllDigits 10 run → 0 < length run → key_at before (run ++ r) ≡ in_order before (string_at (run ++ r))
key_cons before [] r h long = absurd (omega arith)
key_cons before (d ∷ run) r h long = rw (digit_test d h.0) refl

above_is : (k : List ℕ) (before : Option (List ℕ)) → IsAbove k before → is_above k before ≡ true
above_is k None h = refl
above_is k (Some last) h = grind (arith, nat_tests, h)

pub key_again : (before : Option (List ℕ)) (k rest : List ℕ) → length k < 10 ^ 10 → IsAbove k before → key_at before (string k ++ rest) ≡ Ok (k, rest)
key_again before k rest small above =
    let run = decimal (length k) in
    let numeral = decimal_is_IsNumeral (length k) (omega arith) in
    let regrouped : string k ++ rest ≡ run ++ (58 ∷ (k ++ rest)) = append_assoc run (58 ∷ k) rest in
    ap (key_at before) regrouped ∙ key_cons before run (58 ∷ (k ++ rest)) numeral.0.1 numeral.0.0 ∙ ap (λ b. in_order before (string_at b)) (sym regrouped)
    ∙ ap (in_order before) (string_again k rest small)
    ∙ ap (λ b. cond b (Ok (k, rest)) (Err KeyOrder)) (above_is k before above)

pub spelled_head : (room : ℕ) (v : Bencode) (b : List ℕ) → Spelled room v b → (c : ℕ) × (t : List ℕ) × (b ≡ c ∷ t) × (c ≢ 101)
spelled_head room (int z) b s = (105, signed_decimal z ++ 101 ∷ [], s.1, λ e. omega arith)
spelled_head room (list vs) b s = (108, s.1 ++ 101 ∷ [], s.2, λ e. omega arith)
spelled_head room (dict ps) b s = (100, s.1 ++ 101 ∷ [], s.2, λ e. omega arith)
spelled_head room (text t) b s =
    let numeral = decimal_is_IsNumeral (length t) (omega (arith, s.0)) in
    let h = digits_head (decimal (length t)) (58 ∷ t) numeral.0.1 numeral.0.0 in
    (h.0, h.1, s.1 ∙ h.2, λ e. omega arith)

items_stop_at : (p : List ℕ → Parsed Bencode) (n : ℕ) (b rest : List ℕ) → 0 < n → b ≡ 101 ∷ rest → items_at p n b ≡ Ok (no_items, rest)
unfolding items_at
items_stop_at p zero b rest h e = absurd (omega arith)
items_stop_at p (suc n) b rest h e = rw e refl

items_step_at : (p : List ℕ → Parsed Bencode) (n c : ℕ) (b t rest : List ℕ) (v : Bencode) (vs : Items) (end : List ℕ) → b ≡ c ∷ t → c ≢ 101 → p b ≡ Ok (v, rest)
    → items_at p n rest ≡ Ok (vs, end) → items_at p (suc n) b ≡ Ok (item v vs, end)
unfolding items_at
items_step_at p n c b t rest v vs end e ne first more = ap (items_at p (suc n)) e ∙ rw (is_other c 101 ne, ← e, first, more) refl

pairs_stop_at : (p : List ℕ → Parsed Bencode) (n : ℕ) (before : Option (List ℕ)) (b rest : List ℕ) → 0 < n → b ≡ 101 ∷ rest
    → pairs_at p n before b ≡ Ok (no_pairs, rest)
unfolding pairs_at
pairs_stop_at p zero before b rest h e = absurd (omega arith)
pairs_stop_at p (suc n) before b rest h e = rw e refl

pairs_step_at : (p : List ℕ → Parsed Bencode) (n c : ℕ) (before : Option (List ℕ)) (b t k behind rest : List ℕ) (v : Bencode) (ps : Pairs) (end : List ℕ)
    → b ≡ c ∷ t → c ≢ 101 → key_at before b ≡ Ok (k, behind) → p behind ≡ Ok (v, rest)
    → pairs_at p n (Some k) rest ≡ Ok (ps, end) → pairs_at p (suc n) before b ≡ Ok (pair k v ps, end)
unfolding pairs_at
pairs_step_at p n c before b t k behind rest v ps end e ne key first more =
    let key' = subst (λ x. key_at before x ≡ Ok (k, behind)) e key in
    ap (pairs_at p (suc n) before) e ∙ rw (is_other c 101 ne, key', first, more) refl

mutual
  pub value_again : (v : Bencode) (room : ℕ) (front rest : List ℕ) → Spelled room v front → value_at room (front ++ rest) ≡ Ok (v, rest)
  value_again (int z) room front rest s =
      let whole : front ++ rest ≡ 105 ∷ (signed_decimal z ++ 101 ∷ rest) = ap (λ t. t ++ rest) s.1
      ∙ ap (λ t. 105 ∷ t) (append_assoc (signed_decimal z) (101 ∷ []) rest) in
      value_integer room (front ++ rest) (signed_decimal z ++ 101 ∷ rest) whole
      ∙ ap (λ r. begun_at (front ++ rest) r >>= λ x. Ok (int x.0, x.1)) (integer_again z rest s.0)
  value_again (text t) room front rest s =
      let numeral = decimal_is_IsNumeral (length t) (omega (arith, s.0)) in
      let h = digits_head (decimal (length t)) (58 ∷ (t ++ rest)) numeral.0.1 numeral.0.0 in
      let same : front ++ rest ≡ string t ++ rest = ap (λ b. b ++ rest) s.1 in
      let whole : front ++ rest ≡ h.0 ∷ h.1 = same ∙ append_assoc (decimal (length t)) (58 ∷ t) rest ∙ h.2 in
      value_text room (front ++ rest) h.1 h.0 h.3 h.4 whole ∙ ap (λ r. begun_at (front ++ rest) r >>= λ x. Ok (text x.0, x.1)) (ap string_at same
      ∙ string_again t rest s.0)
  value_again (list vs) room front rest s =
      let whole : front ++ rest ≡ 108 ∷ (s.1 ++ 101 ∷ rest) = ap (λ t. t ++ rest) s.2 ∙ ap (λ t. 108 ∷ t) (append_assoc s.1 (101 ∷ []) rest) in
      value_items room (front ++ rest) (s.1 ++ 101 ∷ rest) s.0 whole
      ∙ ap (λ r. r >>= λ x. Ok (list x.0, x.1)) (items_again vs (room - 1) (length (s.1 ++ 101 ∷ rest)) s.1 rest s.3 (omega arith))
  value_again (dict ps) room front rest s =
      let whole : front ++ rest ≡ 100 ∷ (s.1 ++ 101 ∷ rest) = ap (λ t. t ++ rest) s.2 ∙ ap (λ t. 100 ∷ t) (append_assoc s.1 (101 ∷ []) rest) in
      value_pairs room (front ++ rest) (s.1 ++ 101 ∷ rest) s.0 whole
      ∙ ap (λ r. r >>= λ x. Ok (dict x.0, x.1)) (pairs_again ps (room - 1) None (length (s.1 ++ 101 ∷ rest)) s.1 rest s.3 (omega arith))

  items_again : (vs : Items) (room n : ℕ) (inner rest : List ℕ) → SpelledItems room vs inner → length (inner ++ 101 ∷ rest) ≤ n
      → items_at (value_at room) n (inner ++ 101 ∷ rest) ≡ Ok (vs, rest)
  items_again no_items room n inner rest s le = items_stop_at (value_at room) n (inner ++ 101 ∷ rest) rest (omega (arith, length-append inner (101 ∷ rest)))
      (ap (λ t. t ++ 101 ∷ rest) s)
  items_again (item v vs) room zero inner rest s le = absurd (omega (arith, length-append inner (101 ∷ rest)))
  items_again (item v vs) room (suc n) inner rest s le =
      let first = s.0 in
      let after = s.1 ++ 101 ∷ rest in
      let head = spelled_head room v first s.3 in
      let whole : inner ++ 101 ∷ rest ≡ first ++ after = ap (λ t. t ++ 101 ∷ rest) s.2 ∙ append_assoc first s.1 (101 ∷ rest) in
      let size : length (inner ++ 101 ∷ rest) ≡ length first + length after = ap length whole ∙ length-append first after in
      let long : 0 < length first = omega (arith, ap length head.2) in
      let starts : inner ++ 101 ∷ rest ≡ head.0 ∷ (head.1 ++ after) = whole ∙ ap (λ t. t ++ after) head.2 in
      items_step_at (value_at room) n head.0 (inner ++ 101 ∷ rest) (head.1 ++ after) after v vs rest starts head.3 (ap (value_at room) whole
      ∙ value_again v room first after s.3) (items_again vs room n s.1 rest s.4 (omega arith))

  pairs_again : (ps : Pairs) (room : ℕ) (before : Option (List ℕ)) (n : ℕ) (inner rest : List ℕ) → SpelledPairs room before ps inner
      → length (inner ++ 101 ∷ rest) ≤ n → pairs_at (value_at room) n before (inner ++ 101 ∷ rest) ≡ Ok (ps, rest)
  pairs_again no_pairs room before n inner rest s le = pairs_stop_at (value_at room) n before (inner ++ 101 ∷ rest) rest
      (omega (arith, length-append inner (101 ∷ rest))) (ap (λ t. t ++ 101 ∷ rest) s)
  pairs_again (pair k v ps) room before zero inner rest s le = absurd (omega (arith, length-append inner (101 ∷ rest)))
  pairs_again (pair k v ps) room before (suc n) inner rest s le =
      let first = s.0 in
      let after = s.1 ++ 101 ∷ rest in
      let numeral = decimal_is_IsNumeral (length k) (omega (arith, s.3)) in
      let head = digits_head (decimal (length k)) (58 ∷ (k ++ (first ++ after))) numeral.0.1 numeral.0.0 in
      let whole : inner ++ 101 ∷ rest ≡ string k ++ (first ++ after) = ap (λ t. t ++ 101 ∷ rest) s.2 ∙ append_assoc (string k) (first ++ s.1) (101 ∷ rest)
      ∙ ap (λ t. string k ++ t) (append_assoc first s.1 (101 ∷ rest)) in
      let size : length (inner ++ 101 ∷ rest) ≡ length (string k) + (length first + length after) = ap length whole ∙ length-append (string k) (first ++ after)
      ∙ ap (λ m. length (string k) + m) (length-append first after) in
      let long : 0 < length (string k) = omega (arith, length-append (decimal (length k)) (58 ∷ k)) in
      let starts : inner ++ 101 ∷ rest ≡ head.0 ∷ head.1 = whole ∙ append_assoc (decimal (length k)) (58 ∷ k) (first ++ after) ∙ head.2 in
      pairs_step_at (value_at room) n head.0 before (inner ++ 101 ∷ rest) head.1 k (first ++ after) after v ps rest starts (λ e. omega arith)
      (ap (key_at before) whole ∙ key_again before k (first ++ after) s.3 s.4)
      (value_again v room first after s.5) (pairs_again ps room (Some k) n s.1 rest s.6 (omega arith))

-- one value and one rest
pub one_reading : (room : ℕ) (v w : Bencode) (a b x y : List ℕ) → Spelled room v a → Spelled room w b → a ++ x ≡ b ++ y → (v ≡ w) × (a ≡ b)
one_reading room v w a b x y s t e =
    let both : fine (v, x) ≡ fine (w, y) = sym (value_again v room a x s) ∙ ap (value_at room) e ∙ value_again w room b y t in
    let same = ok_of (v, x) (w, y) both in
    let rests : x ≡ y = ap (λ (p : Bencode × List ℕ). p.1) same in
    (ap (λ (p : Bencode × List ℕ). p.0) same, append_cancel_right a b y (ap (λ z. a ++ z) (sym rests) ∙ e))
