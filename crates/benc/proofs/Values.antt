-- A value by its first byte.
use Rattle.std.proofs.Common.{◌≡◌, ◌≢◌, ℕ, zero, suc, ◌-◌, ◌<◌, ◌≤◌, true, false, List, [], ◌∷◌, length, None, Ok, Err, ℤ, refl, ap, ◌∙◌, arith, rules}
use Rattle.std.proofs.Common.{Vec, Global}
use Rattle.std.specs.Borrow.{Bor}
use Rattle.benc.specs.Value.{int, text, list, dict, Items, Pairs}
use Rattle.benc.specs.View.{view, pair_view, items_view, pairs_view}
use Rattle.benc.specs.Digits.{is_digit}
use Rattle.benc.specs.Items.{integer_at, string_at}
use Rattle.benc.specs.Parser.{◌>>=◌, Parsed, begun_at, items_at, pairs_at, value_at, value_with}
use Rattle.benc.specs.declared.fault.FaultKind.TheVariants.{Truncated, BadStart, TooDeep}
use Rattle.benc.specs.declared.value.Value.{Value, Int, Bytes, List as ListOf, Dict, the_lemmas}
use Rattle.benc.specs.declared.value.Pair.{Pair}
use Rattle.benc.proofs.Turns.{is_other}

-- bytes whose first one is known begin with it
pub at_front : {b first : ℕ} {bytes rest : List ℕ} → bytes ≡ first ∷ rest → first ≡ b → bytes ≡ b ∷ rest
at_front {rest = rest} is same = is ∙ ap (λ x. x ∷ rest) same

-- a list and a dictionary, by how many may be open
abbrev pub lists : ℕ → List ℕ → List ℕ → Parsed Items
lists zero start rest = Err (TooDeep, start)
lists (suc room) start rest = items_at (value_at room) (length rest) rest

abbrev pub dicts : ℕ → List ℕ → List ℕ → Parsed Pairs
dicts zero start rest = Err (TooDeep, start)
dicts (suc room) start rest = pairs_at (value_at room) (length rest) None rest

pub value_is : (room : ℕ) (bytes : List ℕ) → value_at room bytes ≡ value_with (lists room) (dicts room) bytes
unfolding value_at
value_is zero bytes = refl
value_is (suc room) bytes = refl

pub value_none : (room : ℕ) (bytes : List ℕ) → bytes ≡ [] → value_at room bytes ≡ Err (Truncated, bytes)
value_none room bytes e = value_is room bytes ∙ rw e refl

pub value_integer : (room : ℕ) (bytes rest : List ℕ) → bytes ≡ 105 ∷ rest → value_at room bytes ≡ (begun_at bytes (integer_at rest) >>= λ x. Ok (int x.0, x.1))
value_integer room bytes rest e = value_is room bytes ∙ rw e refl

pub value_list : (room : ℕ) (bytes rest : List ℕ) → bytes ≡ 108 ∷ rest → value_at room bytes ≡ (lists room bytes rest >>= λ x. Ok (list x.0, x.1))
value_list room bytes rest e = value_is room bytes ∙ rw e refl

pub value_dict : (room : ℕ) (bytes rest : List ℕ) → bytes ≡ 100 ∷ rest → value_at room bytes ≡ (dicts room bytes rest >>= λ x. Ok (dict x.0, x.1))
value_dict room bytes rest e = value_is room bytes ∙ rw e refl

pub lists_are : (room : ℕ) (start rest : List ℕ) → 0 < room → lists room start rest ≡ items_at (value_at (room - 1)) (length rest) rest
lists_are zero start rest h = absurd (omega arith)
lists_are (suc room) start rest h = let less : suc room - 1 ≡ room = omega arith in rw less refl

pub dicts_are : (room : ℕ) (start rest : List ℕ) → 0 < room → dicts room start rest ≡ pairs_at (value_at (room - 1)) (length rest) None rest
dicts_are zero start rest h = absurd (omega arith)
dicts_are (suc room) start rest h = let less : suc room - 1 ≡ room = omega arith in rw less refl

-- a list behind its mark, where another may be opened
pub value_items : (room : ℕ) (bytes rest : List ℕ) → 0 < room → bytes ≡ 108 ∷ rest
    → value_at room bytes ≡ (items_at (value_at (room - 1)) (length rest) rest >>= λ x. Ok (list x.0, x.1))
value_items room bytes rest h e = value_list room bytes rest e ∙ ap (λ r. r >>= λ x. Ok (list x.0, x.1)) (lists_are room bytes rest h)

pub value_pairs : (room : ℕ) (bytes rest : List ℕ) → 0 < room → bytes ≡ 100 ∷ rest
    → value_at room bytes ≡ (pairs_at (value_at (room - 1)) (length rest) None rest >>= λ x. Ok (dict x.0, x.1))
value_pairs room bytes rest h e = value_dict room bytes rest e ∙ ap (λ r. r >>= λ x. Ok (dict x.0, x.1)) (dicts_are room bytes rest h)

pub list_too_deep : (room : ℕ) (bytes rest : List ℕ) → room ≡ 0 → bytes ≡ 108 ∷ rest → value_at room bytes ≡ Err (TooDeep, bytes)
list_too_deep room bytes rest h e = value_list room bytes rest e ∙ rw h refl

pub dict_too_deep : (room : ℕ) (bytes rest : List ℕ) → room ≡ 0 → bytes ≡ 100 ∷ rest → value_at room bytes ≡ Err (TooDeep, bytes)
dict_too_deep room bytes rest h e = value_dict room bytes rest e ∙ rw h refl

digit_is : (c : ℕ) → 48 ≤ c → c ≤ 57 → is_digit c ≡ true
digit_is c low high = grind (arith)

not_digit : (c : ℕ) → ((48 ≤ c → c ≤ 57 → ⊥)) → is_digit c ≡ false
not_digit c h = grind (arith)

pub value_text : (room : ℕ) (bytes rest : List ℕ) (c : ℕ) → 48 ≤ c → c ≤ 57 → bytes ≡ c ∷ rest
    → value_at room bytes ≡ (begun_at bytes (string_at bytes) >>= λ x. Ok (text x.0, x.1))
value_text room bytes rest c low high e =
    value_is room bytes ∙ rw (e, is_other c 105 (λ k. omega arith), is_other c 108 (λ k. omega arith), is_other c 100 (λ k. omega arith), digit_is c low high)
    refl

pub value_other : (room : ℕ) (bytes rest : List ℕ) (c : ℕ) → c ≢ 105 → c ≢ 108 → c ≢ 100 → (48 ≤ c → c ≤ 57 → ⊥) → bytes ≡ c ∷ rest
    → value_at room bytes ≡ Err (BadStart, bytes)
value_other room bytes rest c a b d n e =
    value_is room bytes ∙ rw (e, is_other c 105 a, is_other c 108 b, is_other c 100 d, not_digit c n) refl

pub view-Int : (z : ℤ) → view (Int z) ≡ int z
view-Int z = search (rules, the_lemmas)

pub view-Bytes : (b : Bor (List ℕ)) → view (Bytes b) ≡ text b.now
view-Bytes b = search (rules, the_lemmas)

pub view-List : (v : Vec Value Global) → view (ListOf v) ≡ list (items_view v.items)
view-List v = search (rules, the_lemmas)

pub view-Dict : (v : Vec Pair Global) → view (Dict v) ≡ dict (pairs_view v.items)
view-Dict v = search (rules, the_lemmas)

pub view-Pair : (k : Bor (List ℕ)) (v : Value) → pair_view (record { key = k; value = v }) ≡ (k.now, view v)
view-Pair k v = search (rules, the_lemmas)
