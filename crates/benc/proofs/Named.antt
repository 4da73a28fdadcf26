-- No line of the table says that memory ran out.
use Rattle.std.proofs.Common.{◌≡◌, ℕ, Bool, true, false, ◌||◌, cond, eqb, List, [], ◌∷◌, Option, Some, None}
use Rattle.std.proofs.Common.{Result, Ok, Err, ap, ◌∙◌, inl, inr}
use Rattle.benc.specs.declared.fault.FaultKind.{FaultKind}
use Rattle.benc.specs.declared.fault.FaultKind.TheVariants.{Truncated, BadStart, BadInteger, IntegerRange, BadLength, KeyOrder, TooDeep, NoMemory}
use Rattle.benc.specs.Digits.{is_digit, digits_of_front, after_digits}
use Rattle.benc.specs.Items.{integer_of, integer_at, string_of, string_at, in_order, key_at}
use Rattle.benc.specs.Fails.{Due, a_value, a_value_or_end, a_key_or_end}
use Rattle.benc.proofs.Scanned.{fault_of, value_fault, fault_unless_end, scanned_fault}
use Rattle.benc.specs.Parser.{Failed}
use Rattle.benc.proofs.Stopping.{Further}

-- no line of the table says that memory ran out
abbrev IsNamed : Option FaultKind → Type 0
IsNamed o = o ≡ Some NoMemory → ⊥

named_choice : (b : Bool) (o p : Option FaultKind) → IsNamed o → IsNamed p → IsNamed (cond b o p)
named_choice true o p m n = m
named_choice false o p m n = n

named_none : IsNamed None
named_none h = absurd cc

named_truncated : IsNamed (Some Truncated)
named_truncated h = absurd cc

named_bad_start : IsNamed (Some BadStart)
named_bad_start h = absurd cc

named_deep : IsNamed (Some TooDeep)
named_deep h = absurd cc

-- nor does what reads an item
abbrev NamedErr : {A : Type 0} → Result A FaultKind → Type 0
NamedErr r = r ≡ Err NoMemory → ⊥

ok_named : {A : Type 0} (x : A) → NamedErr (Ok x)
ok_named x h = absurd cc

err_named : {A : Type 0} (f : FaultKind) → IsNamed (Some f) → NamedErr {A = A} (Err f)
err_named f n h = n cc

err_choice : {A : Type 0} (b : Bool) (r s : Result A FaultKind) → NamedErr r → NamedErr s → NamedErr (cond b r s)
err_choice true r s m n = m
err_choice false r s m n = n

fault_named : {A : Type 0} (r : Result A FaultKind) → NamedErr r → IsNamed (fault_of r)
fault_named (Ok x) n h = absurd cc
fault_named (Err f) n h = let same : f ≡ NoMemory = cc in n (ap (λ k. Err k) same)

integer_of_named : (minus : Bool) (run after : List ℕ) → NamedErr (integer_of minus run after)
integer_of_named minus run [] = err_named Truncated named_truncated
integer_of_named minus run (c ∷ rest) = err_choice _ _ _ (err_named BadInteger (λ h. absurd cc))
    (err_choice _ _ _ (ok_named _) (err_named IntegerRange (λ h. absurd cc)))

integer_named : (bytes : List ℕ) → NamedErr (integer_at bytes)
integer_named [] = integer_of_named false (digits_of_front []) (after_digits [])
integer_named (c ∷ rest) = err_choice _ _ _ (integer_of_named true (digits_of_front rest) (after_digits rest))
    (integer_of_named false (digits_of_front (c ∷ rest)) (after_digits (c ∷ rest)))

string_of_named : (run after : List ℕ) → NamedErr (string_of run after)
string_of_named run [] = err_named Truncated named_truncated
string_of_named run (c ∷ rest) = err_choice _ _ _ (err_named BadLength (λ h. absurd cc)) (err_choice _ _ _ (err_named Truncated named_truncated) (ok_named _))

string_named : (bytes : List ℕ) → NamedErr (string_at bytes)
string_named bytes = string_of_named (digits_of_front bytes) (after_digits bytes)

order_named : (before : Option (List ℕ)) (r : Result (List ℕ × List ℕ) FaultKind) → NamedErr r → NamedErr (in_order before r)
order_named before (Ok k) n = err_choice _ _ _ (ok_named k) (err_named KeyOrder (λ h. absurd cc))
order_named before (Err f) n = n

key_named : (before : Option (List ℕ)) (bytes : List ℕ) → NamedErr (key_at before bytes)
key_named before [] = err_named Truncated named_truncated
key_named before (c ∷ rest) = err_choice _ _ _ (order_named before (string_at (c ∷ rest)) (string_named (c ∷ rest))) (err_named BadStart named_bad_start)

value_named : (left : ℕ) (bytes : List ℕ) → IsNamed (value_fault left bytes)
value_named left [] = named_truncated
value_named left (c ∷ rest) =
    named_choice (eqb c 105) _ _ (fault_named (integer_at rest) (integer_named rest))
    (named_choice (eqb c 108 || eqb c 100) _ _ (named_choice (eqb left 0) _ _ named_deep named_none)
    (named_choice (is_digit c) _ _ (fault_named (string_at (c ∷ rest)) (string_named (c ∷ rest))) named_bad_start))

end_named : (bytes : List ℕ) (o : Option FaultKind) → IsNamed o → IsNamed (fault_unless_end bytes o)
end_named [] o n = n
end_named (c ∷ rest) o n = named_choice (eqb c 101) None o named_none n

item_named : (due : Due) (left : ℕ) (bytes : List ℕ) → IsNamed (scanned_fault due left bytes)
item_named a_value left bytes = value_named left bytes
item_named a_value_or_end left bytes = end_named bytes (value_fault left bytes) (value_named left bytes)
item_named (a_key_or_end before) left bytes = end_named bytes (fault_of (key_at before bytes)) (fault_named (key_at before bytes) (key_named before bytes))

pub stops_named : (room : ℕ) (bytes : List ℕ) (e : Failed) → Further room a_value bytes e → e.0 ≡ NoMemory → ⊥
stops_named room bytes e (inl p) same = item_named a_value room bytes (p.1 ∙ ap (λ k. Some k) same)
stops_named room bytes e (inr (l, ls, due, left, front, parts, begun, fails)) same = item_named due left e.1 (fails ∙ ap (λ k. Some k) same)
