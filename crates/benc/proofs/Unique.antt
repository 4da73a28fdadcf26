-- No input has two faults, and none that spells a value has one.
use Rattle.std.proofs.Common.{◌≡◌, ◌≢◌, ℕ, zero, suc, ◌+◌, ◌-◌, ◌<◌, ◌≤◌, ◌^◌, Bool, true, false, ◌||◌, cond, eqb, List, [], ◌∷◌, ◌++◌, length, Option, Some}
use Rattle.std.proofs.Common.{None, Result, Ok, Err, refl, sym, ap, ◌∙◌, subst, inl, inr, append_assoc, arith}
use Rattle.std.specs.Fmt.{decimal}
use Rattle.std.proofs.lemmas.Fmt.{decimal_is_IsNumeral}
use Rattle.std.proofs.lemmas.List.{append-nil, length-append}
use Rattle.benc.specs.declared.fault.FaultKind.{FaultKind}
use Rattle.benc.specs.declared.fault.FaultKind.TheVariants.{Truncated, BadStart, TooDeep}
use Rattle.benc.specs.Value.{Bencode, int, text, list, dict, Items, no_items, item, Pairs, no_pairs, pair}
use Rattle.benc.specs.Spelling.{string, Spells, SpelledItems, SpelledPairs}
use Rattle.benc.specs.Digits.{is_digit}
use Rattle.benc.specs.Items.{integer_at, string_at, key_at}
use Rattle.benc.specs.Fails.{Due, Level, in_list, in_dict, at_value, last_key, IsLevel, Begun, Stops, Trails, Fails}
use Rattle.benc.proofs.Scanned.{fault_of, scanned_fault, table_is, fault_unless_end, value_fault}
use Rattle.benc.specs.Parser.{◌>>=◌, Parsed, Failed, begun_at, items_at, pairs_at, value_at}
use Rattle.benc.proofs.Turns.{is_other}
use Rattle.benc.proofs.Values.{lists, dicts, value_is, value_items, value_pairs}
use Rattle.benc.proofs.Sound.{fine, ok_of}
use Rattle.benc.proofs.Again.{value_again, spelled_head, digits_head, key_again}

named_fault : {A : Type 0} (r : Result A FaultKind) (k : FaultKind) → fault_of r ≡ Some k → r ≡ Err k
named_fault (Ok x) k h = absurd cc
named_fault (Err f) k h = let e : f ≡ k = cc in ap (λ z. Err z) e

has_room : (b : Bool) (k : FaultKind) → b ≡ false → cond b (Some TooDeep) None ≡ Some k → ⊥
has_room true k e h = absurd cc
has_room false k e h = absurd cc

-- a value that fails by the table is not read
value_fault_reads : (room : ℕ) (bytes : List ℕ) (k : FaultKind) → value_fault room bytes ≡ Some k → value_at room bytes ≡ Err (k, bytes)
value_fault_reads room [] k h = let e : Truncated ≡ k = cc in value_is room [] ∙ ap (λ z. Err (z, [])) e
value_fault_reads room (c ∷ rest) k h = value_is room (c ∷ rest) ∙ by_i (eqb c 105) h
  where
    deep : (r : ℕ) (L : List ℕ → List ℕ → Parsed Items) → L ≡ lists r → cond (eqb r 0) (Some TooDeep) None ≡ Some k → L (c ∷ rest) rest ≡ Err (k, c ∷ rest)
    deep zero L e g = let f : TooDeep ≡ k = cc in ap (λ M. M (c ∷ rest) rest) e ∙ ap (λ z. Err (z, c ∷ rest)) f
    deep (suc r) L e g = absurd (has_room (eqb (suc r) 0) k (is_other (suc r) 0 (λ z. omega arith)) g)

    deep_dict : (r : ℕ) (D : List ℕ → List ℕ → Parsed Pairs) → D ≡ dicts r → cond (eqb r 0) (Some TooDeep) None ≡ Some k → D (c ∷ rest) rest ≡ Err (k, c ∷ rest)
    deep_dict zero D e g = let f : TooDeep ≡ k = cc in ap (λ M. M (c ∷ rest) rest) e ∙ ap (λ z. Err (z, c ∷ rest)) f
    deep_dict (suc r) D e g = absurd (has_room (eqb (suc r) 0) k (is_other (suc r) 0 (λ z. omega arith)) g)

    by_digit : (m : Bool) → cond m (fault_of (string_at (c ∷ rest))) (Some BadStart) ≡ Some k
        → cond {A = Parsed Bencode} m (begun_at (c ∷ rest) (string_at (c ∷ rest)) >>= λ x. Ok (text x.0, x.1)) (Err (BadStart, c ∷ rest)) ≡ Err (k, c ∷ rest)
    by_digit true g = ap (λ r. begun_at (c ∷ rest) r >>= λ x. Ok (text x.0, x.1)) (named_fault (string_at (c ∷ rest)) k g)
    by_digit false g = let f : BadStart ≡ k = cc in ap (λ z. Err (z, c ∷ rest)) f

    by_mark : (l d m : Bool) → cond (l || d) (cond (eqb room 0) (Some TooDeep) None) (cond m (fault_of (string_at (c ∷ rest))) (Some BadStart)) ≡ Some k
        → cond {A = Parsed Bencode} l (lists room (c ∷ rest) rest >>= λ x. Ok (list x.0, x.1)) (cond d (dicts room (c ∷ rest) rest >>= λ x. Ok (dict x.0, x.1))
        (cond m (begun_at (c ∷ rest) (string_at (c ∷ rest)) >>= λ x. Ok (text x.0, x.1)) (Err (BadStart, c ∷ rest)))) ≡ Err (k, c ∷ rest)
    by_mark true d m g = ap (λ r. r >>= λ x. Ok (list x.0, x.1)) (deep room (lists room) refl g)
    by_mark false true m g = ap (λ r. r >>= λ x. Ok (dict x.0, x.1)) (deep_dict room (dicts room) refl g)
    by_mark false false m g = by_digit m g

    by_i : (m : Bool) → cond m (fault_of (integer_at rest)) (cond (eqb c 108 || eqb c 100) (cond (eqb room 0) (Some TooDeep) None)
        (cond (is_digit c) (fault_of (string_at (c ∷ rest))) (Some BadStart))) ≡ Some k
        → cond {A = Parsed Bencode} m (begun_at (c ∷ rest) (integer_at rest) >>= λ x. Ok (int x.0, x.1))
        (cond (eqb c 108) (lists room (c ∷ rest) rest >>= λ x. Ok (list x.0, x.1))
        (cond (eqb c 100) (dicts room (c ∷ rest) rest >>= λ x. Ok (dict x.0, x.1))
        (cond (is_digit c) (begun_at (c ∷ rest) (string_at (c ∷ rest)) >>= λ x. Ok (text x.0, x.1)) (Err (BadStart, c ∷ rest))))) ≡ Err (k, c ∷ rest)
    by_i true g = ap (λ r. begun_at (c ∷ rest) r >>= λ x. Ok (int x.0, x.1)) (named_fault (integer_at rest) k g)
    by_i false g = by_mark (eqb c 108) (eqb c 100) (is_digit c) g

end_no : (b : Bool) (f : Option FaultKind) (k : FaultKind) → cond b None f ≡ Some k → (b ≡ false) × (f ≡ Some k)
end_no true f k h = absurd cc
end_no false f k h = (refl, h)

items_fault : (room n : ℕ) (t : List ℕ) (k : FaultKind) → length t ≤ n → fault_unless_end t (value_fault room t) ≡ Some k
    → items_at (value_at room) n t ≡ Err (k, t)
unfolding items_at
items_fault room zero [] k le h = let e : Truncated ≡ k = cc in ap (λ z. Err (z, [])) e
items_fault room (suc n) [] k le h = let e : Truncated ≡ k = cc in ap (λ z. Err (z, [])) e
items_fault room zero (c ∷ t) k le h = absurd (omega arith)
items_fault room (suc n) (c ∷ t) k le h = let g = end_no (eqb c 101) (value_fault room (c ∷ t)) k h in rw (g.0, value_fault_reads room (c ∷ t) k g.1) refl

pairs_fault : (room n : ℕ) (before : Option (List ℕ)) (t : List ℕ) (k : FaultKind) → length t ≤ n → fault_unless_end t (fault_of (key_at before t)) ≡ Some k
    → pairs_at (value_at room) n before t ≡ Err (k, t)
unfolding pairs_at
pairs_fault room zero before [] k le h = let e : Truncated ≡ k = cc in ap (λ z. Err (z, [])) e
pairs_fault room (suc n) before [] k le h = let e : Truncated ≡ k = cc in ap (λ z. Err (z, [])) e
pairs_fault room zero before (c ∷ t) k le h = absurd (omega arith)
pairs_fault room (suc n) before (c ∷ t) k le h = let g = end_no (eqb c 101) (fault_of (key_at before (c ∷ t))) k h in
    rw (g.0, named_fault (key_at before (c ∷ t)) k g.1) refl

-- an item that is not read
items_no_value : (p : List ℕ → Parsed Bencode) (n c : ℕ) (b t : List ℕ) (e : Failed) → length b ≤ n → b ≡ c ∷ t → c ≢ 101 → p b ≡ Err e → items_at p n b ≡ Err e
unfolding items_at
items_no_value p zero c b t e le is ne h = absurd (omega (arith, ap length is))
items_no_value p (suc n) c b t e le is ne h = ap (items_at p (suc n)) is ∙ rw (is_other c 101 ne, ← is, h) refl

items_step_on : (p : List ℕ → Parsed Bencode) (n c : ℕ) (b t rest : List ℕ) (v : Bencode) (e : Failed) → b ≡ c ∷ t → c ≢ 101 → p b ≡ Ok (v, rest)
    → items_at p n rest ≡ Err e → items_at p (suc n) b ≡ Err e
unfolding items_at
items_step_on p n c b t rest v e is ne first more = ap (items_at p (suc n)) is ∙ rw (is_other c 101 ne, ← is, first, more) refl

pairs_no_value : (p : List ℕ → Parsed Bencode) (n c : ℕ) (before : Option (List ℕ)) (b t k behind : List ℕ) (e : Failed) → length b ≤ n → b ≡ c ∷ t → c ≢ 101
    → key_at before b ≡ Ok (k, behind) → p behind ≡ Err e → pairs_at p n before b ≡ Err e
unfolding pairs_at
pairs_no_value p zero c before b t k behind e le is ne key h = absurd (omega (arith, ap length is))
pairs_no_value p (suc n) c before b t k behind e le is ne key h =
    let key' = subst (λ x. key_at before x ≡ Ok (k, behind)) is key in ap (pairs_at p (suc n) before) is ∙ rw (is_other c 101 ne, key', h) refl

pairs_step_on : (p : List ℕ → Parsed Bencode) (n c : ℕ) (before : Option (List ℕ)) (b t k behind rest : List ℕ) (v : Bencode) (e : Failed) → b ≡ c ∷ t → c ≢ 101
    → key_at before b ≡ Ok (k, behind) → p behind ≡ Ok (v, rest)
    → pairs_at p n (Some k) rest ≡ Err e → pairs_at p (suc n) before b ≡ Err e
unfolding pairs_at
pairs_step_on p n c before b t k behind rest v e is ne key first more =
    let key' = subst (λ x. key_at before x ≡ Ok (k, behind)) is key in
    ap (pairs_at p (suc n) before) is ∙ rw (is_other c 101 ne, key', first, more) refl

-- finished items are read, and then what follows fails
items_pass : (vs : Items) (room n : ℕ) (inner t : List ℕ) (e : Failed) → SpelledItems room vs inner → length (inner ++ t) ≤ n
    → ((m : ℕ) → length t ≤ m → items_at (value_at room) m t ≡ Err e) → items_at (value_at room) n (inner ++ t) ≡ Err e
items_pass no_items room n inner t e s le h = ap (λ i. items_at (value_at room) n (i ++ t)) s ∙ h n (omega (arith, length-append inner t))
items_pass (item v vs) room zero inner t e s le h =
    let head = spelled_head room v s.0 s.3 in absurd (omega (arith, length-append inner t, ap length s.2, length-append s.0 s.1, ap length head.2))
items_pass (item v vs) room (suc n) inner t e s le h =
    let first = s.0 in
    let after = s.1 ++ t in
    let head = spelled_head room v first s.3 in
    let whole : inner ++ t ≡ first ++ after = ap (λ b. b ++ t) s.2 ∙ append_assoc first s.1 t in
    let size : length (inner ++ t) ≡ length first + length after = ap length whole ∙ length-append first after in
    let long : 0 < length first = omega (arith, ap length head.2) in
    let starts : inner ++ t ≡ head.0 ∷ (head.1 ++ after) = whole ∙ ap (λ b. b ++ after) head.2 in
    items_step_on (value_at room) n head.0 (inner ++ t) (head.1 ++ after) after v e starts head.3 (ap (value_at room) whole
    ∙ value_again v room first after s.3) (items_pass vs room n s.1 t e s.4 (omega arith) h)

-- a key and what follows begin with a digit
key_head : (k behind : List ℕ) → length k < 10 ^ 10 → (c : ℕ) × (t : List ℕ) × (string k ++ behind ≡ c ∷ t) × (c ≢ 101)
key_head k behind small =
    let numeral = decimal_is_IsNumeral (length k) (omega arith) in
    let head = digits_head (decimal (length k)) (58 ∷ (k ++ behind)) numeral.0.1 numeral.0.0 in
    (head.0, head.1, append_assoc (decimal (length k)) (58 ∷ k) behind ∙ head.2, λ e. omega arith)

-- so are finished pairs
pairs_pass : (ps : Pairs) (room : ℕ) (before : Option (List ℕ)) (n : ℕ) (inner t : List ℕ) (e : Failed) → SpelledPairs room before ps inner
    → length (inner ++ t) ≤ n
    → ((m : ℕ) → length t ≤ m → pairs_at (value_at room) m (last_key before ps) t ≡ Err e) → pairs_at (value_at room) n before (inner ++ t) ≡ Err e
pairs_pass no_pairs room before n inner t e s le h = ap (λ i. pairs_at (value_at room) n before (i ++ t)) s ∙ h n (omega (arith, length-append inner t))
pairs_pass (pair k v ps) room before zero inner t e s le h =
    let head = key_head k (s.0 ++ s.1) s.3 in absurd (omega (arith, length-append inner t, ap length s.2, ap length head.2))
pairs_pass (pair k v ps) room before (suc n) inner t e s le h =
    let first = s.0 in
    let after = s.1 ++ t in
    let head = key_head k (first ++ after) s.3 in
    let whole : inner ++ t ≡ string k ++ (first ++ after) = ap (λ b. b ++ t) s.2 ∙ append_assoc (string k) (first ++ s.1) t
    ∙ ap (λ b. string k ++ b) (append_assoc first s.1 t) in
    let size : length (inner ++ t) ≡ length (string k) + (length first + length after) = ap length whole ∙ length-append (string k) (first ++ after)
    ∙ ap (λ m. length (string k) + m) (length-append first after) in
    let long : 0 < length (string k) = omega (arith, length-append (decimal (length k)) (58 ∷ k)) in
    pairs_step_on (value_at room) n head.0 before (inner ++ t) head.1 k (first ++ after) after v e (whole ∙ head.2) head.3 (ap (key_at before) whole
    ∙ key_again before k (first ++ after) s.3 s.4)
    (value_again v room first after s.5) (pairs_pass ps room (Some k) n s.1 t e s.6 (omega arith) h)

list_reads : (below : ℕ) (vs : Items) (b t : List ℕ) (e : Failed) → IsLevel below (in_list vs) b
    → ((m : ℕ) → length t ≤ m → items_at (value_at below) m t ≡ Err e) → value_at (suc below) (b ++ t) ≡ Err e
list_reads below vs b t e l h =
    let whole : b ++ t ≡ 108 ∷ (l.0 ++ t) = ap (λ x. x ++ t) l.1 in
    let less : suc below - 1 ≡ below = omega arith in
    let inner : items_at (value_at (suc below - 1)) (length (l.0 ++ t)) (l.0 ++ t) ≡ Err e =
    rw less (items_pass vs below (length (l.0 ++ t)) l.0 t e l.2 (omega arith) h) in
    value_items (suc below) (b ++ t) (l.0 ++ t) (omega arith) whole ∙ ap (λ r. r >>= λ x. Ok (list x.0, x.1)) inner

dict_reads : (below : ℕ) (ps : Pairs) (b t : List ℕ) (e : Failed) → IsLevel below (in_dict ps) b
    → ((m : ℕ) → length t ≤ m → pairs_at (value_at below) m (last_key None ps) t ≡ Err e) → value_at (suc below) (b ++ t) ≡ Err e
dict_reads below ps b t e l h =
    let whole : b ++ t ≡ 100 ∷ (l.0 ++ t) = ap (λ x. x ++ t) l.1 in
    let less : suc below - 1 ≡ below = omega arith in
    let inner : pairs_at (value_at (suc below - 1)) (length (l.0 ++ t)) None (l.0 ++ t) ≡ Err e =
    rw less (pairs_pass ps below None (length (l.0 ++ t)) l.0 t e l.2 (omega arith) h) in
    value_pairs (suc below) (b ++ t) (l.0 ++ t) (omega arith) whole ∙ ap (λ r. r >>= λ x. Ok (dict x.0, x.1)) inner

pair_reads : (below : ℕ) (ps : Pairs) (k b t : List ℕ) (e : Failed) → IsLevel below (at_value ps k) b → value_at below t ≡ Err e
    → value_at (suc below) (b ++ t) ≡ Err e
pair_reads below ps k b t e l h =
    let head = key_head k t l.3 in
    let parts : b ++ t ≡ (100 ∷ l.0) ++ (string k ++ t) = ap (λ x. x ++ t) l.1 ∙ ap (λ x. 100 ∷ x) (append_assoc l.0 (string k) t) in
    ap (value_at (suc below)) parts ∙ dict_reads below ps (100 ∷ l.0) (string k ++ t) e (l.0, refl, l.2)
    (λ m le. pairs_no_value (value_at below) m head.0 (last_key None ps) (string k ++ t) head.1 k t e le head.2 head.3
    (key_again (last_key None ps) k t l.3 l.4) h)

-- an open container begins with a mark that is no end
begun_head : (l : Level) (ls : List Level) (room : ℕ) (p : List ℕ) (due : Due) (left : ℕ) → Begun room (l ∷ ls) p due left
    → (c : ℕ) × (t : List ℕ) × (p ≡ c ∷ t) × (c ≢ 101)
begun_head (in_list vs) [] room p due left b = (108, b.2.0, b.2.1, λ e. omega arith)
begun_head (in_dict ps) [] room p due left b = (100, b.2.0, b.2.1, λ e. omega arith)
begun_head (at_value ps k) [] room p due left b = (100, b.2.0 ++ string k, b.2.1, λ e. omega arith)
begun_head (in_list vs) (m ∷ ls) room p due left b = (108, b.5.0 ++ b.2, b.4 ∙ ap (λ x. x ++ b.2) b.5.1, λ e. omega arith)
begun_head (in_dict ps) (m ∷ ls) room p due left b = absurd b.6
begun_head (at_value ps k) (m ∷ ls) room p due left b = (100, (b.5.0 ++ string k) ++ b.2, b.4 ∙ ap (λ x. x ++ b.2) b.5.1, λ e. omega arith)

-- what begins and then fails is read up to there
begun_reads : (ls : List Level) (room : ℕ) (front rest : List ℕ) (due : Due) (left : ℕ) (kind : FaultKind) → Begun room ls front due left
    → scanned_fault due left rest ≡ Some kind → value_at room (front ++ rest) ≡ Err (kind, rest)
begun_reads [] room front rest due left kind b f =
    let here : value_fault room rest ≡ Some kind = subst (λ n. value_fault n rest ≡ Some kind) b.2 (subst (λ d. scanned_fault d left rest ≡ Some kind) b.1 f) in
    ap (λ p. value_at room (p ++ rest)) b.0 ∙ value_fault_reads room rest kind here
begun_reads (in_list vs ∷ []) room front rest due left kind b f =
    let here : fault_unless_end rest (value_fault b.0 rest) ≡ Some kind = subst (λ n. fault_unless_end rest (value_fault n rest) ≡ Some kind) b.4
    (subst (λ d. scanned_fault d left rest ≡ Some kind) b.3 f) in
    ap (λ r. value_at r (front ++ rest)) b.1 ∙ list_reads b.0 vs front rest (kind, rest) b.2 (λ m le. items_fault b.0 m rest kind le here)
begun_reads (in_dict ps ∷ []) room front rest due left kind b f =
    let here : fault_unless_end rest (fault_of (key_at (last_key None ps) rest)) ≡ Some kind = subst (λ d. scanned_fault d left rest ≡ Some kind) b.3 f in
    ap (λ r. value_at r (front ++ rest)) b.1 ∙ dict_reads b.0 ps front rest (kind, rest) b.2 (λ m le. pairs_fault b.0 m (last_key None ps) rest kind le here)
begun_reads (at_value ps k ∷ []) room front rest due left kind b f =
    let here : value_fault b.0 rest ≡ Some kind = subst (λ n. value_fault n rest ≡ Some kind) b.4 (subst (λ d. scanned_fault d left rest ≡ Some kind) b.3 f) in
    ap (λ r. value_at r (front ++ rest)) b.1 ∙ pair_reads b.0 ps k front rest (kind, rest) b.2 (value_fault_reads b.0 rest kind here)
begun_reads (in_list vs ∷ m ∷ ls) room front rest due left kind b f =
    let inside = begun_reads (m ∷ ls) b.0 b.2 rest due left kind b.7 f in
    let head = begun_head m ls b.0 b.2 due left b.7 in
    ap (λ r. value_at r (front ++ rest)) b.3 ∙ ap (λ p. value_at (suc b.0) (p ++ rest)) b.4 ∙ ap (value_at (suc b.0)) (append_assoc b.1 b.2 rest)
    ∙ list_reads b.0 vs b.1 (b.2 ++ rest) (kind, rest) b.5 (λ n le. items_no_value (value_at b.0) n head.0 (b.2 ++ rest) (head.1 ++ rest) (kind, rest) le
    (ap (λ p. p ++ rest) head.2) head.3 inside)
begun_reads (in_dict ps ∷ m ∷ ls) room front rest due left kind b f = absurd b.6
begun_reads (at_value ps k ∷ m ∷ ls) room front rest due left kind b f =
    let inside = begun_reads (m ∷ ls) b.0 b.2 rest due left kind b.7 f in
    ap (λ r. value_at r (front ++ rest)) b.3 ∙ ap (λ p. value_at (suc b.0) (p ++ rest)) b.4 ∙ ap (value_at (suc b.0)) (append_assoc b.1 b.2 rest)
    ∙ pair_reads b.0 ps k b.1 (b.2 ++ rest) (kind, rest) b.5 inside

-- what reading the input gives, by its fault
stops_reads : (b : List ℕ) (kind : FaultKind) (offset : ℕ) (s : Stops b kind offset) → value_at 128 b ≡ Err (kind, s.rest)
stops_reads b kind offset s = ap (value_at 128) s.parts ∙ begun_reads s.levels 128 s.front s.rest s.due s.left kind s.begun (table_is s.due s.left s.rest
    ∙ s.fails)

trails_reads : (b : List ℕ) (kind : FaultKind) (offset : ℕ) (t : Trails b kind offset) → value_at 128 b ≡ Ok (t.value, t.rest)
trails_reads b kind offset t = ap (value_at 128) t.parts ∙ value_again t.value 128 t.front t.rest t.spells

abbrev bad : Failed → Parsed Bencode
bad e = Err e

bad_is : (x y : Failed) → bad x ≡ bad y → x ≡ y
bad_is x y e = cc

not_both : (x : Bencode × List ℕ) (d : Failed) → fine x ≡ bad d → ⊥
not_both x d e = absurd cc

-- what is read has no fault
pub read_has_no_fault : (b : List ℕ) (x : Bencode × List ℕ) (kind : FaultKind) (offset : ℕ) → value_at 128 b ≡ Ok x → Stops b kind offset → ⊥
read_has_no_fault b x kind offset read p = not_both x (kind, p.rest) (sym read ∙ stops_reads b kind offset p)

none_left : (n : ℕ) → 0 ≡ n → 0 < n → ⊥
none_left n e some = omega arith

pub no_fault : (b : List ℕ) (v : Bencode) (kind : FaultKind) (offset : ℕ) → Spells v b → Fails b kind offset → ⊥
no_fault b v kind offset s f = by_fault f
  where
    read : value_at 128 b ≡ Ok (v, [])
    read = ap (value_at 128) (sym (append-nil b)) ∙ value_again v 128 b [] s

    by_fault : Fails b kind offset → ⊥
    by_fault (inl p) = not_both (v, []) (kind, p.rest) (sym read ∙ stops_reads b kind offset p)
    by_fault (inr t) =
        let same : fine (v, []) ≡ fine (t.value, t.rest) = sym read ∙ trails_reads b kind offset t in
        let rests : 0 ≡ length t.rest = ap (λ (x : Bencode × List ℕ). length x.1) (ok_of (v, []) (t.value, t.rest) same) in
        none_left (length t.rest) rests t.more

-- the offset, by what is left
place_of : (b front rest : List ℕ) (offset : ℕ) → b ≡ front ++ rest → offset ≡ length front → offset ≡ length b - length rest
place_of b front rest offset e p = omega (arith, ap length e, length-append front rest)

pub one_fault : (b : List ℕ) (kind other : FaultKind) (offset place : ℕ) → Fails b kind offset → Fails b other place → (kind ≡ other) × (offset ≡ place)
one_fault b kind other offset place (inl p) (inl q) =
    let same = bad_is (kind, p.rest) (other, q.rest) (sym (stops_reads b kind offset p) ∙ stops_reads b other place q) in
    let rests : p.rest ≡ q.rest = ap (λ (x : Failed). x.1) same in (
      ap (λ (x : Failed). x.0) same,
      place_of b p.front p.rest offset p.parts p.place ∙ ap (λ t. length b - length t) rests
          ∙ sym (place_of b q.front q.rest place q.parts q.place),
    )
one_fault b kind other offset place (inl p) (inr t) = absurd (not_both (t.value, t.rest) (kind, p.rest) (sym (trails_reads b other place t)
    ∙ stops_reads b kind offset p))
one_fault b kind other offset place (inr t) (inl p) = absurd (not_both (t.value, t.rest) (other, p.rest) (sym (trails_reads b kind offset t)
    ∙ stops_reads b other place p))
one_fault b kind other offset place (inr t) (inr u) =
    let same : fine (t.value, t.rest) ≡ fine (u.value, u.rest) = sym (trails_reads b kind offset t) ∙ trails_reads b other place u in
    let rests : t.rest ≡ u.rest = ap (λ (x : Bencode × List ℕ). x.1) (ok_of (t.value, t.rest) (u.value, u.rest) same) in (
      t.is ∙ sym u.is,
      place_of b t.front t.rest offset t.parts t.place ∙ ap (λ r. length b - length r) rests
          ∙ sym (place_of b u.front u.rest place u.parts u.place),
    )
