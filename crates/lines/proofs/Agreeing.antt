-- What is written is compared with a text.
use Rattle.std.proofs.Common.{◌≡◌, ℕ, ◌+◌, ◌-◌, ◌<◌, ◌≤◌, List, [], ◌∷◌, ◌++◌, length, take, drop, get_or, Option, Some, None}
use Rattle.std.proofs.Common.{Bool, true, nat_eq, refl, sym, ap, subst, ◌∙◌, arith, append_assoc}
use Rattle.std.specs.Cmp.Lexicographic.{pointwise, same_text}
use Rattle.std.proofs.lemmas.List.{append-nil, drop_at, drop_more, length-append, length-take-le, take-append-drop, take_at, take_more, take_rest}
use Rattle.std.proofs.Math.Seq.{take-append-add, take-length}
use Rattle.lines.specs.Reading.{BeginsWith, bytes_taken, compared_bytes, one_or_none}
use Rattle.lines.specs.declared.compared.Compared.{Compared}

-- ---- bytes of the text

goes_on : (text bytes : List ℕ) (taken : ℕ) → taken ≤ length text → pointwise nat_eq bytes (take (length bytes) (drop taken text)) ≡ true
    → take (taken + length bytes) text ≡ take taken text ++ bytes
goes_on text bytes taken inside same =
    ap (take (taken + length bytes)) (sym (take-append-drop taken text))
    ∙ ap (λ k. take (k + length bytes) (take taken text ++ drop taken text)) (sym (length-take-le taken text inside))
    ∙ take-append-add (take taken text) (drop taken text) (length bytes)
    ∙ ap (λ b. take taken text ++ b) (sym (same_text bytes (take (length bytes) (drop taken text)) (sym same)))

-- if none differed so far, these bytes of the text were taken
pub took_all : (text bytes : List ℕ) (taken : ℕ) (o : Option ℕ) → o ≡ None → taken ≤ length text
    → pointwise nat_eq bytes (take (length bytes) (take (length text - taken) (drop taken text))) ≡ true
    → take (taken + length bytes) text ++ one_or_none o ≡ (take taken text ++ one_or_none o) ++ take (length bytes) bytes
took_all text bytes taken o is inside same =
    let same : pointwise nat_eq bytes (take (length bytes) (drop taken text)) ≡ true =
    subst (λ r. pointwise nat_eq bytes (take (length bytes) r) ≡ true) (take_rest text taken) same in
    ap (λ o. take (taken + length bytes) text ++ one_or_none o) is
    ∙ append-nil (take (taken + length bytes) text)
    ∙ goes_on text bytes taken inside same
    ∙ ap (λ b. take taken text ++ b) (sym (take-length bytes))
    ∙ ap (λ t. t ++ take (length bytes) bytes) (sym (append-nil (take taken text)))
    ∙ ap (λ o. (take taken text ++ one_or_none o) ++ take (length bytes) bytes) (sym is)

-- or the one that is the text's next
pub took_one : (text : List ℕ) (taken byte : ℕ) (o : Option ℕ) → o ≡ None → taken < length text → get_or text taken 0 ≡ byte
    → take (taken + 1) text ++ one_or_none o ≡ (take taken text ++ one_or_none o) ++ byte ∷ []
took_one text taken byte o is inside same =
    ap (λ o. take (taken + 1) text ++ one_or_none o) is
    ∙ append-nil (take (taken + 1) text)
    ∙ take_more text taken 0 inside
    ∙ ap (λ b. take taken text ++ b ∷ []) same
    ∙ ap (λ t. t ++ byte ∷ []) (sym (append-nil (take taken text)))
    ∙ ap (λ o. (take taken text ++ one_or_none o) ++ byte ∷ []) (sym is)

-- or one that is not
pub took_other : (text : List ℕ) (taken byte : ℕ) (o : Option ℕ) → o ≡ None
    → take taken text ++ byte ∷ [] ≡ (take taken text ++ one_or_none o) ++ byte ∷ []
took_other text taken byte o is =
    ap (λ t. t ++ byte ∷ []) (sym (append-nil (take taken text)))
    ∙ ap (λ o. (take taken text ++ one_or_none o) ++ byte ∷ []) (sym is)

-- ---- the text stands in front of what was written

pub grown : (old new : Compared) (bytes : List ℕ) → new.text.now ≡ old.text.now → bytes_taken new ≡ bytes_taken old ++ bytes
    → compared_bytes new ≡ compared_bytes old ++ bytes
grown old new bytes same more =
    ap (λ t. length t ∷ (t ++ bytes_taken new)) same
    ∙ ap (λ b. length old.text.now ∷ (old.text.now ++ b)) more
    ∙ ap (λ b. length old.text.now ∷ b) (sym (append_assoc old.text.now (bytes_taken old) bytes))

fronts : (a b x y : List ℕ) → length a ≡ length b → a ++ x ≡ b ++ y → (a ≡ b) × (x ≡ y)
fronts a b x y long same = (
  sym (take_at a x (length b) long) ∙ ap (take (length b)) same ∙ take_at b y (length b) refl,
  sym (drop_at a x (length b) long) ∙ ap (drop (length b)) same ∙ drop_at b y (length b) refl,
)

pub same_after : (old new : Compared) (bytes : List ℕ) → compared_bytes new ≡ compared_bytes old ++ bytes
    → (new.text.now ≡ old.text.now) × (bytes_taken new ≡ bytes_taken old ++ bytes)
same_after old new bytes is =
    let long : length new.text.now ≡ length old.text.now = cc in
    let behind : new.text.now ++ bytes_taken new ≡ (old.text.now ++ bytes_taken old) ++ bytes = cc in
    fronts new.text.now old.text.now (bytes_taken new) (bytes_taken old ++ bytes) long
    (behind ∙ append_assoc old.text.now (bytes_taken old) bytes)

-- ---- what stands behind it

pub rest_is : (text : List ℕ) (taken : ℕ) (o : Option ℕ) → o ≡ None
    → text ≡ (take taken text ++ one_or_none o) ++ take (length text - taken) (drop taken text)
rest_is text taken o is =
    sym (take-append-drop taken text)
    ∙ ap (λ r. take taken text ++ r) (sym (take_rest text taken))
    ∙ ap (λ t. t ++ take (length text - taken) (drop taken text)) (sym (append-nil (take taken text)))
    ∙ ap (λ o. (take taken text ++ one_or_none o) ++ take (length text - taken) (drop taken text)) (sym is)

-- the text does not go on with a byte that differs
other_byte : (text more : List ℕ) (taken byte : ℕ) → taken ≤ length text → (taken < length text → get_or text taken 0 ≡ byte → ⊥)
    → text ≡ (take taken text ++ byte ∷ []) ++ more → ⊥
other_byte text more taken byte inside differs is =
    let is : text ≡ take taken text ++ byte ∷ more = is ∙ append_assoc (take taken text) (byte ∷ []) more in
    let long = length-take-le taken text inside in
    let behind : drop taken text ≡ byte ∷ more = ap (drop taken) is ∙ drop_at (take taken text) (byte ∷ more) taken long in
    let count : length text ≡ length (take taken text) + length (byte ∷ more) = ap length is ∙ length-append (take taken text) (byte ∷ more) in
    let before : taken < length text = omega (arith, count, long) in
    let next = drop_more text taken 0 before in
    differs before (let x : get_or text taken 0 ≡ byte = cc in x)

-- a text does not begin with what goes on so
pub differs_there : (c : Compared) (line : List ℕ) (n : ℕ) → bytes_taken c ≡ take n line → (c.other ≡ None → ⊥) → BeginsWith line c.text.now → ⊥
differs_there c line n taken some begins =
    let o = some_of c.other some in
    let front : take c.taken c.text.now ++ o.0 ∷ [] ≡ take n line = ap (λ o. take c.taken c.text.now ++ one_or_none o) (sym o.1) ∙ taken in
    let is : c.text.now ≡ (take c.taken c.text.now ++ o.0 ∷ []) ++ (drop n line ++ begins.0) =
    begins.1 ∙ ap (λ l. l ++ begins.0) (sym (take-append-drop n line)) ∙ append_assoc (take n line) (drop n line) begins.0
    ∙ ap (λ f. f ++ (drop n line ++ begins.0)) (sym front) in
    other_byte c.text.now (drop n line ++ begins.0) c.taken o.0 c.inside (c.differs o.0 o.1) is
  where
    some_of : (o : Option ℕ) → (o ≡ None → ⊥) → (b : ℕ) × (o ≡ Some b)
    some_of None some = absurd (some refl)
    some_of (Some b) some = (b, refl)
