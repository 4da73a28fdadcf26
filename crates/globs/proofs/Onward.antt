-- Reading goes on where it stands.
use Rattle.std.proofs.Common.{◌≡◌, ◌∙◌, ℕ, suc, Bool, true, false, cond, List, [], ◌∷◌, ◌++◌, drop, length, Option, Some, None, option_map}
use Rattle.std.proofs.Common.{option_and_then, refl, sym, ap, append_assoc, ◌==◌}
use Rattle.globs.specs.declared.kinds.Range.{Range}
use Rattle.std.proofs.Common.{Err, Result, ◌||◌, ◌⊎◌, inl, inr, zero, arith, subst}
use Rattle.globs.specs.declared.reading.ReadFault.{ReadFault}
use Rattle.globs.specs.declared.reading.ReadFault.TheVariants as fault
use Rattle.globs.specs.Globs.{Whole}
use Rattle.globs.specs.Reading.{GlobFront, begins, part_at, put, range_at, ranges_at}
use Rattle.globs.specs.Texts.{AnswersAs, is_slash, parts_at}

pub put_put : {A B : Type 0} (before : List A) (x : A) (o : Option (List A × B))
    → option_map (put before) (option_map (put (x ∷ [])) o) ≡ option_map (put (before ++ x ∷ [])) o
put_put before x None = refl
put_put before x (Some y) = ap (λ t. Some (t, y.1)) (sym (append_assoc before (x ∷ []) y.0))

-- ---- ranges

abbrev pub NextRanges : ℕ → Range × List ℕ → Option (List Range × List ℕ)
NextRanges n x = option_map (put (x.0 ∷ [])) (ranges_at n x.1)

pub ranges_step : (m n : ℕ) (text more : List ℕ) (range : Range) → m ≡ suc n → begins 93 text ≡ false → Some (range, more) ≡ range_at text
    → ranges_at m text ≡ option_map (put (range ∷ [])) (ranges_at n more)
ranges_step m n text more range count more_of at =
    ap (λ k. ranges_at k text) count
    ∙ ap (λ b. cond b (Some ([], drop 1 text)) (option_and_then (NextRanges n) (range_at text))) more_of
    ∙ ap (option_and_then (NextRanges n)) (sym at)

pub ranges_end : (m n : ℕ) (text : List ℕ) → m ≡ suc n → begins 93 text ≡ true → ranges_at m text ≡ Some ([], drop 1 text)
ranges_end m n text count closed =
    ap (λ k. ranges_at k text) count
    ∙ ap (λ b. cond b (Some ([], drop 1 text)) (option_and_then (NextRanges n) (range_at text))) closed

pub ranges_none : (m n : ℕ) (text : List ℕ) → m ≡ suc n → begins 93 text ≡ false → None ≡ range_at text → ranges_at m text ≡ None
ranges_none m n text count more_of at =
    ap (λ k. ranges_at k text) count
    ∙ ap (λ b. cond b (Some ([], drop 1 text)) (option_and_then (NextRanges n) (range_at text))) more_of
    ∙ ap (option_and_then (NextRanges n)) (sym at)

-- ---- parts

abbrev pub NextParts : ℕ → GlobFront → Option Whole
NextParts n x = option_map (put (x.0 ∷ [])) (parts_at n x.1 x.2)

pub parts_more : (m n : ℕ) (starts : Bool) (text : List ℕ) → m ≡ suc n → (length text == 0) ≡ false → is_slash text ≡ false
    → parts_at m starts text ≡ option_and_then (NextParts n) (part_at starts text)
parts_more m n starts text count some more_of =
    ap (λ k. parts_at k starts text) count
    ∙ ap (λ b. cond (b || is_slash text) (Some ([], is_slash text)) (option_and_then (NextParts n) (part_at starts text))) some
    ∙ ap (λ b. cond b (Some ([], is_slash text)) (option_and_then (NextParts n) (part_at starts text))) more_of

-- a text that is at its end, or whose count is
pub parts_end : (m : ℕ) (starts : Bool) (text : List ℕ) → (m ≡ 0) ⊎ ((length text == 0 || is_slash text) ≡ true)
    → parts_at m starts text ≡ Some ([], is_slash text)
parts_end zero starts text over = refl
parts_end (suc n) starts text (inl none) = absurd (omega (arith, none))
parts_end (suc n) starts text (inr ends) = ap (λ b. cond b (Some ([], is_slash text)) (option_and_then (NextParts n) (part_at starts text))) ends

-- ---- faults

-- a fault of a part is one of the whole
fault_on : {A B S T : Type 0} (seen : A → S) (whole_seen : B → T) (f : ReadFault) (part : Option S) (whole : Option T)
    → AnswersAs seen (Err f) part → (part ≡ None → whole ≡ None) → AnswersAs whole_seen (Err f) whole
fault_on seen whole_seen fault.Malformed part whole said none = none said
fault_on seen whole_seen fault.NoMemory part whole said none = tt

pub same_fault : {A B S T : Type 0} (seen : A → S) (whole_seen : B → T) (e e' : ReadFault) (r : Result B ReadFault) (part : Option S) (whole : Option T)
    → r ≡ Err e' → e' ≡ e → AnswersAs seen (Err e) part → (part ≡ None → whole ≡ None) → AnswersAs whole_seen r whole
same_fault {A} {B} {S} {T} seen whole_seen e e' r part whole is same said none =
    let P : ReadFault → Type 0 = λ f. AnswersAs {A = B} {B = T} whole_seen (Err f) whole in
    let Q : Result B ReadFault → Type 0 = λ x. AnswersAs whole_seen x whole in
    subst Q (sym is) (subst P (sym same) (fault_on seen whole_seen e part whole said none))
