use Rattle.std.proofs.Common.{◌≡◌, ◌∙◌, ℕ, suc, ◌<◌, List, [], ◌∷◌, ◌++◌, length, map, take, drop, get_or}
use Rattle.std.proofs.Common.{Some, None, Option, Result, Err, ap, arith, drop-cons, subst, sym}
use Rattle.std.specs.Borrow.{Bor}
use Rattle.std.proofs.lemmas.List.{length-map, length-take-le, map-append, take-append-drop}
use Rattle.std.proofs.lemmas.Simd.{map-map}
use Rattle.globs.specs.declared.kinds.Glob.{Glob}
use Rattle.globs.specs.declared.reading.ReadFault.{ReadFault}
use Rattle.globs.specs.declared.reading.ReadFault.TheVariants as fault
use Rattle.globs.specs.Globs.{Whole, whole_of}
use Rattle.globs.specs.Texts.{AnswersAs, AreRead, IsFirstNone, chars_of, glob_of}
use Rattle.globs.proofs.set.read_globs.Goals as goal

-- what each text is read as
abbrev globs_of : List (Bor (List ℕ)) → List (Option Whole)
globs_of texts = map glob_of (map chars_of texts)

first_none : (texts : List (Bor (List ℕ))) (d : Bor (List ℕ)) (n : ℕ) (globs : List Glob) → n < length texts → AreRead (take n texts) globs
    → glob_of (chars_of (get_or texts n d)) ≡ None → IsFirstNone n texts
first_none texts d n globs lt read none =
    let here = get_or texts n d in
    let rest = drop (suc n) texts in
    let before = map whole_of globs in
    let some : map (λ glob. Some (whole_of glob)) globs ≡ map (λ glob. Some glob) before = sym (map-map (λ glob. Some glob) whole_of globs) in
    let split : texts ≡ take n texts ++ here ∷ rest = sym (take-append-drop n texts) ∙ ap (λ t. take n texts ++ t) (drop-cons texts n d lt) in
    let whole : globs_of texts ≡ globs_of (take n texts) ++ glob_of (chars_of here) ∷ globs_of rest =
    ap globs_of split ∙ ap (map glob_of) (map-append chars_of (take n texts) (here ∷ rest))
    ∙ map-append glob_of (map chars_of (take n texts)) (map chars_of (here ∷ rest)) in
    let count : length before ≡ n =
    length-map globs whole_of ∙ sym (length-map globs (λ glob. Some (whole_of glob))) ∙ ap length (sym read)
    ∙ length-map (map chars_of (take n texts)) glob_of ∙ length-map (take n texts) chars_of ∙ length-take-le n texts (omega (arith, lt)) in (
      before,
      globs_of rest,
      whole ∙ ap (λ gs. gs ++ glob_of (chars_of here) ∷ globs_of rest) (read ∙ some) ∙ ap (λ g. map (λ glob. Some glob) before ++ g ∷ globs_of rest) none,
      count,
    )

none_of : (r : Result Glob ReadFault) (f : ReadFault) (text : List ℕ) → r ≡ Err f → f ≡ fault.Malformed → AnswersAs whole_of r (glob_of text)
    → glob_of text ≡ None
none_of r f text is malformed said =
    let P : Result Glob ReadFault → Type 0 = λ x. AnswersAs whole_of x (glob_of text) in subst P (is ∙ ap Err malformed) said

pub returns-in-Err-Malformed-clause-none : goal.returns-in-Err-Malformed-clause-none
returns-in-Err-Malformed-clause-none c = λ n e.
    let texts = c.args.texts.now in
    let d : Bor (List ℕ) = record { ref_ptr = (0, 0); now = [] } in
    let same : c.texts.number ≡ n = cc in
    let P : ℕ → Type 0 = λ k. IsFirstNone k texts in
    subst P same (first_none texts d c.texts.number c.texts.globs.items (omega arith) c.texts.invariant
    (none_of c.read_text.result c.in-Err-Malformed.field-0 (chars_of (get_or texts c.texts.number d)) c.in-Err-Malformed.is c.in-Err-Malformed.field-0-is
    c.read_text.ensures))
