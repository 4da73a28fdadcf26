-- What lines say is one: no text has two readings.
use Rattle.std.proofs.Common.{◌≡◌, ℕ, true, List, [], ◌∷◌, ◌++◌, get_or, Option, Some, None, is_some}
use Rattle.std.proofs.Common.{codes, decimal, refl, sym, ap, ◌∙◌, append_assoc, arith}
use Rattle.std.proofs.lemmas.Grind.{flat_map-append}
use Rattle.chains.proofs.Cases.{same_parts}
use Rattle.opening.specs.Description.{FileEntry}
use Rattle.lines.specs.Texts.{items_text, text_of}
use Rattle.printing.specs.Text.{path_text}
use Rattle.folders.specs.declared.report.FileVerdict.{FileVerdict}
use Rattle.folders.specs.declared.report.FileVerdict.TheVariants as file
use Rattle.folders.specs.declared.report.V1Verdict.{V1Verdict}
use Rattle.folders.specs.declared.report.V1Verdict.TheVariants as version1
use Rattle.parts.specs.PartLines.{held_rows}
use Rattle.folders.specs.Printed.{verdict_row, version1_rows}
use Rattle.lines.specs.Rows.{Row, spell}
use Rattle.part_reports.specs.Lines.{IsSmall, IsSmallV1}
use Rattle.part_reports.proofs.Heads.{one_number}

pub same_rest : (front xs ys : List ℕ) → front ++ xs ≡ front ++ ys → xs ≡ ys
same_rest front xs ys is = (same_parts front xs front ys refl is).1

-- rows, and those behind them, in front of a text
pub rows_then : (xs ys : List Row) (more : List ℕ) → spell text_of (xs ++ ys) ++ more ≡ spell text_of xs ++ (spell text_of ys ++ more)
rows_then xs ys more = ap (λ l. l ++ more) (flat_map-append text_of xs ys) ∙ append_assoc (spell text_of xs) (spell text_of ys) more

-- the line of a file that has a place
pub held_line : (v : FileVerdict) (f : FileEntry) (more : List ℕ) → spell text_of (held_rows true v f) ++ more ≡ text_of (verdict_row v f) ++ more
held_line v f more = append_assoc (text_of (verdict_row v f)) [] more

-- ---- the line of a file

pub bad_line : (p : ℕ) (f : FileEntry) (xs : List ℕ)
    → text_of (verdict_row (file.Bad p) f) ++ xs ≡ codes "bad " ++ (decimal p ++ 32 ∷ ((path_text f.path ++ codes "\n") ++ xs))
unfolding items_text
bad_line p f xs = ap (λ t. codes "bad " ++ t) (append_assoc (decimal p) (32 ∷ (path_text f.path ++ codes "\n")) xs)

same_verdict : (f : FileEntry) (v w : FileVerdict) (xs ys : List ℕ) → IsSmall v → IsSmall w
    → text_of (verdict_row v f) ++ xs ≡ text_of (verdict_row w f) ++ ys → v ≡ w
unfolding items_text
same_verdict f file.Good file.Good xs ys small short is = refl
same_verdict f file.Missing file.Missing xs ys small short is = refl
same_verdict f file.Unreadable file.Unreadable xs ys small short is = refl
same_verdict f file.WrongLength file.WrongLength xs ys small short is = refl
same_verdict f (file.Bad p) (file.Bad q) xs ys small short is =
    let behind = same_rest (codes "bad ") _ _ (sym (bad_line p f xs) ∙ is ∙ bad_line q f ys) in
    ap file.Bad (one_number p q 32 32 _ _ small short refl refl behind).0
same_verdict f v w xs ys small short is = absurd (omega (arith, ap (λ text. get_or text 0 0) is))

-- two lines of one file in front of one text are one
pub same_line : (f : FileEntry) (v w : FileVerdict) (xs ys : List ℕ) → IsSmall v → IsSmall w
    → text_of (verdict_row v f) ++ xs ≡ text_of (verdict_row w f) ++ ys → (v ≡ w) × (xs ≡ ys)
same_line f v w xs ys small short is =
    let same = same_verdict f v w xs ys small short is in
    (same, same_rest (text_of (verdict_row w f)) xs ys (ap (λ u. text_of (verdict_row u f) ++ xs) (sym same) ∙ is))

-- ---- the end

pub bad_stream : (p : ℕ) (end : List ℕ) → spell text_of (version1_rows (Some (version1.Bad p))) ++ end ≡ codes "v1 bad " ++ (decimal p ++ 10 ∷ end)
unfolding items_text
bad_stream p end =
    let digits : List ℕ = decimal p in
    ap (λ t. codes "v1 bad " ++ t) (append_assoc (digits ++ 10 ∷ []) [] end ∙ append_assoc digits (10 ∷ []) end)

-- two lines on version 1 pieces in front of one text are one
pub same_stream : (v w : Option V1Verdict) (xs ys : List ℕ) → is_some v ≡ is_some w → ((a : V1Verdict) → v ≡ Some a → IsSmallV1 a)
    → ((b : V1Verdict) → w ≡ Some b → IsSmallV1 b) → spell text_of (version1_rows v) ++ xs ≡ spell text_of (version1_rows w) ++ ys → v ≡ w
unfolding items_text
same_stream None None xs ys hybrid small short is = refl
same_stream None (Some w) xs ys hybrid small short is = (let x : ⊥ = cc in absurd x)
same_stream (Some v) None xs ys hybrid small short is = (let x : ⊥ = cc in absurd x)
same_stream (Some version1.Good) (Some version1.Good) xs ys hybrid small short is = refl
same_stream (Some version1.NotChecked) (Some version1.NotChecked) xs ys hybrid small short is = refl
same_stream (Some (version1.Bad p)) (Some (version1.Bad q)) xs ys hybrid small short is =
    let behind = same_rest (codes "v1 bad ") _ _ (sym (bad_stream p xs) ∙ is ∙ bad_stream q ys) in
    let one = one_number p q 10 10 xs ys (small (version1.Bad p) refl) (short (version1.Bad q) refl) refl refl behind in
    ap (λ n. Some (version1.Bad n)) one.0
same_stream (Some v) (Some w) xs ys hybrid small short is = absurd (omega (arith, ap (λ text. get_or text 3 0) is))
