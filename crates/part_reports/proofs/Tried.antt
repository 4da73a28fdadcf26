-- The verdicts that a line may have, tried one after the other.
use Rattle.std.proofs.Common.{◌≡◌, ℕ, zero, suc, ◌<◌, ◌^◌, true, false, List, [], ◌∷◌, ◌++◌, slice_get, Option, Some, None, is_some}
use Rattle.std.proofs.Common.{codes, decimal, refl, sym, ap, subst, ◌∙◌}
use Rattle.std.specs.Option.{MatchOption}
use Rattle.std.proofs.lemmas.Option.{none-some, same_Some}
use Rattle.lines.specs.Reading.{BeginsWith}
use Rattle.opening.specs.Description.{FileEntry}
use Rattle.printing.specs.Text.{path_text}
use Rattle.folders.specs.declared.report.FileVerdict.{FileVerdict}
use Rattle.folders.specs.declared.report.FileVerdict.TheVariants as file
use Rattle.folders.specs.declared.report.V1Verdict.{V1Verdict}
use Rattle.folders.specs.declared.report.V1Verdict.TheVariants as version1
use Rattle.folders.specs.Printed.{verdict_row, version1_rows}
use Rattle.lines.specs.Rows.{spell}
use Rattle.lines.specs.Texts.{text_of}
use Rattle.part_reports.specs.Lines.{IsSmall, IsSmallV1}
use Rattle.part_reports.specs.Scan.{IsFirstNumber}
use Rattle.part_reports.proofs.SameLines.{bad_line, bad_stream, same_stream}

-- the verdicts that are tried
abbrev pub verdicts_with : ℕ → List FileVerdict
verdicts_with p = file.Good ∷ file.Missing ∷ file.Unreadable ∷ file.WrongLength ∷ file.Bad p ∷ []

pub are_small : (p : ℕ) → p < 2 ^ 64 → (n : ℕ) (v : FileVerdict) → slice_get (verdicts_with p) n ≡ Some v → IsSmall v
are_small p small zero v is = subst IsSmall (same_Some file.Good v is) tt
are_small p small (suc zero) v is = subst IsSmall (same_Some file.Missing v is) tt
are_small p small (suc (suc zero)) v is = subst IsSmall (same_Some file.Unreadable v is) tt
are_small p small (suc (suc (suc zero))) v is = subst IsSmall (same_Some file.WrongLength v is) tt
are_small p small (suc (suc (suc (suc zero)))) v is = subst IsSmall (same_Some (file.Bad p) v is) small
are_small p small (suc (suc (suc (suc (suc n))))) v is = absurd (none-some v is)

-- if no line of these stands there, no line of a verdict does
pub none_there : (f : FileEntry) (text : List ℕ) (p : ℕ) → IsFirstNumber text p
    → ((n : ℕ) (v : FileVerdict) → slice_get (verdicts_with p) n ≡ Some v → BeginsWith (text_of (verdict_row v f)) text → ⊥)
    → (v : FileVerdict) → IsSmall v → BeginsWith (text_of (verdict_row v f)) text → ⊥
none_there f text p number tried file.Good small begins = tried 0 file.Good refl begins
none_there f text p number tried file.Missing small begins = tried 1 file.Missing refl begins
none_there f text p number tried file.Unreadable small begins = tried 2 file.Unreadable refl begins
none_there f text p number tried file.WrongLength small begins = tried 3 file.WrongLength refl begins
none_there f text p number tried (file.Bad q) small begins =
    let behind : List ℕ = (path_text f.path ++ codes "\n") ++ begins.0 in
    let same = number (codes "bad ") q 32 behind refl small refl (begins.1 ∙ bad_line q f begins.0) in
    tried 4 (file.Bad q) (ap (λ n. Some (file.Bad n)) same) begins

-- ---- the version 1 pieces

small_one : (v : V1Verdict) → IsSmallV1 v → (a : V1Verdict) → Some v ≡ Some a → IsSmallV1 a
small_one v small a is = subst IsSmallV1 (same_Some v a is) small

-- the line that stands there says the verdict
pub stands : {A : Type 0} (now : A → List ℕ) (w v : V1Verdict) (text more : List ℕ) (o : Option A) → is_some o ≡ true
    → MatchOption o (BeginsWith (spell text_of (version1_rows (Some w))) text → ⊥) (λ rest. text ≡ spell text_of (version1_rows (Some w)) ++ now rest)
    → IsSmallV1 w → IsSmallV1 v → text ≡ spell text_of (version1_rows (Some v)) ++ more → w ≡ v
stands now w v text more None some there low small is = (let x : ⊥ = cc in absurd x)
stands now w v text more (Some rest) some there low small is =
    same_Some w v (same_stream (Some w) (Some v) (now rest) more refl (small_one w low) (small_one v small) (sym there ∙ is))

-- or does not stand there
pub differs : {A : Type 0} (now : A → List ℕ) (w : V1Verdict) (text : List ℕ) (o : Option A) → is_some o ≡ false
    → MatchOption o (BeginsWith (spell text_of (version1_rows (Some w))) text → ⊥) (λ rest. text ≡ spell text_of (version1_rows (Some w)) ++ now rest)
    → BeginsWith (spell text_of (version1_rows (Some w))) text → ⊥
differs now w text None none there begins = there begins
differs now w text (Some rest) none there begins = (let x : ⊥ = cc in x)

-- if neither stands there, it is a bad piece with the number that does
pub else_bad : (text more : List ℕ) (p : ℕ) (v : V1Verdict) → (BeginsWith (spell text_of (version1_rows (Some version1.Good))) text → ⊥)
    → (BeginsWith (spell text_of (version1_rows (Some version1.NotChecked))) text → ⊥)
    → ((rest : List ℕ) → text ≡ codes "v1" ++ 32 ∷ rest → IsFirstNumber (32 ∷ rest) p) → IsSmallV1 v
    → text ≡ spell text_of (version1_rows (Some v)) ++ more → version1.Bad p ≡ v
else_bad text more p version1.Good good not_checked number small is = absurd (good (more, is))
else_bad text more p version1.NotChecked good not_checked number small is = absurd (not_checked (more, is))
else_bad text more p (version1.Bad q) good not_checked number small is =
    let line = is ∙ bad_stream q more in
    ap version1.Bad (number (codes "bad " ++ (decimal q ++ 10 ∷ more)) line (codes " bad ") q 10 more refl small refl refl)
