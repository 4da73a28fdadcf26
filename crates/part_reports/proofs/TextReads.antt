-- A text, by what was done with its lines.
use Rattle.std.proofs.Common.{◌≡◌, ℕ, zero, suc, List, [], ◌∷◌, ◌++◌, map, slice_get, Option, Some, None, refl, sym, ap, subst, ◌∙◌}
use Rattle.std.proofs.lemmas.Option.{none-some, same_Some}
use Rattle.opening.specs.Description.{Description}
use Rattle.parts.specs.Parts.{PartReport}
use Rattle.parts.specs.Shares.{share}
use Rattle.parts.specs.declared.places.Places.{Places}
use Rattle.std.specs.Option.{MatchOption}
use Rattle.part_reports.specs.Heads.{first_line}
use Rattle.part_reports.specs.Lines.{HasLines, JoinsLines, MarkedPart, marked_rest, part_of}
use Rattle.part_reports.specs.MarkedJoins.{JoinsText}
use Rattle.part_reports.specs.Reasons.{IsReportOfKind}
use Rattle.part_reports.proofs.Faults.{text_is}
use Rattle.part_reports.specs.declared.kind.Kind.{Kind}
use Rattle.part_reports.specs.declared.marked_report.MarkedReport.{MarkedReport}
use Rattle.part_reports.proofs.SameLines.{same_rest}

-- a text that is a report has such lines
lines_of : (k : Kind) (t : Description) (part count : ℕ) (r : Places) (lines : List ℕ) → r ≡ share t part count
    → IsReportOfKind k t part count (first_line k part count t.info_hash_v2 ++ lines) → HasLines k t r lines
lines_of k t part count r lines places report =
    let m = report.said in
    let behind = same_rest (first_line k part count t.info_hash_v2) lines (marked_rest t m)
    (report.is ∙ sym (text_is k t part count m report.places report.can.marks)) in
    (m, report.places ∙ sym places, record { can = report.can; is = behind })

-- what was done with the lines of a text was done with the text
pub text_read : (k : Kind) (t : Description) (part count : ℕ) (r : Places) (lines text : List ℕ) (old new : MarkedReport)
    (res : Option (Unit {0})) → r ≡ share t part count → text ≡ first_line k part count t.info_hash_v2 ++ lines
    → MatchOption res (HasLines k t r lines → ⊥) (λ u. JoinsLines k t r lines old new)
    → MatchOption res (IsReportOfKind k t part count text → ⊥) (λ u. JoinsText k t part count text old new)
text_read k t part count r lines text old new (Some u) places is done =
    let m = done.part in
    let own : m.places ≡ share t part count = done.places ∙ places in
    record {
      said = m;
      places = own;
      can = done.says.can;
      is = is ∙ ap (λ l. first_line k part count t.info_hash_v2 ++ l) done.says.is ∙ text_is k t part count m own done.says.can.marks;
      joined = done.joined;
      marks = done.marks;
    }
text_read k t part count r lines text old new None places is none = λ report.
    none (lines_of k t part count r lines places (subst (IsReportOfKind k t part count) is report))

pub part_at : (parts : List MarkedPart) (i : ℕ) (p : PartReport) → slice_get (map part_of parts) i ≡ Some p
    → (m : MarkedPart) × (slice_get parts i ≡ Some m) × (part_of m ≡ p)
part_at [] i p at = absurd (none-some p at)
part_at (m ∷ parts) zero p at = (m, refl, same_Some (part_of m) p at)
part_at (m ∷ parts) (suc i) p at = part_at parts i p at
