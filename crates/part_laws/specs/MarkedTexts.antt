-- What the texts of marked reports make together: what a check prints that tells of bad pieces.
use Rattle.std.specs.Prelude.{◌≡◌, ◌⊎◌, ℕ, ◌<◌, ◌^◌, true, false, List, [], ◌∷◌, ◌++◌, Option, Some, slice_get}
use Rattle.lines.specs.Rows.{spell}
use Rattle.lines.specs.Texts.{text_of}
use Rattle.opening.specs.Description.{Description, FileEntry}
use Rattle.opening.specs.Sound.{IsSound}
use Rattle.folders.specs.Folder.{Contents, GoodFolder}
use Rattle.folders.specs.Printed.{end_rows}
use Rattle.folders.specs.Verdicts.{is_yes}
use Rattle.folders.specs.declared.report_lines.Lines.TheVariants as lines
use Rattle.folders.specs.declared.report.FileVerdict.{FileVerdict}
use Rattle.folders.specs.declared.report.FileVerdict.TheVariants as file
use Rattle.folders.specs.declared.report.V1Verdict.{V1Verdict}
use Rattle.parts.specs.Collisions.{FileCollides}
use Rattle.parts.specs.Laws.{IsReportOfContents}
use Rattle.parts.specs.MarkedChecks.{AreAllMarked}
use Rattle.parts.specs.MarkedLines.{marked_text, verdicts_of}
use Rattle.parts.specs.PartLines.{has_place}
use Rattle.parts.specs.Parts.{IsTruePart}
use Rattle.parts.specs.Runs.{AreRunsOf, Run}
use Rattle.parts.specs.Shares.{share}
use Rattle.parts.specs.Telling.{AreToldRuns, has_runs}
use Rattle.parts.specs.Visiting.{AreTold, verdicts_in}
use Rattle.parts.specs.declared.telling.Telling.TheVariants as telling
use Rattle.part_reports.specs.MarkedJoins.{AreJoinedAs}
use Rattle.part_reports.specs.Reasons.{IsMarkedReport}
use Rattle.part_reports.specs.Texts.{reported}
use Rattle.part_reports.specs.WholeLines.{ShowsAll, whole_text}
use Rattle.part_reports.specs.declared.kind.Kind.TheVariants.{Marked}
use Rattle.part_reports.specs.declared.marked_report.MarkedReport.{MarkedReport}

-- ---- the parts

-- the text is what one of some parts prints of verdicts and of runs of bad pieces that are true of
-- these contents
pub record IsTrueMarkedReport (t : Description) (contents : Contents) (text : List ℕ) : Type 0
  where
    pub part : ℕ
    pub count : ℕ
    pub marked : List (FileVerdict × List Run)
    pub v1 : Option V1Verdict
    pub there : part < count
    pub small : count < 2 ^ 64
    pub are_true : IsTruePart t contents (reported t part count (verdicts_of marked) v1)
    pub runs : AreAllMarked t (share t part count) contents marked
    pub is : text ≡ marked_text t part count marked v1

-- each of the texts is the marked report of a part, and true of these contents
abbrev pub AreTrueMarkedReports : Description → Contents → List (List ℕ) → Type 0
AreTrueMarkedReports t contents texts =
    (i : ℕ) (text : List ℕ) → slice_get texts i ≡ Some text → IsTrueMarkedReport t contents text

-- ---- what a check prints

-- what is told of some files, one after the other
abbrev pub all_told : List (FileVerdict × List ℕ) → List ℕ
all_told [] = []
all_told (x ∷ xs) = x.1 ++ all_told xs

-- the text is what a check of a folder with these contents prints that tells of bad pieces, if
-- these are its verdicts
pub record IsCheckText (t : Description) (contents : Contents) (verdicts : List FileVerdict)
    (v1 : Option V1Verdict) (text : List ℕ) : Type 0 where
  pub report : IsReportOfContents t contents verdicts v1
  pub told : List (FileVerdict × List ℕ)
  pub verdicts_are : verdicts_in told ≡ verdicts
  pub tells : AreTold text_of t (telling.LineAndRuns lines.All) contents told
  pub is : text ≡ all_told told ++ spell text_of (end_rows lines.All verdicts v1)

-- ---- the laws

-- The marked text of a part is such a report as is joined: if its verdicts and its runs are true of
-- the same contents, and it calls each file good of which it has no place, it can report them, and
-- the runs of a bad file begin with the piece that its verdict names. No collision excuses it.
abbrev pub TrueMarkedPartsReport : Type 0
TrueMarkedPartsReport = (t : Description) (contents : Contents) (part count : ℕ)
    (marked : List (FileVerdict × List Run)) (v1 : Option V1Verdict) → IsSound t → part < count
    → count < 2 ^ 64 → IsTruePart t contents (reported t part count (verdicts_of marked) v1)
    → AreAllMarked t (share t part count) contents marked
    → ((n : ℕ) (f : FileEntry) (v : FileVerdict) → slice_get t.files n ≡ Some f
    → slice_get (verdicts_of marked) n ≡ Some v → has_place t (share t part count) f ≡ false
    → v ≡ file.Good)
    → IsMarkedReport t part count (marked_text t part count marked v1)

-- The runs of a join are those of the check: if each of the texts is the marked report of a part,
-- and true of the same contents, the runs that are printed of a file whose joined verdict has runs
-- are exactly the maximal runs of its bad pieces, and of another file there are none. No collision
-- excuses it.
abbrev pub JoinedRunsAreTheChecks : Type 0
JoinedRunsAreTheChecks =
    (t : Description) (contents : Contents) (texts : List (List ℕ)) (joined : MarkedReport)
    (marked : List (FileVerdict × List Run)) → IsSound t → AreTrueMarkedReports t contents texts
    → AreJoinedAs Marked t texts joined → ShowsAll t joined marked
    → (n : ℕ) (f : FileEntry) (x : FileVerdict × List Run) → slice_get t.files n ≡ Some f
    → slice_get marked n ≡ Some x
    → AreToldRuns (AreRunsOf t f) (has_runs x.0) (contents n) x.1

-- A join of such texts prints what a check of these contents prints that tells of bad pieces, or a
-- collision is named.
abbrev pub JoinPrintsTheCheck : Type 0
JoinPrintsTheCheck =
    (t : Description) (contents : Contents) (texts : List (List ℕ)) (joined : MarkedReport)
    (marked : List (FileVerdict × List Run)) → IsSound t → AreTrueMarkedReports t contents texts
    → AreJoinedAs Marked t texts joined → ShowsAll t joined marked
    → IsCheckText t contents joined.report.files.items joined.report.v1
    (whole_text t marked joined) ⊎ FileCollides t contents

-- A yes of such texts is a yes: if each is the marked report of a part, and true of the same
-- contents, and what is joined of them says yes, the folder is good. No collision excuses it.
abbrev pub YesOfMarkedTexts : Type 0
YesOfMarkedTexts =
    (t : Description) (contents : Contents) (texts : List (List ℕ)) (joined : MarkedReport)
    → IsSound t → AreTrueMarkedReports t contents texts → AreJoinedAs Marked t texts joined
    → is_yes joined.report.files.items joined.report.v1 ≡ true → GoodFolder t contents
