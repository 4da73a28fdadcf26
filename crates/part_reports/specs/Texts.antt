-- What the texts of reports make together.
use Rattle.std.specs.Prelude.{◌≡◌, ◌⊎◌, ℕ, ◌<◌, ◌^◌, true, false, List, Option, Some, slice_get}
use Rattle.opening.specs.Description.{Description, FileEntry}
use Rattle.opening.specs.Sound.{IsSound}
use Rattle.folders.specs.Folder.{Contents}
use Rattle.folders.specs.Verdicts.{is_yes}
use Rattle.folders.specs.declared.report.FileVerdict.{FileVerdict}
use Rattle.folders.specs.declared.report.FileVerdict.TheVariants as file
use Rattle.folders.specs.declared.report.V1Verdict.{V1Verdict}
use Rattle.folders.specs.Folder.{GoodFolder}
use Rattle.parts.specs.Collisions.{FileCollides}
use Rattle.parts.specs.Laws.{IsReportOfContents}
use Rattle.parts.specs.PartLines.{has_place, part_text}
use Rattle.parts.specs.Parts.{IsTruePart, PartReport}
use Rattle.parts.specs.Shares.{share}
use Rattle.part_reports.specs.Joined.{AreJoined}
use Rattle.part_reports.specs.Reasons.{IsPlainReport}

-- this one of this many parts reports these verdicts
abbrev pub reported : Description → ℕ → ℕ → List FileVerdict → Option V1Verdict → PartReport
reported t part count files v1 = record {
  places = share t part count;
  files = files;
  v1 = v1;
}

-- the text is what one of some parts prints of verdicts that are true of these contents
pub record IsTrueReport (t : Description) (contents : Contents) (text : List ℕ) : Type 0 where
  pub part : ℕ
  pub count : ℕ
  pub files : List FileVerdict
  pub v1 : Option V1Verdict
  pub there : part < count
  pub small : count < 2 ^ 64
  pub are_true : IsTruePart t contents (reported t part count files v1)
  pub is : text ≡ part_text t part count files v1

-- each of the texts is the report of a part, and true of these contents
abbrev pub AreTrueReports : Description → Contents → List (List ℕ) → Type 0
AreTrueReports t contents texts =
    (i : ℕ) (text : List ℕ) → slice_get texts i ≡ Some text → IsTrueReport t contents text

-- The texts of the parts make the report: if each is the report of a part, and true of the same
-- contents, what is joined of them is what a check reports of these contents, or a collision is
-- named.
abbrev pub TextsMakeTheReport : Type 0
TextsMakeTheReport =
    (t : Description) (contents : Contents) (texts : List (List ℕ)) (files : List FileVerdict)
    (v1 : Option V1Verdict) → IsSound t → AreTrueReports t contents texts
    → AreJoined t texts files v1
    → IsReportOfContents t contents files v1 ⊎ FileCollides t contents

-- A yes of the texts is a yes: if each is the report of a part, and true of the same contents, and
-- what is joined of them says yes, the folder is good. No collision excuses it.
abbrev pub YesOfTexts : Type 0
YesOfTexts =
    (t : Description) (contents : Contents) (texts : List (List ℕ)) (files : List FileVerdict)
    (v1 : Option V1Verdict) → IsSound t → AreTrueReports t contents texts
    → AreJoined t texts files v1 → is_yes files v1 ≡ true → GoodFolder t contents

-- true verdicts of a part that calls each file good of which it has no place are a report
abbrev pub TruePartsReport : Type 0
TruePartsReport = (t : Description) (contents : Contents) (part count : ℕ)
    (files : List FileVerdict) (v1 : Option V1Verdict) → part < count → count < 2 ^ 64
    → IsTruePart t contents (reported t part count files v1)
    → ((n : ℕ) (f : FileEntry) (v : FileVerdict) → slice_get t.files n ≡ Some f
    → slice_get files n ≡ Some v → has_place t (share t part count) f ≡ false → v ≡ file.Good)
    → IsPlainReport t part count (part_text t part count files v1)
