-- What follows of the reports of parts.
use Rattle.std.specs.Prelude.{◌⊎◌, ℕ, List, Option}
use Rattle.benc.specs.Device.{SentAndFlushed, SinkSeen}
use Rattle.folders.specs.Folder.{Contents}
use Rattle.folders.specs.Verdicts.{AgreeWith}
use Rattle.folders.specs.declared.report.FileVerdict.{FileVerdict}
use Rattle.folders.specs.declared.report.V1Verdict.{V1Verdict}
use Rattle.opening.specs.Description.{Description}
use Rattle.part_reports.specs.Reasons.{IsPlainReport}
use Rattle.part_reports.specs.Texts.{AreTrueReports, IsTrueReport}
use Rattle.parts.specs.Collisions.{FileCollides}
use Rattle.parts.specs.Laws.{IsReportOfContents}

-- a whole report of the part, counted from 0, of this many went out, which is true of contents that
-- are those of a shelf that holds this, as far as they are known
pub record SendsReport (t : Description) (part count : ℕ)
    (under : List (List ℕ) → Option (Option (List ℕ))) (out out' : SinkSeen) : Type 0 where
  pub contents : Contents
  pub agree : AgreeWith t under contents
  pub text : List ℕ
  pub sent : SentAndFlushed out out' text
  pub whole : IsPlainReport t part count text
  pub are_true : IsTrueReport t contents text

-- if each of the texts is the report of a part, and true of the same contents, this is what a check
-- says of them, or a collision is named
abbrev pub IsWhatACheckSays : Description → List (List ℕ) → List FileVerdict → Option V1Verdict
    → Type 0
IsWhatACheckSays t texts files v1 = (contents : Contents) → AreTrueReports t contents texts
    → IsReportOfContents t contents files v1 ⊎ FileCollides t contents
