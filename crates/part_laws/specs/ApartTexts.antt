-- What the texts of reports make together if each part saw contents of its own.
use Rattle.std.specs.Prelude.{◌≡◌, ℕ, ◌+◌, ◌<◌, true, List, slice_get, Option, Some}
use Rattle.opening.specs.Description.{Description, FileEntry}
use Rattle.opening.specs.Sound.{IsSound}
use Rattle.pieces.specs.Cuts.{cut}
use Rattle.folders.specs.Folder.{Contents, GoodFolder}
use Rattle.folders.specs.Verdicts.{is_yes}
use Rattle.folders.specs.declared.report.FileVerdict.{FileVerdict}
use Rattle.folders.specs.declared.report.V1Verdict.{V1Verdict}
use Rattle.parts.specs.Parts.{Holds, piece_count}
use Rattle.parts.specs.Shares.{share}
use Rattle.part_reports.specs.Joined.{AreJoined}
use Rattle.part_reports.specs.Heads.{HasHead}
use Rattle.part_reports.specs.MarkedJoins.{AreJoinedAs}
use Rattle.part_reports.specs.Texts.{IsTrueReport}
use Rattle.part_reports.specs.declared.kind.Kind.{Kind}
use Rattle.part_reports.specs.declared.kind.Kind.TheVariants.{Marked, Plain}
use Rattle.part_reports.specs.declared.marked_report.MarkedReport.{MarkedReport}
use Rattle.part_laws.specs.MarkedTexts.{IsTrueMarkedReport}

-- each of the texts is the report of a part, and true of contents of its own
abbrev pub AreReportedApart : Description → List (List ℕ) → (ℕ → Contents) → Type 0
AreReportedApart t texts own = (i : ℕ) (text : List ℕ) → slice_get texts i ≡ Some text
    → IsTrueReport t (own i) text

-- each of the texts is the marked report of a part, and true of contents of its own
abbrev pub AreMarkedApart : Description → List (List ℕ) → (ℕ → Contents) → Type 0
AreMarkedApart t texts own = (i : ℕ) (text : List ℕ) → slice_get texts i ≡ Some text
    → IsTrueMarkedReport t (own i) text

-- piece j of file n is among the places of the part of which one of the texts is the report, by its
-- first line, and is these bytes in that part's own contents
pub record HasReportedPiece (k : Kind) (t : Description) (texts : List (List ℕ))
    (own : ℕ → Contents) (n : ℕ) (f : FileEntry) (j : ℕ) (piece : List ℕ) : Type 0 where
  pub number : ℕ
  pub text : List ℕ
  pub text_is : slice_get texts number ≡ Some text
  pub part : ℕ
  pub count : ℕ
  pub head : HasHead k text part count t.info_hash_v2
  pub held : Holds (share t part count) (f.first_piece + j)
  pub bytes : List ℕ
  pub there : own number n ≡ Some bytes
  pub piece_is : piece ≡ cut t.piece_length bytes j

-- each piece of these contents is one of a reported part's own, among whose places it is
abbrev pub AreMadeOfTexts : Kind → Description → List (List ℕ) → (ℕ → Contents) → Contents → Type 0
AreMadeOfTexts k t texts own contents = (n : ℕ) (f : FileEntry) (bytes : List ℕ) (j : ℕ)
    → slice_get t.files n ≡ Some f → contents n ≡ Some bytes → j < piece_count t f
    → HasReportedPiece k t texts own n f j (cut t.piece_length bytes j)

-- A yes of the texts is a yes also if each part saw contents of its own: their pieces together are
-- a good folder. No collision excuses it.
abbrev pub YesOfTextsApart : Type 0
YesOfTextsApart = (t : Description) (texts : List (List ℕ)) (own : ℕ → Contents)
    (files : List FileVerdict) (v1 : Option V1Verdict) → IsSound t → AreReportedApart t texts own
    → AreJoined t texts files v1 → is_yes files v1 ≡ true
    → (contents : Contents) × GoodFolder t contents × AreMadeOfTexts Plain t texts own contents

-- the same of marked reports
abbrev pub YesOfMarkedTextsApart : Type 0
YesOfMarkedTextsApart = (t : Description) (texts : List (List ℕ)) (own : ℕ → Contents)
    (joined : MarkedReport) → IsSound t → AreMarkedApart t texts own
    → AreJoinedAs Marked t texts joined
    → is_yes joined.report.files.items joined.report.v1 ≡ true
    → (contents : Contents) × GoodFolder t contents × AreMadeOfTexts Marked t texts own contents
