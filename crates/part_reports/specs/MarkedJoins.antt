-- What is joined of the bad pieces that the reports of all parts of a check tell of.
use Rattle.std.specs.Prelude.{◌≡◌, ◌↔◌, ℕ, ◌-◌, List, slice_get, Some}
use Rattle.opening.specs.Description.{Description}
use Rattle.parts.specs.Parts.{place_count}
use Rattle.parts.specs.Shares.{share}
use Rattle.part_reports.specs.Joined.{AreJoinedOf, report_text_of}
use Rattle.part_reports.specs.Lines.{CanReportMarked, JoinsMore, MarkedPart, part_of}
use Rattle.part_reports.specs.Marks.{HasMarkRoom, IsPieceMarked, IsTold, MarksMore}
use Rattle.part_reports.specs.declared.kind.Kind.{Kind}
use Rattle.part_reports.specs.declared.marked_report.MarkedReport.{MarkedReport}

-- one of these parts tells that this piece of the torrent is bad
pub record IsToldByOne (t : Description) (parts : List MarkedPart) (piece : ℕ) : Type 0 where
  pub number : ℕ
  pub part : MarkedPart
  pub there : slice_get parts number ≡ Some part
  pub told : IsTold t part.marked piece

-- the marked pieces are those that one of the parts tells of
abbrev pub AreMarksOf : Description → List MarkedPart → MarkedReport → Type 0
AreMarksOf t parts joined = (piece : ℕ) → IsPieceMarked joined.bad piece ↔ IsToldByOne t parts piece

-- This joins what the texts report, which are all of this kind: its verdicts do, and a piece is
-- marked exactly if one of the parts tells that it is bad. There is a mark for each piece, if they
-- tell of bad ones.
pub record AreJoinedAs (k : Kind) (t : Description) (texts : List (List ℕ)) (joined : MarkedReport)
    : Type 0 where
  pub verdicts : AreJoinedOf k t texts joined.report.files.items joined.report.v1
  pub marks : AreMarksOf t verdicts.parts joined
  pub room : HasMarkRoom k (place_count t - 1) joined.bad

-- what a text says, as the report of this one of this many parts, was joined to a report
pub record JoinsText (k : Kind) (t : Description) (part count : ℕ) (text : List ℕ)
    (old new : MarkedReport) : Type 0 where
  pub said : MarkedPart
  pub places : said.places ≡ share t part count
  pub can : CanReportMarked k t said
  pub is : text ≡ report_text_of k t part count said
  pub joined : JoinsMore (part_of said) old.report.files.items new.report.files.items old.report.v1
      new.report.v1
  pub marks : MarksMore (IsTold t said.marked) old.bad new.bad
