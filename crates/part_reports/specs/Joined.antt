-- What is joined of the reports of all parts of a check that are of one kind.
use Rattle.std.specs.Prelude.{◌≡◌, ℕ, ◌<◌, ◌^◌, List, length, map, slice_get, Option, Some}
use Rattle.opening.specs.Description.{Description}
use Rattle.folders.specs.declared.report.FileVerdict.{FileVerdict}
use Rattle.folders.specs.declared.report.V1Verdict.{V1Verdict}
use Rattle.parts.specs.Joins.{IsJoin}
use Rattle.parts.specs.MarkedLines.{marked_text, verdicts_of}
use Rattle.parts.specs.PartLines.{part_text}
use Rattle.parts.specs.Parts.{AreAllPlaces}
use Rattle.parts.specs.Shares.{share}
use Rattle.part_reports.specs.Lines.{CanReportMarked, MarkedPart, part_of}
use Rattle.part_reports.specs.declared.kind.Kind.{Kind}
use Rattle.part_reports.specs.declared.kind.Kind.TheVariants as kind

-- the report of this one of this many parts, of this kind: without the runs of bad pieces, or with
-- them
abbrev pub report_text_of : Kind → Description → ℕ → ℕ → MarkedPart → List ℕ
report_text_of kind.Plain t part count m = part_text t part count (verdicts_of m.marked) m.v1
report_text_of kind.Marked t part count m = marked_text t part count m.marked m.v1

-- one of these texts is the report of this one of this many parts, which can report this
pub record IsReadAs (k : Kind) (t : Description) (texts : List (List ℕ)) (part count : ℕ)
    (m : MarkedPart) : Type 0 where
  pub places : m.places ≡ share t part count
  pub can : CanReportMarked k t m
  pub number : ℕ
  pub there : slice_get texts number ≡ Some (report_text_of k t part count m)

-- what these texts report of the first parts of this many, in order
abbrev pub AreReadAs : Kind → Description → List (List ℕ) → ℕ → List MarkedPart → Type 0
AreReadAs k t texts count parts =
    (i : ℕ) (m : MarkedPart) → slice_get parts i ≡ Some m → IsReadAs k t texts i count m

-- a text is what this one of these parts reports
pub record IsTextAs (k : Kind) (t : Description) (parts : List MarkedPart) (number : ℕ)
    (text : List ℕ) : Type 0 where
  pub part : MarkedPart
  pub there : slice_get parts number ≡ Some part
  pub is : text ≡ report_text_of k t number (length parts) part

-- These verdicts join what the texts report, which are all of this kind: there is the report of
-- each part among them, and so they have all places of the torrent; and each text is the report of
-- a part, and each of another one.
pub record AreJoinedOf (k : Kind) (t : Description) (texts : List (List ℕ))
    (files : List FileVerdict) (v1 : Option V1Verdict) : Type 0 where
  pub parts : List MarkedPart
  pub some : 0 < length parts
  pub small : length parts < 2 ^ 64
  pub are : AreReadAs k t texts (length parts) parts
  pub all : AreAllPlaces t (map part_of parts)
  pub join : IsJoin t (map part_of parts) files v1
  pub number_of : ℕ → ℕ
  pub no_other : (i : ℕ) (text : List ℕ) → slice_get texts i ≡ Some text
      → IsTextAs k t parts (number_of i) text
  pub once : (i j : ℕ) → i < length texts → j < length texts → number_of i ≡ number_of j → i ≡ j

-- the same of reports without runs of bad pieces
abbrev pub AreJoined : Description → List (List ℕ) → List FileVerdict → Option V1Verdict → Type 0
AreJoined t texts files v1 = AreJoinedOf kind.Plain t texts files v1
