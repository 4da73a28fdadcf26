-- What is read of the lines of a report.
use Rattle.std.specs.Prelude.{◌≡◌, ℕ, ◌-◌, ◌^◌, ◌<◌, List, ◌++◌, codes, length, slice_get, Option, Some, is_some, Bool, false, ◌&&◌, ⊤}
use Rattle.opening.specs.Description.{Description, FileEntry}
use Rattle.folders.specs.Verdicts.{is_checked, is_good, is_whole, stream_is_good}
use Rattle.folders.specs.declared.report.FileVerdict.{FileVerdict}
use Rattle.folders.specs.declared.report.FileVerdict.TheVariants as file
use Rattle.folders.specs.declared.report.V1Verdict.{V1Verdict}
use Rattle.folders.specs.declared.report.V1Verdict.TheVariants as version1
use Rattle.parts.specs.MarkedLines.{marked_place_rows, marked_rows, verdicts_of}
use Rattle.parts.specs.PartLines.{has_place, held_rows, part_answer_row, part_end_rows}
use Rattle.parts.specs.Parts.{PartReport, place_count}
use Rattle.parts.specs.Runs.{Run, runs_rows}
use Rattle.parts.specs.Telling.{has_runs}
use Rattle.parts.specs.Worse.{worse, worse_v1}
use Rattle.parts.specs.declared.places.Places.{Places}
use Rattle.folders.specs.Printed.{version1_rows}
use Rattle.lines.specs.Rows.{spell}
use Rattle.lines.specs.Texts.{text_of}
use Rattle.part_reports.specs.Marks.{CanMark, CanMarkAll, CanTell, IsInRuns, IsTold, MarksMore}
use Rattle.part_reports.specs.Reported.{CanReport, CanSay, CanSayV1}
use Rattle.lines.specs.Reading.{BeginsWith}
use Rattle.part_reports.specs.declared.marked_report.BadPieces.{BadPieces}
use Rattle.part_reports.specs.declared.kind.Kind.{Kind}
use Rattle.part_reports.specs.declared.marked_report.MarkedReport.{MarkedReport}

-- the number of a bad piece, if the verdict has one, is one of 64 bits
abbrev pub IsSmall : FileVerdict → Type 0
IsSmall (file.Bad p) = p < 2 ^ 64
IsSmall v = ⊤

-- the same of a verdict on the version 1 pieces
abbrev pub IsSmallV1 : V1Verdict → Type 0
IsSmallV1 (version1.Bad p) = p < 2 ^ 64
IsSmallV1 v = ⊤

-- this verdict on a file stands at the front of a text, in its line if the file has one, and this
-- follows
pub record ReadsLine (t : Description) (r : Places) (f : FileEntry) (is_held : Bool)
    (text : List ℕ) (v : FileVerdict) (more : List ℕ) : Type 0 where
  pub can : CanSay t r f v
  pub is : text ≡ spell text_of (held_rows is_held v f) ++ more

-- a text begins so with some verdict
abbrev pub HasLine : Description → Places → FileEntry → Bool → List ℕ → Type 0
HasLine t r f is_held text =
    (v : FileVerdict) × (more : List ℕ) × ReadsLine t r f is_held text v more

-- a part with these places can say this of the version 1 pieces, of which there are this many,
-- beside this worst verdict on its files
abbrev pub SaysEnd : Places → ℕ → FileVerdict → Option V1Verdict → Type 0
SaysEnd r pieces worst v1 = (v : V1Verdict) → v1 ≡ Some v
    → CanSayV1 r pieces v × (is_checked v ≡ is_whole worst)

-- a text is the end of a report of which this is the worst verdict on a file, with this verdict on
-- the version 1 pieces
pub record ReadsEnd (t : Description) (r : Places) (worst : FileVerdict) (text : List ℕ)
    (v1 : Option V1Verdict) : Type 0 where
  pub hybrid : is_some v1 ≡ is_some t.v1
  pub says : SaysEnd r (place_count t - 1) worst v1
  pub is : text ≡ spell text_of (version1_rows v1)
      ++ text_of (part_answer_row (is_good worst && stream_is_good v1))

-- a text is such an end with some verdict
abbrev pub HasEnd : Description → Places → FileVerdict → List ℕ → Type 0
HasEnd t r worst text = (v1 : Option V1Verdict) × ReadsEnd t r worst text v1

-- how what one more part says is joined to verdicts
pub record JoinsMore (p : PartReport) (old new : List FileVerdict) (v w : Option V1Verdict) : Type 0
  where
    pub count : length new ≡ length old
    pub each : (n : ℕ) (a b : FileVerdict) → slice_get old n ≡ Some a → slice_get p.files n ≡ Some b
        → slice_get new n ≡ Some (worse a b)
    pub hybrid : is_some w ≡ is_some v
    pub version1 : (a b : V1Verdict) → v ≡ Some a → p.v1 ≡ Some b → w ≡ Some (worse_v1 a b)

-- ---- the runs of a file

-- no line of a run stands at the front
abbrev pub HasNoRun : List ℕ → Type 0
HasNoRun text = BeginsWith (codes "bad pieces ") text → ⊥

-- the lines of such runs of a file with this verdict stand at the front, and this follows
pub record TellsRuns (t : Description) (r : Places) (f : FileEntry) (v : FileVerdict)
    (text : List ℕ) (runs : List Run) (more : List ℕ) : Type 0 where
  pub can : CanTell t r f v (has_runs v) runs
  pub is : text ≡ spell text_of (runs_rows t f runs) ++ more
  pub ends : HasNoRun more

-- a text begins so
abbrev pub HasRuns : Description → Places → FileEntry → FileVerdict → List ℕ → Type 0
HasRuns t r f v text = (runs : List Run) × (more : List ℕ) × TellsRuns t r f v text runs more

-- such runs were read, and their pieces marked; and no others can be read there
pub record ReadsRuns (t : Description) (r : Places) (f : FileEntry) (v : FileVerdict)
    (text more : List ℕ) (old new : BadPieces) : Type 0 where
  pub runs : List Run
  pub can : CanTell t r f v (has_runs v) runs
  pub is : text ≡ spell text_of (runs_rows t f runs) ++ more
  pub marks : MarksMore (IsInRuns f runs) old new
  pub only : (others : List Run) (rest : List ℕ) → TellsRuns t r f v text others rest
      → (runs ≡ others) × (more ≡ rest)

-- ---- all that is told of a file

-- this is told of a file at the front of a text, as a report of this kind can tell it, and this
-- follows
pub record TellsOfFile (k : Kind) (t : Description) (r : Places) (f : FileEntry) (text : List ℕ)
    (v : FileVerdict) (runs : List Run) (more : List ℕ) : Type 0 where
  pub can : CanSay t r f v
  pub can_mark : CanMark k t r f v runs
  pub is : text ≡ spell text_of (marked_rows t r f v runs) ++ more
  pub ends : HasNoRun more

-- a text begins so
abbrev pub BeginsWithFile : Kind → Description → Places → FileEntry → List ℕ → Type 0
BeginsWithFile k t r f text =
    (v : FileVerdict) × (runs : List Run) × (more : List ℕ) × TellsOfFile k t r f text v runs more

-- it was read, and the pieces of the runs marked; and nothing else can be read there
pub record ReadsFileLine (k : Kind) (t : Description) (r : Places) (f : FileEntry) (text : List ℕ)
    (v : FileVerdict) (more : List ℕ) (old new : BadPieces) : Type 0 where
  pub runs : List Run
  pub can : CanSay t r f v
  pub can_mark : CanMark k t r f v runs
  pub is : text ≡ spell text_of (marked_rows t r f v runs) ++ more
  pub marks : MarksMore (IsInRuns f runs) old new
  pub only : (w : FileVerdict) (others : List Run) (rest : List ℕ)
      → TellsOfFile k t r f text w others rest → (v ≡ w) × (runs ≡ others) × (more ≡ rest)

-- ---- the lines of all files

-- a part of a torrent, and what it reports: of each file the verdict and the runs of bad pieces,
-- and for a hybrid the verdict on the version 1 pieces
pub record MarkedPart : Type 0 where
  pub places : Places
  pub marked : List (FileVerdict × List Run)
  pub v1 : Option V1Verdict

-- the same without the runs
abbrev pub part_of : MarkedPart → PartReport
part_of m = record { places = m.places; files = verdicts_of m.marked; v1 = m.v1 }

-- a report of this kind can say this
pub record CanReportMarked (k : Kind) (t : Description) (m : MarkedPart) : Type 0 where
  pub says : CanReport t m.places (verdicts_of m.marked) m.v1
  pub marks : CanMarkAll k t m.places t.files m.marked

-- what stands behind the first line of such a report
abbrev pub marked_rest : Description → MarkedPart → List ℕ
marked_rest t m =
    spell text_of (marked_place_rows t m.places m.marked t.files
    ++ part_end_rows (verdicts_of m.marked) m.v1)

-- the lines behind the first one of a report of this kind say this
pub record AreLinesOf (k : Kind) (t : Description) (lines : List ℕ) (m : MarkedPart) : Type 0 where
  pub can : CanReportMarked k t m
  pub is : lines ≡ marked_rest t m

-- they say something that a part with these places can report
abbrev pub HasLines : Kind → Description → Places → List ℕ → Type 0
HasLines k t r lines = (m : MarkedPart) × (m.places ≡ r) × AreLinesOf k t lines m

-- these files have no place in a part with these places
abbrev pub AreOff : Description → Places → (ℕ → Type 0) → Type 0
AreOff t r Are = (n : ℕ) (f : FileEntry) → Are n → slice_get t.files n ≡ Some f
    → has_place t r f ≡ false

-- what they say was joined to a report
pub record JoinsLines (k : Kind) (t : Description) (r : Places) (lines : List ℕ)
    (old new : MarkedReport) : Type 0 where
  pub part : MarkedPart
  pub places : part.places ≡ r
  pub says : AreLinesOf k t lines part
  pub joined : JoinsMore (part_of part) old.report.files.items new.report.files.items old.report.v1
      new.report.v1
  pub marks : MarksMore (IsTold t part.marked) old.bad new.bad
