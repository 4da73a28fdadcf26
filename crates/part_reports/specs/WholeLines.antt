-- What is printed of a report with its bad pieces.
use Rattle.std.specs.Prelude.{◌≡◌, ◌⊎◌, ℕ, ◌+◌, ◌≤◌, Bool, true, false, List, [], ◌∷◌, ◌++◌, length, slice_get, Some, Result, MatchResult}
use Rattle.benc.specs.Device.{Broke, BrokeOrUnflushed, Sent, SentAndFlushed, SinkSeen}
use Rattle.lines.specs.Rows.{Row, Spelling, spell}
use Rattle.lines.specs.Texts.{text_of}
use Rattle.opening.specs.Description.{Description, FileEntry}
use Rattle.folders.specs.Printed.{end_rows, verdict_row}
use Rattle.folders.specs.declared.report_lines.Lines.TheVariants as lines
use Rattle.folders.specs.declared.report.FileVerdict.{FileVerdict}
use Rattle.parts.specs.MarkedLines.{verdicts_of}
use Rattle.parts.specs.Parts.{piece_count}
use Rattle.parts.specs.Runs.{AreBadRuns, Run, runs_rows}
use Rattle.parts.specs.Telling.{has_runs}
use Rattle.part_reports.specs.Marks.{IsPieceMarked}
use Rattle.part_reports.specs.declared.marked_report.BadPieces.{BadPieces}
use Rattle.part_reports.specs.declared.marked_report.MarkedReport.{MarkedReport}

-- ---- the lines

-- the line of a file, with those of its runs of bad pieces behind it
abbrev pub file_and_runs : Description → FileEntry → FileVerdict → List Run → List Row
file_and_runs t f v runs = verdict_row v f ∷ runs_rows t f runs

-- those of the first files
abbrev pub whole_lines_rows : Description → List (FileVerdict × List Run) → List FileEntry
    → List Row
whole_lines_rows t [] fs = []
whole_lines_rows t (x ∷ xs) [] = []
whole_lines_rows t (x ∷ xs) (f ∷ fs) = file_and_runs t f x.0 x.1 ++ whole_lines_rows t xs fs

-- ---- the runs

-- a piece of a file, by its number within the file, is not marked as bad
abbrev pub IsNotBad : BadPieces → FileEntry → ℕ → Type 0
IsNotBad bad f k = IsPieceMarked bad (f.first_piece + k) → ⊥

-- these are the maximal runs of marked pieces of a file that begin before one of its pieces
abbrev pub AreRunsOfMarks : Description → BadPieces → FileEntry → ℕ → List Run → Type 0
AreRunsOfMarks t bad f to runs = AreBadRuns (piece_count t f) to (IsNotBad bad f) runs

-- these are all of them, if the bad pieces of the file are printed, else none
abbrev pub AreShown : Description → BadPieces → FileEntry → Bool → List Run → Type 0
AreShown t bad f true runs = AreRunsOfMarks t bad f (piece_count t f) runs
AreShown t bad f false runs = runs ≡ []

-- these are the first of them
abbrev pub AreFirstShown : Description → BadPieces → FileEntry → Bool → List Run → Type 0
AreFirstShown t bad f true runs =
    (to : ℕ) × (to ≤ piece_count t f) × AreRunsOfMarks t bad f to runs
AreFirstShown t bad f false runs = runs ≡ []

-- ---- what went out

-- of the first files this is printed: the verdicts of a report, and the runs of its bad pieces
pub record ShowsFirst (t : Description) (joined : MarkedReport)
    (marked : List (FileVerdict × List Run)) : Type 0 where
  pub verdicts : (n : ℕ) (x : FileVerdict × List Run) → slice_get marked n ≡ Some x
      → slice_get joined.report.files.items n ≡ Some x.0
  pub runs : (n : ℕ) (f : FileEntry) (x : FileVerdict × List Run) → slice_get t.files n ≡ Some f
      → slice_get marked n ≡ Some x → AreShown t joined.bad f (has_runs x.0) x.1

-- of all files
pub record ShowsAll (t : Description) (joined : MarkedReport)
    (marked : List (FileVerdict × List Run)) : Type 0 where
  pub verdicts : verdicts_of marked ≡ joined.report.files.items
  pub runs : (n : ℕ) (f : FileEntry) (x : FileVerdict × List Run) → slice_get t.files n ≡ Some f
      → slice_get marked n ≡ Some x → AreShown t joined.bad f (has_runs x.0) x.1

-- the lines of a file with this verdict went out, or broke off
abbrev pub SaysFile : {E : Type 0} → Spelling → Description → BadPieces → FileEntry → FileVerdict
    → SinkSeen → SinkSeen → Result (Unit {0}) E → Type 0
SaysFile spelled t bad f v old new r = MatchResult r
    (λ _. (runs : List Run) × AreShown t bad f (has_runs v) runs
    × Sent old new (spell spelled (file_and_runs t f v runs)))
    (λ _. (runs : List Run) × AreFirstShown t bad f (has_runs v) runs
    × Broke old new (spell spelled (file_and_runs t f v runs)))

-- after all lines of the first files those of the next one broke off
pub record StopsAtFile (spelled : Spelling) (t : Description) (joined : MarkedReport)
    (old new : SinkSeen) : Type 0 where
  pub before : List (FileVerdict × List Run)
  pub shows : ShowsFirst t joined before
  pub file : FileEntry
  pub file_is : slice_get t.files (length before) ≡ Some file
  pub verdict : FileVerdict
  pub verdict_is : slice_get joined.report.files.items (length before) ≡ Some verdict
  pub runs : List Run
  pub first : AreFirstShown t joined.bad file (has_runs verdict) runs
  pub broke : Broke old new
      (spell spelled (whole_lines_rows t before t.files ++ file_and_runs t file verdict runs))

-- the lines of all files went out, or broke off
abbrev pub SaysFiles : {E : Type 0} → Spelling → Description → MarkedReport → SinkSeen → SinkSeen
    → Result (Unit {0}) E → Type 0
SaysFiles spelled t joined old new r = MatchResult r
    (λ _. (marked : List (FileVerdict × List Run)) × ShowsAll t joined marked
    × Sent old new (spell spelled (whole_lines_rows t marked t.files)))
    (λ _. StopsAtFile spelled t joined old new)

-- all lines
abbrev pub whole_rows : Description → List (FileVerdict × List Run) → MarkedReport → List Row
whole_rows t marked joined = whole_lines_rows t marked t.files
    ++ end_rows lines.All joined.report.files.items joined.report.v1

-- all lines as they are printed
abbrev pub whole_text : Description → List (FileVerdict × List Run) → MarkedReport → List ℕ
whole_text t marked joined = spell text_of (whole_rows t marked joined)

-- all went out, and was flushed
abbrev pub SaysWholeReport : Spelling → Description → MarkedReport → SinkSeen → SinkSeen → Type 0
SaysWholeReport spelled t joined old new = (marked : List (FileVerdict × List Run))
    × ShowsAll t joined marked × SentAndFlushed old new (spell spelled (whole_rows t marked joined))

-- it broke off in the lines of a file, or behind them
abbrev pub StopsSaying : Spelling → Description → MarkedReport → SinkSeen → SinkSeen → Type 0
StopsSaying spelled t joined old new = StopsAtFile spelled t joined old new
    ⊎ ((marked : List (FileVerdict × List Run)) × ShowsAll t joined marked
    × BrokeOrUnflushed old new (spell spelled (whole_rows t marked joined)))

-- What a call that says a report with its bad pieces did, by its answer: of each file its line, and
-- behind that of one that is bad or has another length the lines of the maximal runs of its bad
-- pieces; and then the end. Or this broke off.
abbrev pub SaysMarkedReport : {E : Type 0} → Spelling → Description → MarkedReport → SinkSeen
    → SinkSeen
    → Result (Unit {0}) E → Type 0
SaysMarkedReport spelled t joined old new r =
    MatchResult r (λ _. SaysWholeReport spelled t joined old new)
    (λ _. StopsSaying spelled t joined old new)
