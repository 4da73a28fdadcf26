-- The lines of runs of bad pieces at the front of a text.
use Rattle.std.specs.Prelude.{◌≡◌, ℕ, ◌+◌, ◌<◌, ◌≤◌, ◌^◌, List, [], ◌∷◌, ◌++◌, Option, Some, None, codes, decimal}
use Rattle.opening.specs.Description.{Description, FileEntry}
use Rattle.parts.specs.Runs.{Run, run_row, runs_rows}
use Rattle.parts.specs.Spans.{end_in, first_in}
use Rattle.parts.specs.declared.places.Places.{Places}
use Rattle.lines.specs.Rows.{spell}
use Rattle.lines.specs.Texts.{text_of}
use Rattle.part_reports.specs.Lines.{HasNoRun}
use Rattle.part_reports.specs.Marks.{AreRunsWithin, IsInRuns, MarksMore}
use Rattle.lines.specs.Reading.{BeginsWith}
use Rattle.part_reports.specs.declared.marked_report.BadPieces.{BadPieces}

-- a text begins with the words of the line of a run, and two numbers of 64 bits
pub record HasNumbers (n m : ℕ) (text : List ℕ) : Type 0 where
  pub small : n < 2 ^ 64
  pub short : m < 2 ^ 64
  pub more : List ℕ
  pub is : text ≡ codes "bad pieces " ++ (decimal n ++ 32 ∷ (decimal m ++ 32 ∷ more))

-- the pieces of a run lie from one piece on and before another
pub record IsRunWithin (at to : ℕ) (r : Run) : Type 0 where
  pub low : at ≤ r.first
  pub order : r.first ≤ r.last
  pub inside : r.last < to

-- the line of such a run of a file stands at the front
abbrev pub HasOneRun : Description → FileEntry → ℕ → ℕ → List ℕ → Type 0
HasOneRun t f at to text = (r : Run) × IsRunWithin at to r
    × BeginsWith (text_of (run_row t f r)) text

-- the first of the pieces in runs of a file, by its number in the torrent
abbrev pub first_bad : FileEntry → List Run → Option ℕ
first_bad f [] = None
first_bad f (r ∷ runs) = Some (f.first_piece + r.first)

-- runs of pieces among these places were read, of which this is the first one, and their pieces
-- marked; and no others can be read there
pub record ReadsAll (t : Description) (r : Places) (f : FileEntry) (text : List ℕ)
    (first : Option ℕ) (more : List ℕ) (old new : BadPieces) : Type 0 where
  pub runs : List Run
  pub are : AreRunsWithin (first_in r f) (end_in t r f) runs
  pub is : text ≡ spell text_of (runs_rows t f runs) ++ more
  pub first_is : first ≡ first_bad f runs
  pub marks : MarksMore (IsInRuns f runs) old new
  pub only : (others : List Run) (rest : List ℕ)
      → AreRunsWithin (first_in r f) (end_in t r f) others
      → text ≡ spell text_of (runs_rows t f others) ++ rest → HasNoRun rest → (runs ≡ others)
      × (more ≡ rest)
