-- The runs of bad pieces that a report tells of a file.
use Rattle.std.specs.Prelude.{◌≡◌, ◌⊎◌, ◌↔◌, ℕ, ◌+◌, ◌*◌, ◌<◌, ◌≤◌, Bool, true, false, List, [], ◌∷◌, length, slice_get, Some, ⊤}
use Rattle.hashtree.specs.Bits.{bit_of}
use Rattle.opening.specs.Description.{Description, FileEntry}
use Rattle.folders.specs.declared.report.FileVerdict.{FileVerdict}
use Rattle.folders.specs.declared.report.FileVerdict.TheVariants as file
use Rattle.parts.specs.Runs.{IsInOne, Run}
use Rattle.parts.specs.Spans.{end_in, first_in}
use Rattle.parts.specs.Telling.{has_runs}
use Rattle.parts.specs.declared.places.Places.{Places}
use Rattle.part_reports.specs.declared.marked_report.BadPieces.{BadPieces}
use Rattle.part_reports.specs.declared.kind.Kind.{Kind}
use Rattle.part_reports.specs.declared.kind.Kind.TheVariants as kind

-- ---- runs

-- these runs of pieces come one after the other, from one piece on and before another, and between
-- two of them lies a piece that is in none
abbrev pub AreRunsWithin : ℕ → ℕ → List Run → Type 0
AreRunsWithin from to [] = ⊤
AreRunsWithin from to (r ∷ rs) =
    (from ≤ r.first) × (r.first ≤ r.last) × (r.last < to) × AreRunsWithin (r.last + 2) to rs

-- if the verdict names a bad piece, the first run begins with it
abbrev pub BeginsAtBad : FileEntry → FileVerdict → List Run → Type 0
BeginsAtBad f (file.Bad p) runs =
    (r : Run) × (slice_get runs 0 ≡ Some r) × (f.first_piece + r.first ≡ p)
BeginsAtBad f v runs = ⊤

-- such runs can be told of the pieces of a file among these places: none, if the bad pieces of a
-- file with this verdict are not printed
abbrev pub CanTell : Description → Places → FileEntry → FileVerdict → Bool → List Run → Type 0
CanTell t r f v true runs = AreRunsWithin (first_in r f) (end_in t r f) runs × BeginsAtBad f v runs
CanTell t r f v false runs = runs ≡ []

-- they can be told by a report of this kind
abbrev pub CanMark : Kind → Description → Places → FileEntry → FileVerdict → List Run → Type 0
CanMark kind.Plain t r f v runs = runs ≡ []
CanMark kind.Marked t r f v runs = CanTell t r f v (has_runs v) runs

-- these can be told of the first of these files
abbrev pub CanMarkAll : Kind → Description → Places → List FileEntry → List (FileVerdict × List Run)
    → Type 0
CanMarkAll k t r fs marked = (n : ℕ) (f : FileEntry) (x : FileVerdict × List Run)
    → slice_get fs n ≡ Some f → slice_get marked n ≡ Some x → CanMark k t r f x.0 x.1

-- ---- the pieces in runs

-- the piece with this number in the torrent is in one of these runs of a file
abbrev pub IsInRuns : FileEntry → List Run → ℕ → Type 0
IsInRuns f runs piece = (k : ℕ) × (piece ≡ f.first_piece + k) × IsInOne runs k

-- it is in a run of one of the files, of which this is told
pub record IsTold (t : Description) (marked : List (FileVerdict × List Run)) (piece : ℕ) : Type 0
  where
    pub number : ℕ
    pub file : FileEntry
    pub told : FileVerdict × List Run
    pub there : slice_get t.files number ≡ Some file
    pub at : slice_get marked number ≡ Some told
    pub within : IsInRuns file told.1 piece

-- the piece is marked as bad: its bit is not set
abbrev pub IsPieceMarked : BadPieces → ℕ → Type 0
IsPieceMarked bad piece =
    (piece < 8 * length bad.bits.items) × (bit_of bad.bits.items piece ≡ 0)

-- besides the pieces that were marked before exactly these are
pub record MarksMore (Are : ℕ → Type 0) (old new : BadPieces) : Type 0 where
  pub count : length new.bits.items ≡ length old.bits.items
  pub each : (piece : ℕ) → IsPieceMarked new piece ↔ (IsPieceMarked old piece ⊎ Are piece)

-- there is a mark for each of this many pieces, if the reports tell of bad ones
abbrev pub HasMarkRoom : Kind → ℕ → BadPieces → Type 0
HasMarkRoom kind.Plain pieces bad = ⊤
HasMarkRoom kind.Marked pieces bad = pieces ≤ 8 * length bad.bits.items
