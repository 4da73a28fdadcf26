-- The lines of a part's report with the runs of bad pieces: a marked report.
use Rattle.std.specs.Prelude.{ℕ, ◌+◌, List, [], ◌∷◌, ◌++◌, map, Option}
use Rattle.lines.specs.Rows.{Row, spell}
use Rattle.lines.specs.Table.{bad_part_row}
use Rattle.lines.specs.Texts.{text_of}
use Rattle.opening.specs.Description.{Description, FileEntry}
use Rattle.folders.specs.declared.report.FileVerdict.{FileVerdict}
use Rattle.folders.specs.declared.report.V1Verdict.{V1Verdict}
use Rattle.parts.specs.PartLines.{has_place, held_rows, part_end_rows}
use Rattle.parts.specs.Runs.{Run, runs_rows}
use Rattle.parts.specs.Shares.{share}
use Rattle.parts.specs.declared.places.Places.{Places}

-- the first line: that of a report without runs, and one word more
abbrev pub marked_head_row : Description → ℕ → ℕ → Row
marked_head_row t part parts = bad_part_row (part + 1) parts t.info_hash_v2

-- the lines of a file with this verdict: its own, if it has one of these places, and then those of
-- its runs
abbrev pub marked_rows : Description → Places → FileEntry → FileVerdict → List Run → List Row
marked_rows t r f v runs = held_rows (has_place t r f) v f ++ runs_rows t f runs

-- those of the first files, of all of which these are the verdicts and the runs
abbrev pub marked_place_rows : Description → Places → List (FileVerdict × List Run)
    → List FileEntry → List Row
marked_place_rows t r [] fs = []
marked_place_rows t r (x ∷ xs) [] = []
marked_place_rows t r (x ∷ xs) (f ∷ fs) =
    marked_rows t r f x.0 x.1 ++ marked_place_rows t r xs fs

-- the verdicts alone
abbrev pub verdicts_of : List (FileVerdict × List Run) → List FileVerdict
verdicts_of marked = map (λ x. x.0) marked

-- all lines
abbrev pub marked_part_rows : Description → ℕ → ℕ → List (FileVerdict × List Run)
    → Option V1Verdict → List Row
marked_part_rows t part parts marked v1 =
    marked_head_row t part parts
    ∷ (marked_place_rows t (share t part parts) marked t.files
    ++ part_end_rows (verdicts_of marked) v1)

-- those lines as they are printed
abbrev pub marked_text : Description → ℕ → ℕ → List (FileVerdict × List Run) → Option V1Verdict
    → List ℕ
marked_text t part parts marked v1 = spell text_of (marked_part_rows t part parts marked v1)
