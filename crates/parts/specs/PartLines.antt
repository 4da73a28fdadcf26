-- The lines of a part's report as rows of the table of lines.
use Rattle.std.specs.Prelude.{ℕ, ◌+◌, max, Bool, true, false, ◌&&◌, nat_le, nat_lt, List, [], ◌∷◌, ◌++◌, codes, Option, if◌then◌else◌}
use Rattle.lines.specs.Rows.{Row, spell}
use Rattle.lines.specs.Table.{part_row, plain_row}
use Rattle.lines.specs.Texts.{text_of}
use Rattle.opening.specs.Description.{Description, FileEntry}
use Rattle.folders.specs.Printed.{version1_rows, verdict_row}
use Rattle.folders.specs.Verdicts.{is_yes}
use Rattle.folders.specs.declared.report.FileVerdict.{FileVerdict}
use Rattle.folders.specs.declared.report.V1Verdict.{V1Verdict}
use Rattle.parts.specs.Parts.{last_place}
use Rattle.parts.specs.Shares.{share}
use Rattle.parts.specs.declared.places.Places.{Places}

-- whether a place of the file is among these
abbrev pub has_place : Description → Places → FileEntry → Bool
has_place t r f =
    nat_le (max r.from f.first_piece) (last_place t f) && nat_lt (max r.from f.first_piece) r.to

-- the first line: the part's number from 1 on, how many parts there are, and the version 2 info
-- hash
abbrev pub head_row : Description → ℕ → ℕ → Row
head_row t part parts = part_row (part + 1) parts t.info_hash_v2

-- the line of a file that has a place in the part
abbrev pub held_rows : Bool → FileVerdict → FileEntry → List Row
held_rows is_held v f = (if is_held then verdict_row v f ∷ [] else [])

-- the lines of the first files that have one of these places, of all of which these are the
-- verdicts
abbrev pub place_rows : Description → Places → List FileVerdict → List FileEntry → List Row
place_rows t r [] fs = []
place_rows t r (v ∷ vs) [] = []
place_rows t r (v ∷ vs) (f ∷ fs) = held_rows (has_place t r f) v f ++ place_rows t r vs fs

-- the last line
abbrev pub part_answer_row : Bool → Row
part_answer_row true = plain_row (codes "part yes") []
part_answer_row false = plain_row (codes "part no") []

-- what follows the lines of the files
abbrev pub part_end_rows : List FileVerdict → Option V1Verdict → List Row
part_end_rows files v1 = version1_rows v1 ++ part_answer_row (is_yes files v1) ∷ []

-- all lines
abbrev pub part_rows : Description → ℕ → ℕ → List FileVerdict → Option V1Verdict → List Row
part_rows t part parts files v1 =
    head_row t part parts
    ∷ (place_rows t (share t part parts) files t.files ++ part_end_rows files v1)

-- those lines as they are printed
abbrev pub part_text : Description → ℕ → ℕ → List FileVerdict → Option V1Verdict → List ℕ
part_text t part parts files v1 = spell text_of (part_rows t part parts files v1)
