-- The lines of a report as rows of the table of lines.
use Rattle.std.specs.Prelude.{ℕ, Bool, true, false, not, List, [], ◌∷◌, ◌++◌, codes, Option, Some, None, if◌then◌else◌}
use Rattle.lines.specs.Rows.{Row, spell}
use Rattle.lines.specs.Table.{bad_row, path_row, plain_row, v1_bad_row}
use Rattle.lines.specs.Texts.{text_of}
use Rattle.opening.specs.Description.{FileEntry}
use Rattle.folders.specs.Verdicts.{is_good, is_yes, stream_is_good}
use Rattle.folders.specs.declared.report_lines.Lines.{Lines}
use Rattle.folders.specs.declared.report_lines.Lines.TheVariants as lines
use Rattle.folders.specs.declared.report.FileVerdict.{FileVerdict}
use Rattle.folders.specs.declared.report.FileVerdict.TheVariants as file
use Rattle.folders.specs.declared.report.V1Verdict.{V1Verdict}
use Rattle.folders.specs.declared.report.V1Verdict.TheVariants as version1

-- the line of a file: its verdict and its path
abbrev pub verdict_row : FileVerdict → FileEntry → Row
verdict_row file.Good f = path_row (codes "good") f.path
verdict_row file.Missing f = path_row (codes "missing") f.path
verdict_row file.Unreadable f = path_row (codes "unreadable") f.path
verdict_row file.WrongLength f = path_row (codes "wrong length") f.path
verdict_row (file.Bad p) f = bad_row p f.path

-- the line of the version 1 pieces
abbrev pub version1_row : V1Verdict → Row
version1_row version1.Good = plain_row (codes "v1 good") []
version1_row (version1.Bad i) = v1_bad_row i
version1_row version1.NotChecked = plain_row (codes "v1 not checked") []

-- the last line
abbrev pub answer_row : Bool → Row
answer_row true = plain_row (codes "yes") []
answer_row false = plain_row (codes "no") []

-- the line of what is good, or is not, is among these
abbrev pub is_wanted : Lines → Bool → Bool
is_wanted lines.All good = true
is_wanted lines.NotGood good = not good

-- the line of a file, if it is wanted
abbrev pub wanted_rows : Lines → FileVerdict → FileEntry → List Row
wanted_rows which v f = (if is_wanted which (is_good v) then verdict_row v f ∷ [] else [])

-- the lines of the first files, of which these are the verdicts
abbrev pub verdicts_rows : Lines → List FileVerdict → List FileEntry → List Row
verdicts_rows which [] fs = []
verdicts_rows which (v ∷ vs) [] = []
verdicts_rows which (v ∷ vs) (f ∷ fs) = wanted_rows which v f ++ verdicts_rows which vs fs

-- the line on the version 1 pieces, for a hybrid alone
abbrev pub version1_rows : Option V1Verdict → List Row
version1_rows None = []
version1_rows (Some v) = version1_row v ∷ []

-- the same, if it is wanted
abbrev pub stream_rows : Lines → Option V1Verdict → List Row
stream_rows which v1 = (if is_wanted which (stream_is_good v1) then version1_rows v1 else [])

-- what follows the lines of the files
abbrev pub end_rows : Lines → List FileVerdict → Option V1Verdict → List Row
end_rows which files v1 = stream_rows which v1 ++ answer_row (is_yes files v1) ∷ []

-- all lines that are wanted
abbrev pub report_rows : Lines → List FileEntry → List FileVerdict → Option V1Verdict → List Row
report_rows which entries files v1 = verdicts_rows which files entries ++ end_rows which files v1

-- those lines as they are printed
abbrev pub report_text : Lines → List FileEntry → List FileVerdict → Option V1Verdict → List ℕ
report_text which entries files v1 = spell text_of (report_rows which entries files v1)
