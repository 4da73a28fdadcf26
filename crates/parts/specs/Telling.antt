-- What is told of a file of a check.
use Rattle.std.specs.Prelude.{◌≡◌, ℕ, ◌*◌, ◌≤◌, Bool, true, false, List, [], ◌++◌, slice_get, Option, Some, Result, MatchResult, ⊤}
use Rattle.benc.specs.Device.{Broke, Sent, SinkSeen}
use Rattle.benc.specs.declared.device.DeviceFault.{DeviceFault}
use Rattle.folders.specs.Printed.{wanted_rows}
use Rattle.folders.specs.declared.report_lines.Lines.{Lines}
use Rattle.folders.specs.declared.report.FileVerdict.{FileVerdict}
use Rattle.folders.specs.declared.report.FileVerdict.TheVariants as file
use Rattle.lines.specs.Rows.{Row, Spelling, spell}
use Rattle.opening.specs.Description.{Description, FileEntry}
use Rattle.parts.specs.MarkedLines.{marked_rows}
use Rattle.parts.specs.Parts.{piece_count}
use Rattle.parts.specs.RowBits.{AreBitsOf}
use Rattle.parts.specs.Runs.{AreFirstRunsIn, AreFirstRunsOf, AreRunsIn, AreRunsOf, Run, runs_rows}
use Rattle.parts.specs.Spans.{end_in, first_in}
use Rattle.parts.specs.declared.places.Places.{Places}
use Rattle.parts.specs.declared.telling.Telling.{Telling}
use Rattle.parts.specs.declared.telling.Telling.TheVariants as telling

-- nothing is told
abbrev pub TellsNothing : Telling → Type 0
TellsNothing telling.Nothing = ⊤
TellsNothing (telling.Line lines) = ⊥
TellsNothing (telling.LineAndRuns lines) = ⊥
TellsNothing (telling.RunsIn places) = ⊥

-- what is told of a file does not depend on places
abbrev pub TellsWhole : Telling → Type 0
TellsWhole telling.Nothing = ⊤
TellsWhole (telling.Line lines) = ⊤
TellsWhole (telling.LineAndRuns lines) = ⊤
TellsWhole (telling.RunsIn places) = ⊥

-- ---- room for bits

-- the bad pieces of files are told of
abbrev pub NeedsBits : Telling → Type 0
NeedsBits telling.Nothing = ⊥
NeedsBits (telling.Line lines) = ⊥
NeedsBits (telling.LineAndRuns lines) = ⊤
NeedsBits (telling.RunsIn places) = ⊤

-- no file has more pieces than this
abbrev pub IsMostPieces : Description → ℕ → Type 0
IsMostPieces t most = (n : ℕ) (f : FileEntry) → slice_get t.files n ≡ Some f
    → piece_count t f ≤ most

-- if they are, this many bytes have a bit for each piece of any file
abbrev pub HasBits : Description → Telling → ℕ → Type 0
HasBits t told bytes = NeedsBits told → IsMostPieces t (8 * bytes)

-- ---- the text

-- the bad pieces of a file are printed: it is bad, or has another length
abbrev pub has_runs : FileVerdict → Bool
has_runs file.Good = false
has_runs file.Missing = false
has_runs file.Unreadable = false
has_runs file.WrongLength = true
has_runs (file.Bad p) = true

-- these are the runs of a file that has this content, if they are to be printed, else none
abbrev pub AreToldRuns : (List ℕ → List Run → Type 0) → Bool → Option (List ℕ) → List Run → Type 0
AreToldRuns AreRuns true content runs =
    (bytes : List ℕ) × (content ≡ Some bytes) × AreRuns bytes runs
AreToldRuns AreRuns false content runs = runs ≡ []

-- these are the runs that stand in the report of a part with these places, of a file that has this
-- content and verdict
abbrev pub AreMarkedRuns : Description → Places → FileEntry → Option (List ℕ) → FileVerdict
    → List Run → Type 0
AreMarkedRuns t r f content v runs = AreToldRuns (AreRunsIn t r f) (has_runs v) content runs

-- these are the first ones of those
abbrev pub AreFirstMarkedRuns : Description → Places → FileEntry → Option (List ℕ) → FileVerdict
    → List Run → Type 0
AreFirstMarkedRuns t r f content v runs =
    AreToldRuns (AreFirstRunsIn t r f) (has_runs v) content runs

-- the line of a file, if it is wanted, and those of its runs
abbrev pub line_and_runs : Description → Lines → FileEntry → FileVerdict → List Run → List Row
line_and_runs t lines f v runs = wanted_rows lines v f ++ runs_rows t f runs

-- what is told of a file that has this content, for its verdict, in lines that are spelled so:
-- nothing; its line if that is wanted; that line and those of its runs of bad pieces; or its line
-- if it has one of these places, and those of its runs of bad pieces among them
abbrev pub Tells : Spelling → Description → Telling → FileEntry → Option (List ℕ) → FileVerdict
    → List ℕ → Type 0
Tells spelled t telling.Nothing f content v text = text ≡ []
Tells spelled t (telling.Line lines) f content v text =
    text ≡ spell spelled (wanted_rows lines v f)
Tells spelled t (telling.LineAndRuns lines) f content v text =
    (runs : List Run) × AreToldRuns (AreRunsOf t f) (has_runs v) content runs
    × (text ≡ spell spelled (line_and_runs t lines f v runs))
Tells spelled t (telling.RunsIn r) f content v text =
    (runs : List Run) × AreMarkedRuns t r f content v runs
    × (text ≡ spell spelled (marked_rows t r f v runs))

-- the same up to one of the runs
abbrev pub TellsFirst : Spelling → Description → Telling → FileEntry → Option (List ℕ)
    → FileVerdict → List ℕ → Type 0
TellsFirst spelled t telling.Nothing f content v text = ⊥
TellsFirst spelled t (telling.Line lines) f content v text =
    text ≡ spell spelled (wanted_rows lines v f)
TellsFirst spelled t (telling.LineAndRuns lines) f content v text =
    (runs : List Run) × AreToldRuns (AreFirstRunsOf t f) (has_runs v) content runs
    × (text ≡ spell spelled (line_and_runs t lines f v runs))
TellsFirst spelled t (telling.RunsIn r) f content v text =
    (runs : List Run) × AreFirstMarkedRuns t r f content v runs
    × (text ≡ spell spelled (marked_rows t r f v runs))

-- ---- what was written

-- these bits of some pieces, from one up to another, are those of a content, if it is one whose bad
-- pieces are printed
abbrev pub MarksRow : Description → FileEntry → ℕ → ℕ → Option (List ℕ) → FileVerdict → List ℕ
    → Type 0
MarksRow t f from to content v bits = has_runs v ≡ true
    → (bytes : List ℕ) × (content ≡ Some bytes) × AreBitsOf t f from to bytes bits

-- these bits of all pieces are
abbrev pub Marks : Description → FileEntry → Option (List ℕ) → FileVerdict → List ℕ → Type 0
Marks t f content v bits = MarksRow t f 0 (piece_count t f) content v bits

-- these bits of the pieces among these places are
abbrev pub MarksIn : Description → Places → FileEntry → Option (List ℕ) → FileVerdict → List ℕ
    → Type 0
MarksIn t r f content v bits = MarksRow t f (first_in r f) (end_in t r f) content v bits

-- the bits are those that are told of, if any are
abbrev pub MarksOf : Description → Telling → FileEntry → Option (List ℕ) → FileVerdict → List ℕ
    → Type 0
MarksOf t telling.Nothing f content v bits = ⊤
MarksOf t (telling.Line lines) f content v bits = ⊤
MarksOf t (telling.LineAndRuns lines) f content v bits = Marks t f content v bits
MarksOf t (telling.RunsIn r) f content v bits = MarksIn t r f content v bits

-- a text went out that is told of each content that has these bits
pub record Told (Is : Option (List ℕ) → List ℕ → Type 0) (t : Description) (told : Telling)
    (f : FileEntry) (v : FileVerdict) (bits : List ℕ) (Went : List ℕ → Type 0) : Type 0 where
  pub text : List ℕ
  pub went : Went text
  pub is : (content : Option (List ℕ)) → MarksOf t told f content v bits → Is content text

-- what is told of a file went out, or broke off
abbrev pub TellsFile : Spelling → Description → Telling → FileEntry → FileVerdict → List ℕ
    → SinkSeen → SinkSeen → Result (Unit {0}) DeviceFault → Type 0
TellsFile spelled t told f v bits out out' r = MatchResult r
    (λ _. Told (λ content. Tells spelled t told f content v) t told f v bits (Sent out out'))
    (λ _. Told (λ content. TellsFirst spelled t told f content v) t told f v bits (Broke out out'))
