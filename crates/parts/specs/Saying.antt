-- The verdicts on a file, from what was found of its pieces.
use Rattle.std.specs.Prelude.{◌≡◌, ℕ, ◌+◌, ◌^◌, ◌<◌, Bool, true, false, ◌&&◌, IfOk, IfSome, Option, Some, None, Result, Ok, Err, ⊤}
use Rattle.benc.specs.declared.device.DeviceFault.{DeviceFault}
use Rattle.folders.specs.declared.report.FileVerdict.{FileVerdict}
use Rattle.folders.specs.declared.report.FileVerdict.TheVariants as file
use Rattle.folders.specs.declared.report.V1Verdict.{V1Verdict}
use Rattle.folders.specs.declared.report.V1Verdict.TheVariants as version1
use Rattle.parts.specs.declared.row.Found.{Found}
use Rattle.parts.specs.declared.verdicts.Verdicts.{Verdicts}

-- a piece's number in the torrent is below 2 ^ 64, if there is one
abbrev pub IsSmallFrom : ℕ → Option ℕ → Type 0
IsSmallFrom first None = ⊤
IsSmallFrom first (Some number) = first + number < 2 ^ 64

-- and so are those of the pieces that were found
abbrev pub HasSmallPieces : ℕ → Result (Option Found) DeviceFault → Type 0
HasSmallPieces first answer = IfOk answer (λ row. IfSome row (λ found.
    IsSmallFrom first found.bad × IsSmallFrom first found.bad_cut))

-- the verdict on a file that begins at this piece, of the first of its pieces that is bad; one
-- whose root is the tree's is good
abbrev pub file_says : ℕ → Bool → Option ℕ → FileVerdict
file_says first true bad = file.Good
file_says first false None = file.Good
file_says first false (Some number) = file.Bad (first + number)

abbrev pub v1_says : ℕ → Option ℕ → V1Verdict
v1_says first None = version1.Good
v1_says first (Some number) = version1.Bad (first + number)

-- the verdict on a file of which this was found: a whole one is judged by its root, too
abbrev pub row_says : Bool → ℕ → Found → FileVerdict
row_says by_root first found = file_says first (by_root && found.root_is) found.bad

-- the file is said to be this, and its version 1 pieces were not checked
abbrev pub IsNotWhole : FileVerdict → Verdicts → Type 0
IsNotWhole w v = (v.file ≡ w) × (v.v1 ≡ version1.NotChecked)

-- these are the verdicts on a file of which this was read
abbrev pub SaysRead : Bool → ℕ → Result (Option Found) DeviceFault → Verdicts → Type 0
SaysRead by_root first (Ok (Some found)) v =
    (v.file ≡ row_says by_root first found) × (v.v1 ≡ v1_says first found.bad_cut)
SaysRead by_root first (Ok None) v = IsNotWhole file.WrongLength v
SaysRead by_root first (Err e) v = IsNotWhole file.Unreadable v

-- these are the verdicts on a file that was visited so
abbrev pub SaysVisit : Bool → ℕ → Result (Option (Result (Option Found) DeviceFault)) DeviceFault
    → Verdicts → Type 0
SaysVisit by_root first (Ok (Some answer)) v = SaysRead by_root first answer v
SaysVisit by_root first (Ok None) v = IsNotWhole file.Missing v
SaysVisit by_root first (Err fault) v = IsNotWhole file.Unreadable v
