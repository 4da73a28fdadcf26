-- The pass over the files of a torrent that checks them, where no more than lines are told of them.
-- Public clauses do not name these.
use Rattle.std.specs.Prelude.{◌≡◌, ◌≢◌, ◌⊎◌, ◌↔◌, ℕ, ◌+◌, ◌*◌, ◌<◌, ◌≤◌, ⊤, false, true, List, [], ◌∷◌, ◌++◌, length, Some, Result, OnErr}
use Rattle.benc.specs.Device.{SinkSeen, SourceSeen}
use Rattle.benc.specs.declared.device.DeviceFault.{DeviceFault}
use Rattle.folders.specs.TakeAll.{IsReadWithin}
use Rattle.folders.specs.Verdicts.{is_whole}
use Rattle.folders.specs.declared.report.FileVerdict.{FileVerdict}
use Rattle.folders.specs.declared.report.FileVerdict.TheVariants as file
use Rattle.folders.specs.declared.report.V1Verdict.{V1Verdict}
use Rattle.folders.specs.declared.report.V1Verdict.TheVariants as version1
use Rattle.lines.specs.Rows.{Spelling}
use Rattle.opening.specs.Description.{Description, FileEntry, Version1}
use Rattle.parts.specs.Finding.{FindsWhole}
use Rattle.parts.specs.Parts.{IsVersion1Good, piece_count}
use Rattle.parts.specs.Saying.{IsNotWhole}
use Rattle.parts.specs.Telling.{TellsFile, TellsNothing}
use Rattle.parts.specs.Worse.{worse_v1}
use Rattle.parts.specs.declared.telling.Telling.{Telling}
use Rattle.parts.specs.declared.verdicts.Verdicts.{Verdicts}
use Rattle.passes.specs.Held.{Answer, Cutting, content, failed, missing, unasked}
use Rattle.passes.specs.Passing.{Task}
use Rattle.passes.specs.declared.cuts_wanted.CutsWanted.TheVariants as cuts

-- the verdicts on the first files, how many there is room for, the verdict on the version 1 pieces,
-- and what the lines go to
pub record CheckState : Type 0 where
  pub files : List FileVerdict
  pub room : ℕ
  pub v1 : V1Verdict
  pub out : SinkSeen

-- ---- one file

-- an opened file with these bytes was read to one byte past its stated length at most, and exactly
-- as far as that if it is as long
pub record IsReadToCheck (size : ℕ) (bytes : List ℕ) (old new : SourceSeen) : Type 0 where
  pub within : IsReadWithin (size + 1) old new
  pub taken : (length bytes ≡ size) ↔ (new.limit + size ≡ old.limit)

-- these verdicts are true of a file with these bytes, as many as are stated
pub record IsJudgedContent (t : Description) (f : FileEntry) (bytes : List ℕ)
    (v : Verdicts) : Type 0 where
  pub long : length bytes ≡ f.length
  pub finds : FindsWhole t f (Some (Some bytes)) [] v
  pub whole : is_whole v.file ≡ true

-- a file with these bytes is good
abbrev pub IsJudgedGood : Description → FileEntry → List ℕ → Type 0
IsJudgedGood t f bytes =
    IsJudgedContent t f bytes (record { file = file.Good; v1 = version1.Good })

-- these are the verdicts on a file with these bytes
abbrev pub JudgesContent : Description → FileEntry → List ℕ → Verdicts → Type 0
JudgesContent t f bytes v =
    IsJudgedContent t f bytes v ⊎ ((length bytes ≢ f.length) × IsNotWhole file.WrongLength v)

-- these are the verdicts on a file of which this came
abbrev pub JudgesAnswer : Description → FileEntry → Answer → Verdicts → Type 0
JudgesAnswer t f unasked v = ⊤
JudgesAnswer t f missing v = IsNotWhole file.Missing v
JudgesAnswer t f failed v = IsNotWhole file.Unreadable v
JudgesAnswer t f (content bytes) v = JudgesContent t f bytes v

-- none of a file's version 1 pieces, if the torrent has any, is cut short by the stream's end
abbrev pub AreCutsWhole : Description → FileEntry → Type 0
AreCutsWhole t f = (v : Version1) → t.v1 ≡ Some v
    → t.piece_length * (f.first_piece + piece_count t f) ≤ v.total

-- the version 1 pieces of a file with these bytes are good, if the torrent has any
abbrev pub AreCutsGood : Description → FileEntry → List ℕ → Type 0
AreCutsGood t f bytes = (v : Version1) → t.v1 ≡ Some v → (k : ℕ) → k < piece_count t f
    → IsVersion1Good t v f bytes k

-- ---- the pass

-- files are held for the version 1 pieces of this torrent, if it has any
pub record IsCutFor (t : Description) (c : Cutting) : Type 0 where
  pub piece_length : c.piece_length ≡ t.piece_length
  pub wanted : (v : Version1) → t.v1 ≡ Some v → c.wanted ≢ cuts.Nothing

-- the files before this one have their verdicts, and there is room for those on all
pub record IsReadyAt (t : Description) (n : ℕ) (k : CheckState) : Type 0 where
  pub count : length k.files ≡ n
  pub room : length t.files ≤ k.room

module _ (spelled : Spelling) (t : Description) (telling : Telling) where
  -- what was found of a file became part of the verdicts, and was told of
  pub record TakesVerdicts (k : CheckState) (f : FileEntry) (v : Verdicts)
      (result : Result (Unit {0}) DeviceFault) (k' : CheckState) : Type 0 where
    pub files_are : k'.files ≡ k.files ++ v.file ∷ []
    pub v1_is : k'.v1 ≡ worse_v1 k.v1 v.v1
    pub tells : TellsFile spelled t telling f v.file [] k.out k'.out result
    pub some : OnErr result (TellsNothing telling → ⊥)

  -- the same by what came of looking at its path
  pub record TakesAnswer (k : CheckState) (f : FileEntry) (a : Answer)
      (result : Result (Unit {0}) DeviceFault) (k' : CheckState) : Type 0 where
    pub verdicts : Verdicts
    pub finds : JudgesAnswer t f a verdicts
    pub takes : TakesVerdicts k f verdicts result k'

  -- each file is opened, and may wait until its line is said
  abbrev pub check_task : Task FileEntry CheckState Verdicts DeviceFault
  check_task = record {
    items = t.files;
    wants = λ f. Some (record { path = f.path; most = f.length });
    reads = λ f. IsReadToCheck f.length;
    waits = λ f. ⊤;
    holds = IsCutFor t;
    is_hasty = false;
    finds = JudgesAnswer t;
    is_ready = IsReadyAt t;
    takes = TakesAnswer;
  }
