-- What a check of a folder does, file by file: each is visited once and in order, and what is told
-- of them goes out in the same order. `shelf` stands for what the shelf's type says of its shelves,
-- and `seen` for what its files say.
use Rattle.std.specs.Prelude.{◌≡◌, ◌⊎◌, ◌<◌, List, ◌∷◌, ◌++◌, length, slice_get, Option, Some, Result, Ok, Err}
use Rattle.benc.specs.Device.{Broke, Sent, SinkSeen, SourceSeen}
use Rattle.benc.specs.declared.device.DeviceFault.{DeviceFault}
use Rattle.folders.specs.Printed.{end_rows, verdicts_rows, wanted_rows}
use Rattle.folders.specs.Stopping.{VisitsFirst}
use Rattle.folders.specs.Verdicts.{IsTrueOfFolder}
use Rattle.folders.specs.declared.report_lines.Lines.{Lines}
use Rattle.folders.specs.declared.report.FileVerdict.{FileVerdict}
use Rattle.folders.specs.declared.report.Report.{Report}
use Rattle.folders.specs.declared.report.V1Verdict.{V1Verdict}
use Rattle.folders.specs.declared.shelf.Shelf.{Ghosts}
use Rattle.opening.specs.Description.{Description, FileEntry}
use Rattle.parts.specs.Endings.{Course, EndsAs, EndsWell}
use Rattle.parts.specs.Visiting.{StopsAtFile, VisitsAll, whole_visiting}
use Rattle.lines.specs.Rows.{Spelling, spell}
use Rattle.lines.specs.declared.out_fault.OutFault.{OutFault as CheckFault}
use Rattle.lines.specs.declared.out_fault.OutFault.TheVariants as stopped
use Rattle.parts.specs.declared.telling.Telling.{Telling}
use Rattle.parts.specs.declared.telling.Telling.TheVariants as telling

-- a shelf and a sink
abbrev pub shelf_and_sink : {S : Type 0} → S → SinkSeen → S × SinkSeen
shelf_and_sink s out = (s, out)

module _ {S F : Type 0} (shelf : Ghosts S F) (seen : F → SourceSeen) where
  -- all files were checked and told of, in the torrent's order, for these verdicts, which are true
  -- of what stands at the files' paths; and what was told is true of the same
  pub record ChecksAll (spelled : Spelling) (t : Description) (telling : Telling)
      (verdicts : List FileVerdict) (v1 : Option V1Verdict) (old new : S × SinkSeen) : Type 0
    where
      pub visits : VisitsAll (whole_visiting shelf seen t) spelled t telling verdicts v1 old new
      pub are_true : IsTrueOfFolder t (shelf.contents old.0).under verdicts v1
      pub same : are_true.contents ≡ visits.contents

  -- The wanted lines of the first files went out, and that of the next one broke off. Small files
  -- that are judged together were visited before the first of their lines went out: so at most 63
  -- behind that one were visited too. All were visited once and in order, for verdicts that are
  -- true of what stands at their paths; no later file was opened.
  pub record StopsAhead (spelled : Spelling) (t : Description) (lines : Lines)
      (old new : S × SinkSeen) : Type 0 where
    pub told : List FileVerdict
    pub verdict : FileVerdict
    pub ahead : List FileVerdict
    pub few : length ahead < 64
    pub visits : VisitsFirst shelf seen t old.0 (told ++ verdict ∷ ahead) new.0
    pub mid : SinkSeen
    pub sent : Sent old.1 mid (spell spelled (verdicts_rows lines told t.files))
    pub file : FileEntry
    pub file_is : slice_get t.files (length told) ≡ Some file
    pub broke : Broke mid new.1 (spell spelled (wanted_rows lines verdict file))

  -- so it stopped, if lines are all that is told
  abbrev pub StopsInBatch : Spelling → Description → Telling → S × SinkSeen → S × SinkSeen → Type 0
  StopsInBatch spelled t telling.Nothing old new = ⊥
  StopsInBatch spelled t (telling.Line lines) old new = StopsAhead spelled t lines old new
  StopsInBatch spelled t (telling.LineAndRuns lines) old new = ⊥
  StopsInBatch spelled t (telling.RunsIn places) old new = ⊥

  -- what is told of the files broke off
  abbrev pub StopsInFiles : Spelling → Description → Telling → S × SinkSeen → S × SinkSeen → Type 0
  StopsInFiles spelled t telling old new =
      StopsAtFile (whole_visiting shelf seen t) spelled t telling old new
      ⊎ StopsInBatch spelled t telling old new

  -- all files were visited and told of, or what is told of them broke off
  abbrev pub EndsWhole : Spelling → Description → Telling → S × SinkSeen → S × SinkSeen
      → Result Report DeviceFault → Type 0
  EndsWhole spelled t telling old new (Ok report) =
      VisitsAll (whole_visiting shelf seen t) spelled t telling report.files.items report.v1 old new
  EndsWhole spelled t telling old new (Err fault) = StopsInFiles spelled t telling old new

  -- what was done for all files, by the answer
  abbrev pub EndsFiles : Spelling → Description → Telling → S × SinkSeen → S × SinkSeen
      → Result Report CheckFault → Type 0
  EndsFiles spelled t telling old new (Ok report) =
      ChecksAll spelled t telling report.files.items report.v1 old new
  EndsFiles spelled t telling old new (Err stopped.Write) = StopsInFiles spelled t telling old new
  EndsFiles spelled t telling old new (Err stopped.NoMemory) = (new.0 ≡ old.0) × (new.1 ≡ old.1)

  module _ (spelled : Spelling) (t : Description) (telling : Telling) (lines : Lines) where
    abbrev pub whole_course : Course S
    whole_course = record {
      all = ChecksAll spelled t telling;
      stops = StopsInFiles spelled t telling;
      end = end_rows lines;
    }

    -- all files were checked and told of, and then the end of the report went out, with one flush
    abbrev pub ChecksWhole : List FileVerdict → Option V1Verdict → S × SinkSeen → S × SinkSeen
        → Type 0
    ChecksWhole = EndsWell spelled whole_course

    -- the sink failed at a file, or behind the last one
    abbrev pub StopsTelling : S × SinkSeen → S × SinkSeen → Type 0
    StopsTelling old new = EndsAs spelled whole_course old new (Err stopped.Write)

    -- what a check did whose lines are spelled so, by its answer
    abbrev pub ChecksAndSays : S × SinkSeen → S × SinkSeen → Result Report CheckFault → Type 0
    ChecksAndSays = EndsAs spelled whole_course
