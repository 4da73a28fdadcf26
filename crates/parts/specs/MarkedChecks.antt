-- What the check of a part does that prints the bad pieces of its files: a marked report. Each file
-- is visited once, and its line and those of its runs go out before the next is opened. `spelled`
-- is how lines are spelled, `shelf` and `opens_at` stand for what the shelf's type says of its
-- shelves, and `seen` for what its files say.
use Rattle.std.specs.Prelude.{◌≡◌, ◌⊎◌, ℕ, List, slice_get, Option, Some, Result, Err}
use Rattle.benc.specs.Device.{Broke, Sent, SentAndFlushed, SinkSeen, SourceSeen}
use Rattle.benc.specs.declared.device.DeviceFault.{DeviceFault}
use Rattle.folders.specs.Folder.{Contents}
use Rattle.folders.specs.declared.report.FileVerdict.{FileVerdict}
use Rattle.folders.specs.declared.report.Report.{Report}
use Rattle.folders.specs.declared.report.V1Verdict.{V1Verdict}
use Rattle.folders.specs.declared.shelf.Shelf.{Ghosts}
use Rattle.opening.specs.Description.{Description, FileEntry}
use Rattle.parts.specs.Checking.{shelf_and_sink}
use Rattle.parts.specs.Endings.{Course, EndsAs, EndsWell}
use Rattle.parts.specs.Finding.{IsTrueOfPlaces}
use Rattle.parts.specs.MarkedLines.{marked_head_row, marked_part_rows, verdicts_of}
use Rattle.parts.specs.PartLines.{part_end_rows}
use Rattle.parts.specs.Runs.{Run}
use Rattle.parts.specs.Shares.{share}
use Rattle.parts.specs.Telling.{AreMarkedRuns}
use Rattle.parts.specs.Visiting.{StopsAtFile, VisitsAll, part_visiting}
use Rattle.lines.specs.Rows.{Spelling, spell}
use Rattle.lines.specs.declared.out_fault.OutFault.{OutFault as CheckFault}
use Rattle.lines.specs.declared.out_fault.OutFault.TheVariants as stopped
use Rattle.parts.specs.declared.places.Places.{Places}
use Rattle.parts.specs.declared.telling.Telling.TheVariants as telling

-- these are the runs of each of the first files, if these are the files' contents
abbrev pub AreAllMarked : Description → Places → Contents → List (FileVerdict × List Run) → Type 0
AreAllMarked t r contents marked = (n : ℕ) (f : FileEntry) (x : FileVerdict × List Run)
    → slice_get t.files n ≡ Some f → slice_get marked n ≡ Some x
    → AreMarkedRuns t r f (contents n) x.0 x.1

-- A marked report went out whole, in lines that are spelled so, and was flushed once: its verdicts
-- are true of what stands at the files' paths, and its runs are those of the same contents.
pub record SaysMarked (spelled : Spelling) (t : Description) (part parts : ℕ)
    (under : List (List ℕ) → Option (Option (List ℕ))) (verdicts : List FileVerdict)
    (v1 : Option V1Verdict) (old new : SinkSeen) : Type 0 where
  pub are_true : IsTrueOfPlaces t (share t part parts) under verdicts v1
  pub marked : List (FileVerdict × List Run)
  pub verdicts_are : verdicts_of marked ≡ verdicts
  pub runs : AreAllMarked t (share t part parts) are_true.contents marked
  pub went : SentAndFlushed old new (spell spelled (marked_part_rows t part parts marked v1))

module _ {S F : Type 0} (spelled : Spelling) (shelf : Ghosts S F)
    (opens_at : S → List (List ℕ) → ℕ → Result (Option F) DeviceFault → S → Type 0)
    (seen : F → SourceSeen) (t : Description) (part parts : ℕ) where
  -- the first line broke off, and nothing was opened
  pub record StopsAtHead (old new : S × SinkSeen) : Type 0 where
    pub shelf_stays : new.0 ≡ old.0
    pub broke : Broke old.1 new.1 (spelled (marked_head_row t part parts))

  -- the first line went out, and then this happened to the files
  pub record BehindHead (Happens : S × SinkSeen → Type 0) (old : S × SinkSeen) : Type 0 where
    pub begun : SinkSeen
    pub head : Sent old.1 begun (spelled (marked_head_row t part parts))
    pub files : Happens (shelf_and_sink old.0 begun)

  -- the course of the check of a part: the first line goes out, and then all files are visited,
  -- each before the next is opened, and the line of each, and those of its runs, go out; or one of
  -- these breaks off
  abbrev pub part_course : Course S
  part_course = let V = part_visiting shelf opens_at seen (share t part parts) t in
      let telling = telling.RunsIn (share t part parts) in record {
        all = λ verdicts v1 old new.
            BehindHead (λ begun. VisitsAll V spelled t telling verdicts v1 begun new) old;
        stops = λ old new. StopsAtHead old new
            ⊎ BehindHead (λ begun. StopsAtFile V spelled t telling begun new) old;
        end = part_end_rows;
      }

  -- the first line went out, then those of all files as each was done, and then the last lines,
  -- with one flush
  abbrev pub ChecksMarkedPart : List FileVerdict → Option V1Verdict → S × SinkSeen → S × SinkSeen
      → Type 0
  ChecksMarkedPart = EndsWell spelled part_course

  -- the sink failed at the first line, at a file, or behind the last one
  abbrev pub StopsMarking : S × SinkSeen → S × SinkSeen → Type 0
  StopsMarking old new = EndsAs spelled part_course old new (Err stopped.Write)

  -- What the check of a part did that says a marked report, by its answer. After a report all lines
  -- went out, those of a file before the next was opened, with one flush at the end; after `Write`
  -- the sink failed at one of them; after `NoMemory` nothing was opened, and nothing went out.
  abbrev pub ChecksMarkedAs : S × SinkSeen → S × SinkSeen → Result Report CheckFault → Type 0
  ChecksMarkedAs = EndsAs spelled part_course
