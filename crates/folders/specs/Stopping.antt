-- A check that a sink stopped, behind the first files of a torrent.
use Rattle.std.specs.Prelude.{◌≡◌, ◌⊎◌, ℕ, ◌<◌, List, length, slice_get, take, Option, Some}
use Rattle.benc.specs.Device.{Broke, BrokeOrUnflushed, SinkSeen, SourceSeen}
use Rattle.chains.specs.Chain.{Chain}
use Rattle.lines.specs.Rows.{Spelling, spell}
use Rattle.opening.specs.Description.{Description, FileEntry}
use Rattle.folders.specs.Folder.{Contents}
use Rattle.folders.specs.Printed.{report_rows, verdicts_rows}
use Rattle.folders.specs.Shelf.{more}
use Rattle.folders.specs.Verdicts.{Agrees, AreVerdicts, HasVerdicts, IsTrueOfFolder, unreadable_count}
use Rattle.folders.specs.Visits.{Visits}
use Rattle.folders.specs.declared.report_lines.Lines.{Lines}
use Rattle.folders.specs.declared.report.FileVerdict.{FileVerdict}
use Rattle.folders.specs.declared.report.V1Verdict.{V1Verdict}
use Rattle.folders.specs.declared.shelf.Shelf.{Ghosts}

-- each verdict on these first files is true of what stands at the file's path, as far as that is
-- known
pub record AreTrueOfFirst (t : Description) (under : List (List ℕ) → Option (Option (List ℕ)))
    (files : List FileVerdict) : Type 0 where
  pub contents : Contents
  pub agree : (n : ℕ) (f : FileEntry) → n < length files → slice_get t.files n ≡ Some f
      → Agrees (under f.path) (contents n)
  pub each : AreVerdicts t contents files

-- the report on all files broke off at its end, or was not flushed
abbrev pub BreaksAtEnd : Spelling → Description → (List (List ℕ) → Option (Option (List ℕ)))
    → Lines → List FileVerdict → SinkSeen → SinkSeen → Type 0
BreaksAtEnd spelled t under lines files out out' =
    (v1 : Option V1Verdict) × HasVerdicts t files v1 × IsTrueOfFolder t under files v1
    × BrokeOrUnflushed out out' (spell spelled (report_rows lines t.files files v1))

module _ {S F : Type 0} (shelf : Ghosts S F) (seen : F → SourceSeen) where
  -- the first files of a torrent were visited, each once and in order, for these verdicts, which
  -- are true of them; the shelf counts one failure for each that is unreadable
  pub record VisitsFirst (t : Description) (s : S) (files : List FileVerdict) (s' : S) : Type 0
    where
      pub once : Chain (Visits shelf seen t) s (take (length files) t.files) files s'
      pub counted : shelf.faults s' ≡ more (shelf.faults s) (unreadable_count files)
      pub are_true : AreTrueOfFirst t (shelf.contents s).under files

  -- some first files were visited, and the lines of their verdicts, spelled so, broke off, no later
  -- file was visited; or all were, and the report broke off at its end
  pub record BreaksOffAs (spelled : Spelling) (t : Description) (s : S) (lines : Lines)
      (out out' : SinkSeen) (s' : S) : Type 0 where
    pub files : List FileVerdict
    pub visits : VisitsFirst t s files s'
    pub broke : Broke out out' (spell spelled (verdicts_rows lines files t.files))
        ⊎ BreaksAtEnd spelled t (shelf.contents s).under lines files out out'
