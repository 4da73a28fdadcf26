-- What the check of a part ends with that prints bad pieces. `spelled` is how lines are spelled,
-- `shelf` and `opens_at` stand for what the shelf's type says of its shelves, and `seen` for what
-- its files say.
use Rattle.std.specs.Prelude.{◌≡◌, ℕ, List, Option, Result, Ok, Err, codes}
use Rattle.benc.specs.Device.{SinkSeen, SourceSeen}
use Rattle.benc.specs.declared.device.DeviceFault.{DeviceFault}
use Rattle.commands.specs.Outcomes.{answer_status}
use Rattle.folders.specs.Verdicts.{is_yes}
use Rattle.folders.specs.declared.report.FileVerdict.{FileVerdict}
use Rattle.folders.specs.declared.report.V1Verdict.{V1Verdict}
use Rattle.folders.specs.declared.shelf.Shelf.{Ghosts}
use Rattle.lines.specs.Rows.{Spelling}
use Rattle.opening.specs.Description.{Description}
use Rattle.parts.specs.MarkedChecks.{ChecksMarkedPart, SaysMarked, StopsMarking}
use Rattle.printing.specs.declared.fault.Fault.{Fault}
use Rattle.printing.specs.declared.fault.Fault.TheVariants as faults

module _ {S F : Type 0} (spelled : Spelling) (shelf : Ghosts S F)
    (opens_at : S → List (List ℕ) → ℕ → Result (Option F) DeviceFault → S → Type 0)
    (seen : F → SourceSeen) where
  -- What a part of a check did, by its answer: each file was checked and told of before the next,
  -- so that the whole report went out, and the status is that of its last line; or the report broke
  -- off at its first line, at a file or behind the last one; or memory was refused before it.
  abbrev pub ChecksPartInTurn : Description → ℕ → ℕ → S × SinkSeen → S × SinkSeen
      → Result ℕ Fault → Type 0
  ChecksPartInTurn t part count old new (Ok status) =
      (files : List FileVerdict) × (v1 : Option V1Verdict)
      × ChecksMarkedPart spelled shelf opens_at seen t part count files v1 old new
      × SaysMarked spelled t part count (shelf.contents old.0).under files v1 old.1 new.1
      × (status ≡ answer_status (is_yes files v1))
  ChecksPartInTurn t part count old new (Err (faults.Write path)) =
      (path.now ≡ codes "-") × StopsMarking spelled shelf opens_at seen t part count old new
  ChecksPartInTurn t part count old new (Err faults.NoMemory) =
      (new.0 ≡ old.0) × (new.1 ≡ old.1)
  ChecksPartInTurn t part count old new (Err fault) = ⊥
