-- What a check ends with whose lines go out as it goes. `shelf` stands for what the shelf's type
-- says of its shelves, and `seen` for what its files say.
use Rattle.std.specs.Prelude.{◌≡◌, ℕ, List, Option, Result, Ok, Err, codes}
use Rattle.benc.specs.Device.{SinkSeen, SourceSeen}
use Rattle.commands.specs.Outcomes.{answer_status}
use Rattle.folders.specs.Verdicts.{is_yes}
use Rattle.folders.specs.declared.report_lines.Lines.{Lines}
use Rattle.folders.specs.declared.report.FileVerdict.{FileVerdict}
use Rattle.folders.specs.declared.report.V1Verdict.{V1Verdict}
use Rattle.folders.specs.declared.shelf.Shelf.{Ghosts}
use Rattle.lines.specs.Rows.{Spelling}
use Rattle.opening.specs.Description.{Description}
use Rattle.parts.specs.Checking.{ChecksWhole, StopsTelling}
use Rattle.parts.specs.declared.telling.Telling.{Telling}
use Rattle.printing.specs.declared.fault.Fault.{Fault}
use Rattle.printing.specs.declared.fault.Fault.TheVariants as faults

module _ {S F : Type 0} (shelf : Ghosts S F) (seen : F → SourceSeen) where
  -- What a check did, by its answer: each file was checked and told of, in order, and the
  -- status is that of the last line; or the report broke off at a file or behind the last one; or
  -- memory was refused before the first.
  abbrev pub ChecksInTurn : Spelling → Description → Telling → Lines → S × SinkSeen
      → S × SinkSeen → Result ℕ Fault → Type 0
  ChecksInTurn spelled t telling lines old new (Ok status) =
      (files : List FileVerdict) × (v1 : Option V1Verdict)
      × ChecksWhole shelf seen spelled t telling lines files v1 old new
      × (status ≡ answer_status (is_yes files v1))
  ChecksInTurn spelled t telling lines old new (Err (faults.Write path)) =
      (path.now ≡ codes "-") × StopsTelling shelf seen spelled t telling lines old new
  ChecksInTurn spelled t telling lines old new (Err faults.NoMemory) =
      (new.0 ≡ old.0) × (new.1 ≡ old.1)
  ChecksInTurn spelled t telling lines old new (Err fault) = ⊥
