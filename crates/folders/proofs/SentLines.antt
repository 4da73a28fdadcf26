-- Lines that went out one after the other, as they are spelled.
use Rattle.std.proofs.Common.{◌≡◌, ◌∙◌, Bool, true, false, if◌then◌else◌, List, [], ◌∷◌, ◌++◌, length, slice_get, Some, Result, Ok, refl, sym, ap, subst}
use Rattle.std.proofs.Common.{append_assoc, append-nil}
use Rattle.std.proofs.lemmas.Grind.{flat_map-append}
use Rattle.std.proofs.lemmas.Option.{none-some, same_Some}
use Rattle.benc.proofs.Known.{Appends_nothing}
use Rattle.benc.specs.Device.{SinkSeen, Wrote}
use Rattle.benc.specs.declared.device.DeviceFault.{DeviceFault}
use Rattle.lines.specs.Rows.{Row, Spelling, spell}
use Rattle.opening.specs.Description.{FileEntry}
use Rattle.folders.specs.Printed.{verdicts_rows, wanted_rows}
use Rattle.folders.specs.declared.report_lines.Lines.{Lines}
use Rattle.folders.specs.declared.report.FileVerdict.{FileVerdict}

-- one line is a list of one
pub wrote_one : (spelled : Spelling) (r : Row) (old new : SinkSeen) (answer : Result (Unit {0}) DeviceFault) → Wrote old new answer (spelled r)
    → Wrote old new answer (spell spelled (r ∷ []))
wrote_one spelled r old new answer wrote = subst (Wrote old new answer) (sym (append-nil (spelled r))) wrote

-- lines that are wanted, and lines that are not
pub wrote_if : (spelled : Spelling) (rows : List Row) (wanted : Bool) (old new : SinkSeen) (answer : Result (Unit {0}) DeviceFault) → wanted ≡ true
    → Wrote old new answer (spell spelled rows) → Wrote old new answer (spell spelled (if wanted then rows else []))
wrote_if spelled rows wanted old new answer on wrote =
    subst (λ b. Wrote old new answer (spell spelled (if b then rows else []))) (sym on) wrote

pub wrote_none : (spelled : Spelling) (rows : List Row) (wanted : Bool) (out : SinkSeen) → wanted ≡ false
    → Wrote {A = Unit {0}} {E = DeviceFault} out out (Ok tt) (spell spelled (if wanted then rows else []))
wrote_none spelled rows wanted out off =
    subst (λ b. Wrote {A = Unit {0}} {E = DeviceFault} out out (Ok tt) (spell spelled (if b then rows else []))) (sym off)
    (record { bytes = Appends_nothing out.written; faults = refl; flushes = refl })

-- lines, and then one more
pub spelled_push : (spelled : Spelling) (rows : List Row) (r : Row) → spell spelled (rows ++ r ∷ []) ≡ spell spelled rows ++ spelled r
spelled_push spelled rows r = flat_map-append spelled rows (r ∷ []) ∙ ap (λ t. spell spelled rows ++ t) (append-nil (spelled r))

-- the lines of the first files, with those of the next one
rows_push : (which : Lines) (vs : List FileVerdict) (fs : List FileEntry) (v : FileVerdict) (f : FileEntry) → slice_get fs (length vs) ≡ Some f
    → verdicts_rows which (vs ++ v ∷ []) fs ≡ verdicts_rows which vs fs ++ wanted_rows which v f
rows_push which [] [] v f is = absurd (none-some f is)
rows_push which [] (g ∷ fs) v f is = append-nil (wanted_rows which v g) ∙ ap (wanted_rows which v) (same_Some g f is)
rows_push which (w ∷ vs) [] v f is = absurd (none-some f is)
rows_push which (w ∷ vs) (g ∷ fs) v f is =
    ap (λ t. wanted_rows which w g ++ t) (rows_push which vs fs v f is)
    ∙ sym (append_assoc (wanted_rows which w g) (verdicts_rows which vs fs) (wanted_rows which v f))

pub verdicts_push : (spelled : Spelling) (which : Lines) (vs : List FileVerdict) (fs : List FileEntry) (v : FileVerdict) (f : FileEntry)
    → slice_get fs (length vs) ≡ Some f
    → spell spelled (verdicts_rows which (vs ++ v ∷ []) fs) ≡ spell spelled (verdicts_rows which vs fs) ++ spell spelled (wanted_rows which v f)
verdicts_push spelled which vs fs v f is =
    ap (spell spelled) (rows_push which vs fs v f is) ∙ flat_map-append spelled (verdicts_rows which vs fs) (wanted_rows which v f)
