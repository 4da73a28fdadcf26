-- A report with its bad pieces, printed file by file.
use Rattle.std.proofs.Common.{◌≡◌, inl, inr, Bool, true, false, List, [], ◌∷◌, ◌++◌, length, slice_get, Some, Result, Ok, Err}
use Rattle.std.proofs.Common.{arith, refl, sym, ap, ◌∙◌, subst, append_assoc, append-nil}
use Rattle.std.proofs.lemmas.Grind.{flat_map-append}
use Rattle.std.proofs.lemmas.List.{length-map}
use Rattle.std.proofs.lemmas.Option.{none-some, same_Some}
use Rattle.chains.proofs.Cases.{pushed_at}
use Rattle.benc.specs.Device.{SinkSeen, WroteAndFlushed}
use Rattle.lines.specs.Rows.{Row, Spelling, spell}
use Rattle.opening.specs.Description.{Description, FileEntry}
use Rattle.folders.specs.declared.report.FileVerdict.{FileVerdict}
use Rattle.parts.specs.Parts.{piece_count}
use Rattle.parts.specs.Runs.{Run}
use Rattle.parts.specs.Telling.{has_runs}
use Rattle.parts.proofs.Runs.{no_runs}
use Rattle.part_reports.specs.WholeLines.{AreFirstShown, AreShown, IsNotBad, SaysMarkedReport, ShowsAll, ShowsFirst}
use Rattle.part_reports.specs.WholeLines.{file_and_runs, whole_lines_rows, whole_rows}
use Rattle.part_reports.specs.declared.marked_report.BadPieces.{BadPieces}
use Rattle.part_reports.specs.declared.marked_report.MarkedReport.{MarkedReport}
use Rattle.part_reports.proofs.Listed.{same_items}
use Rattle.part_reports.proofs.MarkedFiles.{said_at}

-- no run yet
pub first_none : (t : Description) (bad : BadPieces) (f : FileEntry) (b : Bool) → AreFirstShown t bad f b []
first_none t bad f true =
    (0, omega arith, (no_runs (IsNotBad bad f) (piece_count t f) 0 (omega arith) (λ k lt. absurd (omega (arith, lt)))).done)
first_none t bad f false = refl

rows_push : (t : Description) (xs : List (FileVerdict × List Run)) (fs : List FileEntry) (v : FileVerdict) (runs : List Run) (f : FileEntry)
    → slice_get fs (length xs) ≡ Some f → whole_lines_rows t (xs ++ (v, runs) ∷ []) fs ≡ whole_lines_rows t xs fs ++ file_and_runs t f v runs
rows_push t [] [] v runs f at = absurd (none-some f at)
rows_push t [] (g ∷ fs) v runs f at = append-nil (file_and_runs t g v runs) ∙ ap (λ (h : FileEntry). file_and_runs t h v runs) (same_Some g f at)
rows_push t (x ∷ xs) [] v runs f at = absurd (none-some f at)
rows_push t (x ∷ xs) (g ∷ fs) v runs f at =
    let one : List Row = file_and_runs t g x.0 x.1 in
    ap (λ l. one ++ l) (rows_push t xs fs v runs f at) ∙ sym (append_assoc one (whole_lines_rows t xs fs) (file_and_runs t f v runs))

pub lines_push : (spelled : Spelling) (t : Description) (xs : List (FileVerdict × List Run)) (fs : List FileEntry) (v : FileVerdict) (runs : List Run)
    (f : FileEntry) → slice_get fs (length xs) ≡ Some f
    → spell spelled (whole_lines_rows t (xs ++ (v, runs) ∷ []) fs) ≡ spell spelled (whole_lines_rows t xs fs) ++ spell spelled (file_and_runs t f v runs)
lines_push spelled t xs fs v runs f at =
    ap (spell spelled) (rows_push t xs fs v runs f at) ∙ flat_map-append spelled (whole_lines_rows t xs fs) (file_and_runs t f v runs)

pub none_first : (t : Description) (joined : MarkedReport) → ShowsFirst t joined []
none_first t joined = record {
  verdicts = λ n x at. absurd (none-some x at);
  runs = λ n f x there at. absurd (none-some x at);
}

pub one_first : (t : Description) (joined : MarkedReport) (marked : List (FileVerdict × List Run)) (v : FileVerdict) (runs : List Run) (f : FileEntry)
    → slice_get t.files (length marked) ≡ Some f → slice_get joined.report.files.items (length marked) ≡ Some v
    → AreShown t joined.bad f (has_runs v) runs → ShowsFirst t joined marked → ShowsFirst t joined (marked ++ (v, runs) ∷ [])
one_first t joined marked v runs f f_at v_at shown first = record {
  verdicts = λ n x at. elim (pushed_at marked (v, runs) x n at) [
    | inl before ↦ first.verdicts n x before
    | inr last ↦
        ap (slice_get joined.report.files.items) last.0 ∙ v_at ∙ ap (λ (y : FileVerdict × List Run). Some y.0) last.1
  ];
  runs = λ n g x there at. elim (pushed_at marked (v, runs) x n at) [
    | inl before ↦ first.runs n g x there before
    | inr last ↦
        let same : f ≡ g = same_Some f g (sym f_at ∙ ap (slice_get t.files) (sym last.0) ∙ there) in
        subst (λ h. AreShown t joined.bad h (has_runs x.0) x.1) same
        (subst (λ (y : FileVerdict × List Run). AreShown t joined.bad f (has_runs y.0) y.1) last.1 shown)
  ];
}

pub all_first : (t : Description) (joined : MarkedReport) (marked : List (FileVerdict × List Run)) → length marked ≡ length joined.report.files.items
    → ShowsFirst t joined marked → ShowsAll t joined marked
all_first t joined marked count first = record {
  verdicts = same_items _ joined.report.files.items (length-map marked (λ x. x.0) ∙ count) (λ n v w v_at w_at.
      let x = said_at marked n v v_at in
      sym x.2 ∙ same_Some x.0.0 w (sym (first.verdicts n x.0 x.1) ∙ w_at));
  runs = first.runs;
}

pub printed_whole : {E : Type 0} (spelled : Spelling) (t : Description) (joined : MarkedReport) (marked : List (FileVerdict × List Run)) (old new : SinkSeen)
    (r : Result (Unit {0}) E) → ShowsAll t joined marked → WroteAndFlushed old new r (spell spelled (whole_rows t marked joined))
    → SaysMarkedReport spelled t joined old new r
printed_whole spelled t joined marked old new (Ok u) shows wrote = (marked, shows, wrote)
printed_whole spelled t joined marked old new (Err e) shows wrote = inr (marked, shows, wrote)
