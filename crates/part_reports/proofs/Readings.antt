-- The readings of the lines of a part's files.
use Rattle.std.proofs.Common.{◌≡◌, ℕ, ◌+◌, ◌<◌, Bool, true, false, List}
use Rattle.std.proofs.Common.{◌++◌, length, drop, set, slice_get}
use Rattle.std.proofs.Common.{Option, Some, inl, inr, sym, ap, ap₂, ◌∙◌, subst, arith}
use Rattle.std.proofs.lemmas.Bool.{cases_lt}
use Rattle.std.proofs.lemmas.Grind.{flat_map-append}
use Rattle.std.proofs.lemmas.List.{length-map, length-set}
use Rattle.std.proofs.lemmas.List.{get_or-set_other, get_or-set_same}
use Rattle.std.proofs.lemmas.Option.{slice_get-get_or, slice_get_past}
use Rattle.chains.proofs.Cases.{drop_item}
use Rattle.opening.specs.Description.{Description, FileEntry}
use Rattle.opening.specs.Sound.{IsSound}
use Rattle.folders.specs.Verdicts.{is_yes}
use Rattle.folders.specs.declared.report.FileVerdict.{FileVerdict}
use Rattle.folders.specs.declared.report.FileVerdict.TheVariants as file
use Rattle.folders.specs.declared.report.V1Verdict.{V1Verdict}
use Rattle.parts.specs.MarkedLines.{marked_place_rows, marked_rows, verdicts_of}
use Rattle.parts.specs.Runs.{Run}
use Rattle.parts.specs.Spans.{end_in, first_in}
use Rattle.parts.specs.Telling.{has_runs}
use Rattle.parts.specs.declared.places.Places.{Places}
use Rattle.parts.proofs.SharedPlaces.{few_pieces}
use Rattle.parts.specs.Parts.{piece_count}
use Rattle.parts.specs.PartLines.{part_end_rows}
use Rattle.lines.specs.Rows.{spell}
use Rattle.lines.specs.Texts.{text_of}
use Rattle.part_reports.specs.Lines.{HasLines, IsSmall, TellsOfFile}
use Rattle.part_reports.specs.Marks.{AreRunsWithin, CanMark, CanMarkAll, CanTell}
use Rattle.part_reports.specs.Reported.{CanReport, CanSay, CanSayAll}
use Rattle.part_reports.specs.declared.kind.Kind.{Kind}
use Rattle.part_reports.specs.declared.kind.Kind.TheVariants as kind
use Rattle.part_reports.proofs.Listed.{at_drop}
use Rattle.part_reports.proofs.MarkedFiles.{AreClear, files_no_run, off_silent, verdict_at}
use Rattle.part_reports.proofs.RunLines.{end_no_run, wider}
use Rattle.part_reports.proofs.SameLines.{rows_then}

pub at_other : {A : Type 0} (xs : List A) (i n : ℕ) (x : A) → (n ≡ i → ⊥) → slice_get (set xs i x) n ≡ slice_get xs n
at_other xs i n x other = elim (cases_lt n (length xs)) [
  | inl lt ↦
      slice_get-get_or (set xs i x) n x (omega (arith, lt, length-set xs i x))
      ∙ ap Some (get_or-set_other xs i n x x other)
      ∙ sym (slice_get-get_or xs n x lt)
  | inr past ↦ slice_get_past (set xs i x) n (omega (arith, past, length-set xs i x)) ∙ sym (slice_get_past xs n past)
]

pub at_same : {A : Type 0} (xs : List A) (i : ℕ) (x : A) → i < length xs → slice_get (set xs i x) i ≡ Some x
at_same xs i x lt = slice_get-get_or (set xs i x) i x (omega (arith, lt, length-set xs i x)) ∙ ap Some (get_or-set_same xs i x x lt)

-- what a part can say of a file of a sound torrent has a small number
pub says_small : (t : Description) (r : Places) (n : ℕ) (f : FileEntry) (v : FileVerdict) → IsSound t → slice_get t.files n ≡ Some f → CanSay t r f v
    → IsSmall v
says_small t r n f (file.Bad p) sound there can = omega (arith, can.1.to, few_pieces t f sound (n, there))
says_small t r n f v sound there can = tt

marks_within : (k : Kind) (t : Description) (r : Places) (f : FileEntry) (v : FileVerdict) (runs : List Run) → CanMark k t r f v runs
    → AreRunsWithin 0 (piece_count t f) runs
marks_within kind.Plain t r f v runs none = subst (AreRunsWithin 0 (piece_count t f)) (sym none) tt
marks_within kind.Marked t r f v runs can = by_runs (has_runs v) can
  where
    by_runs : (b : Bool) → CanTell t r f v b runs → AreRunsWithin 0 (piece_count t f) runs
    by_runs false none = subst (AreRunsWithin 0 (piece_count t f)) (sym none) tt
    by_runs true can = wider (first_in r f) (end_in t r f) (piece_count t f) runs (omega arith) can.0

-- what can be reported is clear
pub can_clear : (k : Kind) (t : Description) (r : Places) (marked : List (FileVerdict × List Run)) → IsSound t
    → CanSayAll t r t.files (verdicts_of marked) → CanMarkAll k t r t.files marked → AreClear t r t.files marked
can_clear k t r marked sound says marks n f x there at =
    let can = says n f x.0 there (verdict_at marked n x at) in
    let mark = marks n f x there at in
    record {
      small = says_small t r n f x.0 sound there can;
      off = λ off. ap (λ (y : FileVerdict × List Run). y.1) (off_silent k t r f x off can mark);
      runs = marks_within k t r f x.0 x.1 mark;
    }

-- what stands behind the lines of the files
abbrev pub end_of : List (FileVerdict × List Run) → Option V1Verdict → List ℕ
end_of marked v1 = spell text_of (part_end_rows (verdicts_of marked) v1)

-- a reading of the lines: of all files what is told of them, and the end
pub record Reading (k : Kind) (t : Description) (r : Places) (lines : List ℕ) (marked : List (FileVerdict × List Run)) (v1 : Option V1Verdict) : Type 0
  where
    pub can : CanReport t r (verdicts_of marked) v1
    pub marks : CanMarkAll k t r t.files marked
    pub is : lines ≡ spell text_of (marked_place_rows t r marked t.files) ++ end_of marked v1

-- what is left to read of it behind the first files
abbrev pub left_of : Description → Places → List (FileVerdict × List Run) → Option V1Verdict → ℕ → List ℕ
left_of t r marked v1 i = spell text_of (marked_place_rows t r (drop i marked) (drop i t.files)) ++ end_of marked v1

pub counted : (k : Kind) (t : Description) (r : Places) (lines : List ℕ) (marked : List (FileVerdict × List Run)) (v1 : Option V1Verdict)
    → Reading k t r lines marked v1 → length marked ≡ length t.files
counted k t r lines marked v1 reading = sym (length-map marked (λ x. x.0)) ∙ reading.can.count

-- what another reading tells of the next file
pub next_told : (k : Kind) (t : Description) (r : Places) (lines : List ℕ) (marked : List (FileVerdict × List Run)) (v1 : Option V1Verdict) (i : ℕ)
    (f : FileEntry) (x : FileVerdict × List Run) (rest : List ℕ) → IsSound t → Reading k t r lines marked v1 → slice_get t.files i ≡ Some f
    → slice_get marked i ≡ Some x → rest ≡ left_of t r marked v1 i → TellsOfFile k t r f rest x.0 x.1 (left_of t r marked v1 (i + 1))
next_told k t r lines marked v1 i f x rest sound reading there at rest_is =
    record {
      can = reading.can.says i f x.0 there (verdict_at marked i x at);
      can_mark = reading.marks i f x there at;
      is = rest_is
          ∙ ap₂ (λ m fs. spell text_of (marked_place_rows t r m fs) ++ end_of marked v1) (drop_item marked i x at) (drop_item t.files i f there)
          ∙ rows_then (marked_rows t r f x.0 x.1) (marked_place_rows t r (drop (i + 1) marked) (drop (i + 1) t.files)) (end_of marked v1);
      ends = files_no_run t r (drop (i + 1) t.files) (drop (i + 1) marked) (end_of marked v1)
          (λ n g y there at. can_clear k t r marked sound reading.can.says reading.marks (i + 1 + n) g y (at_drop t.files (i + 1) n g there)
          (at_drop marked (i + 1) n y at))
          (end_no_run v1 (is_yes (verdicts_of marked) v1));
    }

-- what a form of the lines says
pub reading_of : (k : Kind) (t : Description) (r : Places) (lines : List ℕ) → (has : HasLines k t r lines) → Reading k t r lines has.0.marked has.0.v1
reading_of k t r lines has =
    let m = has.0 in
    let says = has.2 in
    record {
      can = subst (λ x. CanReport t x (verdicts_of m.marked) m.v1) has.1 says.can.says;
      marks = subst (λ x. CanMarkAll k t x t.files m.marked) has.1 says.can.marks;
      is = says.is ∙ flat_map-append text_of (marked_place_rows t m.places m.marked t.files) (part_end_rows (verdicts_of m.marked) m.v1)
          ∙ ap (λ x. spell text_of (marked_place_rows t x m.marked t.files) ++ end_of m.marked m.v1) has.1;
    }
