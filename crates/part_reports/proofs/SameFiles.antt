-- What lines tell of the files that have a place in the part is one: no text has two readings.
use Rattle.std.proofs.Common.{◌≡◌, ℕ, zero, suc, ◌≤◌, Bool, true, false, List, [], ◌∷◌, ◌++◌, length, slice_get, Option, Some, is_some}
use Rattle.std.proofs.Common.{refl, sym, ap, ap₂, ◌∙◌, arith}
use Rattle.std.proofs.lemmas.Grind.{flat_map-append}
use Rattle.std.proofs.lemmas.Option.{none-some, same_Some}
use Rattle.lines.specs.Rows.{spell}
use Rattle.lines.specs.Texts.{text_of}
use Rattle.opening.specs.Description.{Description, FileEntry}
use Rattle.opening.specs.Sound.{IsSound}
use Rattle.folders.specs.Printed.{version1_rows}
use Rattle.folders.specs.Verdicts.{IsFileOf, is_yes}
use Rattle.folders.specs.declared.report.FileVerdict.{FileVerdict}
use Rattle.folders.specs.declared.report.V1Verdict.{V1Verdict}
use Rattle.parts.specs.MarkedLines.{marked_place_rows, marked_rows, verdicts_of}
use Rattle.parts.specs.PartLines.{has_place, part_answer_row}
use Rattle.parts.specs.Parts.{piece_count}
use Rattle.parts.specs.Runs.{Run, runs_rows}
use Rattle.parts.specs.declared.places.Places.{Places}
use Rattle.part_reports.specs.Lines.{HasNoRun, IsSmallV1}
use Rattle.part_reports.proofs.MarkedFiles.{AreClear, IsClear, files_no_run, off_text, on_text}
use Rattle.part_reports.proofs.Readings.{end_of}
use Rattle.part_reports.proofs.RunLines.{end_no_run, greedy, run_front}
use Rattle.part_reports.proofs.SameLines.{rows_then, same_line, same_stream}

-- ---- one file

-- two tellings of a file in front of a text are one, if it has a place in the part
same_file : (t : Description) (r : Places) (f : FileEntry) (x y : FileVerdict × List Run) (xs ys : List ℕ) → IsSound t → IsFileOf t f
    → IsClear t r f x → IsClear t r f y → HasNoRun xs → HasNoRun ys
    → spell text_of (marked_rows t r f x.0 x.1) ++ xs ≡ spell text_of (marked_rows t r f y.0 y.1) ++ ys
    → (has_place t r f ≡ true → x ≡ y) × (xs ≡ ys)
same_file t r f x y xs ys sound own one other none nor is = by_place (has_place t r f) refl
  where
    by_place : (held : Bool) → has_place t r f ≡ held → (has_place t r f ≡ true → x ≡ y) × (xs ≡ ys)
    by_place false off =
        (λ on. let no : ⊥ = cc in absurd no, sym (off_text t r f x xs off (one.off off)) ∙ is ∙ off_text t r f y ys off (other.off off))
    by_place true on =
        let line = same_line f x.0 y.0 (spell text_of (runs_rows t f x.1) ++ xs) (spell text_of (runs_rows t f y.1) ++ ys) one.small other.small
        (sym (on_text t r f x xs on) ∙ is ∙ on_text t r f y ys on) in
        let all : piece_count t f ≤ piece_count t f = omega arith in
        let runs = greedy t f (piece_count t f) sound own all 0 x.1 y.1 xs ys one.runs other.runs line.1 nor
        (λ has. none (_, has.2.1 ∙ run_front t f has.0 has.2.0)) in
        let pair : FileVerdict → List Run → FileVerdict × List Run = λ v rs. (v, rs) in
        (λ held. ap₂ pair line.0 runs.0, runs.1)

-- ---- all files

-- the same is told of each file that has a place there
abbrev pub TellTheSame : Description → Places → List FileEntry → List (FileVerdict × List Run) → List (FileVerdict × List Run) → Type 0
TellTheSame t r fs xs ys = (n : ℕ) (f : FileEntry) (x y : FileVerdict × List Run) → slice_get fs n ≡ Some f → slice_get xs n ≡ Some x
    → slice_get ys n ≡ Some y → has_place t r f ≡ true → x ≡ y

one_more : (t : Description) (r : Places) (f : FileEntry) (fs : List FileEntry) (x y : FileVerdict × List Run) (xs ys : List (FileVerdict × List Run))
    → (has_place t r f ≡ true → x ≡ y) → TellTheSame t r fs xs ys → TellTheSame t r (f ∷ fs) (x ∷ xs) (y ∷ ys)
one_more t r f fs x y xs ys one rest zero g a b there is_a is_b held =
    sym (same_Some x a is_a) ∙ one (ap (has_place t r) (same_Some f g there) ∙ held) ∙ same_Some y b is_b
one_more t r f fs x y xs ys one rest (suc n) g a b there is_a is_b held = rest n g a b there is_a is_b held

same_files : (t : Description) (r : Places) (fs : List FileEntry) (xs ys : List (FileVerdict × List Run)) (ex ey : List ℕ) → IsSound t
    → ((n : ℕ) (f : FileEntry) → slice_get fs n ≡ Some f → IsFileOf t f) → length xs ≡ length fs → length ys ≡ length fs → AreClear t r fs xs
    → AreClear t r fs ys → HasNoRun ex → HasNoRun ey
    → spell text_of (marked_place_rows t r xs fs) ++ ex ≡ spell text_of (marked_place_rows t r ys fs) ++ ey → TellTheSame t r fs xs ys × (ex ≡ ey)
same_files t r [] [] [] ex ey sound own count counts one other none nor is = (λ n f x y there at. absurd (none-some x at), is)
same_files t r (f ∷ fs) (x ∷ xs) (y ∷ ys) ex ey sound own count counts one other none nor is =
    let later : AreClear t r fs xs = λ n g a there at. one (suc n) g a there at in
    let others : AreClear t r fs ys = λ n g b there at. other (suc n) g b there at in
    let here = same_file t r f x y (spell text_of (marked_place_rows t r xs fs) ++ ex) (spell text_of (marked_place_rows t r ys fs) ++ ey) sound
    (own 0 f refl) (one 0 f x refl refl) (other 0 f y refl refl) (files_no_run t r fs xs ex later none) (files_no_run t r fs ys ey others nor)
    (sym (rows_then (marked_rows t r f x.0 x.1) (marked_place_rows t r xs fs) ex) ∙ is
    ∙ rows_then (marked_rows t r f y.0 y.1) (marked_place_rows t r ys fs) ey) in
    let rest = same_files t r fs xs ys ex ey sound (λ n g there. own (suc n) g there) (omega (arith, count)) (omega (arith, counts)) later others none nor
    here.1 in
    (one_more t r f fs x y xs ys here.0 rest.0, rest.1)
same_files t r fs xs ys ex ey sound own count counts one other none nor is = absurd (omega (arith, count, counts))

-- ---- all lines

-- the lines behind the first one of a report tell this, by which it is known
pub record IsTelling (t : Description) (r : Places) (lines : List ℕ) (marked : List (FileVerdict × List Run)) (v1 : Option V1Verdict) : Type 0 where
  pub count : length marked ≡ length t.files
  pub hybrid : is_some v1 ≡ is_some t.v1
  pub clear : AreClear t r t.files marked
  pub small : (v : V1Verdict) → v1 ≡ Some v → IsSmallV1 v
  pub is : lines ≡ spell text_of (marked_place_rows t r marked t.files) ++ end_of marked v1

pub one_telling : (t : Description) (r : Places) (lines : List ℕ) (xs ys : List (FileVerdict × List Run)) (v w : Option V1Verdict) → IsSound t
    → IsTelling t r lines xs v → IsTelling t r lines ys w → TellTheSame t r t.files xs ys × (v ≡ w)
one_telling t r lines xs ys v w sound one other =
    let said = is_yes (verdicts_of xs) v in
    let answer = is_yes (verdicts_of ys) w in
    let files = same_files t r t.files xs ys (end_of xs v) (end_of ys w) sound (λ n f there. (n, there)) one.count other.count one.clear other.clear
    (end_no_run v said) (end_no_run w answer) (sym one.is ∙ other.is) in (
      files.0,
      same_stream v w (text_of (part_answer_row said) ++ []) (text_of (part_answer_row answer) ++ []) (one.hybrid ∙ sym other.hybrid) one.small other.small
          (sym (end_text v said) ∙ files.1 ∙ end_text w answer),
    )
  where
    end_text : (v : Option V1Verdict) (said : Bool)
        → spell text_of (version1_rows v ++ part_answer_row said ∷ []) ≡ spell text_of (version1_rows v) ++ (text_of (part_answer_row said) ++ [])
    end_text v said = flat_map-append text_of (version1_rows v) (part_answer_row said ∷ [])
