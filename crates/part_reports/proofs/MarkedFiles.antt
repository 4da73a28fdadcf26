-- What is told of files, in the lines of a report.
use Rattle.std.proofs.Common.{◌≡◌, ◌⊎◌, inl, inr, ℕ, zero, suc, Bool, true, false, List, [], ◌∷◌, ◌++◌, length, slice_get}
use Rattle.std.proofs.Common.{Some, option_map, refl, sym, ap, ap₂, ◌∙◌, subst, append_assoc, append-nil}
use Rattle.std.proofs.lemmas.Option.{none-some, same_Some, slice_get-map}
use Rattle.chains.proofs.Cases.{item_stays, pushed_at, pushed_last}
use Rattle.opening.specs.Description.{Description, FileEntry}
use Rattle.folders.specs.declared.report.FileVerdict.{FileVerdict}
use Rattle.folders.specs.declared.report.FileVerdict.TheVariants as file
use Rattle.parts.specs.MarkedLines.{marked_place_rows, marked_rows, verdicts_of}
use Rattle.parts.specs.PartLines.{has_place, held_rows}
use Rattle.parts.specs.Parts.{piece_count}
use Rattle.parts.specs.Runs.{Run, runs_rows}
use Rattle.parts.specs.declared.places.Places.{Places}
use Rattle.folders.specs.Printed.{verdict_row}
use Rattle.lines.specs.Rows.{spell}
use Rattle.lines.specs.Texts.{text_of}
use Rattle.part_reports.specs.Lines.{BeginsWithFile, HasLine, HasNoRun, HasRuns, IsSmall, ReadsFileLine, ReadsLine, ReadsRuns, TellsOfFile}
use Rattle.part_reports.specs.Marks.{AreRunsWithin, CanMark, IsInRuns, IsTold}
use Rattle.part_reports.specs.Reported.{CanSay}
use Rattle.part_reports.specs.declared.marked_report.BadPieces.{BadPieces}
use Rattle.part_reports.specs.declared.kind.Kind.{Kind}
use Rattle.part_reports.specs.declared.kind.Kind.TheVariants as kind
use Rattle.part_reports.proofs.Listed.{silent}
use Rattle.part_reports.proofs.RunLines.{verdict_no_run}
use Rattle.part_reports.proofs.RunMarks.{in_none, marks_none}
use Rattle.part_reports.proofs.SameLines.{held_line, rows_then, same_line}

-- ---- files without a place

pub off_good : (t : Description) (r : Places) (f : FileEntry) (v : FileVerdict) → has_place t r f ≡ false → CanSay t r f v → v ≡ file.Good
off_good t r f file.Good off can = refl
off_good t r f (file.Bad p) off can = (let on = can.0 in (let x : ⊥ = cc in absurd x))
off_good t r f v off can = (let x : ⊥ = cc in absurd x)

good_runs : (k : Kind) (t : Description) (r : Places) (f : FileEntry) (runs : List Run) → CanMark k t r f file.Good runs → runs ≡ []
good_runs kind.Plain t r f runs can = can
good_runs kind.Marked t r f runs can = can

pub no_runs_of_good : (k : Kind) (t : Description) (r : Places) (f : FileEntry) → CanMark k t r f file.Good []
no_runs_of_good kind.Plain t r f = refl
no_runs_of_good kind.Marked t r f = refl

pub off_silent : (k : Kind) (t : Description) (r : Places) (f : FileEntry) (x : FileVerdict × List Run) → has_place t r f ≡ false → CanSay t r f x.0
    → CanMark k t r f x.0 x.1 → x ≡ silent
off_silent k t r f x off can marks =
    let good = off_good t r f x.0 off can in
    let none = good_runs k t r f x.1 (subst (λ v. CanMark k t r f v x.1) good marks) in
    let pair : FileVerdict → List Run → FileVerdict × List Run = λ v runs. (v, runs) in
    ap₂ pair good none

-- ---- what stands at the front

held_same : (t : Description) (r : Places) (f : FileEntry) (v w : FileVerdict) (xs ys : List ℕ) (held : Bool) → has_place t r f ≡ held
    → IsSmall v → IsSmall w → CanSay t r f v → CanSay t r f w
    → spell text_of (held_rows (has_place t r f) v f) ++ xs ≡ spell text_of (held_rows (has_place t r f) w f) ++ ys → (v ≡ w) × (xs ≡ ys)
held_same t r f v w xs ys true on small short one other is =
    same_line f v w xs ys small short (sym (held_line v f xs) ∙ ap (λ b. spell text_of (held_rows b v f) ++ xs) (sym on) ∙ is
    ∙ ap (λ b. spell text_of (held_rows b w f) ++ ys) on ∙ held_line w f ys)
held_same t r f v w xs ys false off small short one other is = (
  off_good t r f v off one ∙ sym (off_good t r f w off other),
  ap (λ b. spell text_of (held_rows b v f) ++ xs) (sym off) ∙ is ∙ ap (λ b. spell text_of (held_rows b w f) ++ ys) off,
)

-- the lines of a file in front of a text: of one that has a place, and of one that has none
pub on_text : (t : Description) (r : Places) (f : FileEntry) (x : FileVerdict × List Run) (more : List ℕ) → has_place t r f ≡ true
    → spell text_of (marked_rows t r f x.0 x.1) ++ more ≡ text_of (verdict_row x.0 f) ++ (spell text_of (runs_rows t f x.1) ++ more)
on_text t r f x more on =
    ap (λ b. spell text_of (held_rows b x.0 f ++ runs_rows t f x.1) ++ more) on
    ∙ append_assoc (text_of (verdict_row x.0 f)) (spell text_of (runs_rows t f x.1)) more

pub off_text : (t : Description) (r : Places) (f : FileEntry) (x : FileVerdict × List Run) (more : List ℕ) → has_place t r f ≡ false → x.1 ≡ []
    → spell text_of (marked_rows t r f x.0 x.1) ++ more ≡ more
off_text t r f x more off none =
    ap (λ b. spell text_of (held_rows b x.0 f ++ runs_rows t f x.1) ++ more) off ∙ ap (λ rs. spell text_of (runs_rows t f rs) ++ more) none

-- what is told of a file that has a place in the part has small numbers, and of another there are no runs
pub record IsClear (t : Description) (r : Places) (f : FileEntry) (x : FileVerdict × List Run) : Type 0 where
  pub small : IsSmall x.0
  pub off : has_place t r f ≡ false → x.1 ≡ []
  pub runs : AreRunsWithin 0 (piece_count t f) x.1

abbrev pub AreClear : Description → Places → List FileEntry → List (FileVerdict × List Run) → Type 0
AreClear t r fs marked = (n : ℕ) (f : FileEntry) (x : FileVerdict × List Run) → slice_get fs n ≡ Some f → slice_get marked n ≡ Some x → IsClear t r f x

-- so their lines begin with no line of a run
pub files_no_run : (t : Description) (r : Places) (fs : List FileEntry) (marked : List (FileVerdict × List Run)) (end : List ℕ)
    → AreClear t r fs marked → HasNoRun end → HasNoRun (spell text_of (marked_place_rows t r marked fs) ++ end)
files_no_run t r fs [] end clear none = none
files_no_run t r [] (x ∷ marked) end clear none = none
files_no_run t r (f ∷ fs) (x ∷ marked) end clear none =
    subst HasNoRun (sym (rows_then (marked_rows t r f x.0 x.1) (marked_place_rows t r marked fs) end))
    (by_place (has_place t r f) refl (files_no_run t r fs marked end (λ n g y there at. clear (suc n) g y there at) none))
  where
    more : List ℕ
    more = spell text_of (marked_place_rows t r marked fs) ++ end

    by_place : (held : Bool) → has_place t r f ≡ held → HasNoRun more → HasNoRun (spell text_of (marked_rows t r f x.0 x.1) ++ more)
    by_place true on rest =
        subst HasNoRun (sym (on_text t r f x more on))
        (verdict_no_run f x.0 (spell text_of (runs_rows t f x.1) ++ more) (clear 0 f x refl refl).small)
    by_place false off rest = subst HasNoRun (sym (off_text t r f x more off ((clear 0 f x refl refl).off off))) rest

-- ---- one file, read

pub line_of_file : (k : Kind) (t : Description) (r : Places) (f : FileEntry) (text : List ℕ) → BeginsWithFile k t r f text
    → HasLine t r f (has_place t r f) text
line_of_file k t r f text has =
    let told = has.3 in (
      has.0,
      spell text_of (runs_rows t f has.1) ++ has.2,
      record {
        can = told.can;
        is = told.is ∙ rows_then (held_rows (has_place t r f) has.0 f) (runs_rows t f has.1) has.2;
      },
    )

-- what another reading tells, behind the line that was read
pub behind_line : (k : Kind) (t : Description) (r : Places) (f : FileEntry) (text : List ℕ) (v : FileVerdict) (rest : List ℕ) (w : FileVerdict)
    (others : List Run) (more : List ℕ) → IsSmall v → IsSmall w → ReadsLine t r f (has_place t r f) text v rest → TellsOfFile k t r f text w others more
    → (v ≡ w) × (rest ≡ spell text_of (runs_rows t f others) ++ more)
behind_line k t r f text v rest w others more small short line told =
    held_same t r f v w rest (spell text_of (runs_rows t f others) ++ more) (has_place t r f) refl small short line.can told.can
    (sym line.is ∙ told.is ∙ rows_then (held_rows (has_place t r f) w f) (runs_rows t f others) more)

-- a file of a report without runs was read
pub plain_file : (t : Description) (r : Places) (f : FileEntry) (text : List ℕ) (v : FileVerdict) (rest : List ℕ) (bad : BadPieces)
    → ((w : FileVerdict) → CanSay t r f w → IsSmall w) → ReadsLine t r f (has_place t r f) text v rest
    → ReadsFileLine kind.Plain t r f text v rest bad bad
plain_file t r f text v rest bad small line = record {
  runs = [];
  can = line.can;
  can_mark = refl;
  is = line.is ∙ ap (λ rows. spell text_of rows ++ rest) (sym (append-nil (held_rows (has_place t r f) v f)));
  marks = marks_none (IsInRuns f []) bad (in_none f);
  only = λ w others more told.
      let same = behind_line kind.Plain t r f text v rest w others more (small v line.can) (small w told.can) line told in
      (same.0, sym told.can_mark, same.1 ∙ ap (λ rs. spell text_of (runs_rows t f rs) ++ more) told.can_mark);
}

-- nothing is read of a file without a place
pub off_file : (k : Kind) (t : Description) (r : Places) (f : FileEntry) (text : List ℕ) (bad : BadPieces) → has_place t r f ≡ false
    → ReadsFileLine k t r f text file.Good text bad bad
off_file k t r f text bad off = record {
  runs = [];
  can = tt;
  can_mark = no_runs_of_good k t r f;
  is = ap (λ b. spell text_of (held_rows b file.Good f ++ []) ++ text) (sym off);
  marks = marks_none (IsInRuns f []) bad (in_none f);
  only = λ w others rest told.
      let none = off_silent k t r f (w, others) off told.can told.can_mark in (
        ap (λ (x : FileVerdict × List Run). x.0) (sym none),
        ap (λ (x : FileVerdict × List Run). x.1) (sym none),
        told.is ∙ ap (λ (x : FileVerdict × List Run). spell text_of (marked_rows t r f x.0 x.1) ++ rest) none
            ∙ ap (λ b. spell text_of (held_rows b file.Good f ++ []) ++ rest) off,
      );
}

-- a file of a marked report was read
pub marked_file : (t : Description) (r : Places) (f : FileEntry) (text : List ℕ) (v : FileVerdict) (rest more : List ℕ) (old new : BadPieces)
    → ((w : FileVerdict) → CanSay t r f w → IsSmall w) → ReadsLine t r f (has_place t r f) text v rest → ReadsRuns t r f v rest more old new
    → ReadsFileLine kind.Marked t r f text v more old new
marked_file t r f text v rest more old new small line read = record {
  runs = read.runs;
  can = line.can;
  can_mark = read.can;
  is = line.is ∙ ap (λ l. spell text_of (held_rows (has_place t r f) v f) ++ l) read.is
      ∙ sym (rows_then (held_rows (has_place t r f) v f) (runs_rows t f read.runs) more);
  marks = read.marks;
  only = λ w others end told.
      let same = behind_line kind.Marked t r f text v rest w others end (small v line.can) (small w told.can) line told in
      let runs = read.only others end (record {
        can = subst (λ u. CanMark kind.Marked t r f u others) (sym same.0) told.can_mark;
        is = same.1;
        ends = told.ends;
      }) in
      (same.0, runs.0, runs.1);
}

-- and if its runs cannot be read, it is none
pub no_runs_no_file : (t : Description) (r : Places) (f : FileEntry) (text : List ℕ) (v : FileVerdict) (rest : List ℕ)
    → ((w : FileVerdict) → CanSay t r f w → IsSmall w) → ReadsLine t r f (has_place t r f) text v rest → (HasRuns t r f v rest → ⊥)
    → BeginsWithFile kind.Marked t r f text → ⊥
no_runs_no_file t r f text v rest small line none has =
    let told = has.3 in
    let same = behind_line kind.Marked t r f text v rest has.0 has.1 has.2 (small v line.can) (small has.0 told.can) line told in
    none (
      has.1,
      has.2,
      record {
        can = subst (λ u. CanMark kind.Marked t r f u has.1) (sym same.0) told.can_mark;
        is = same.1;
        ends = told.ends;
      },
    )

-- ---- what is told of one file more

pub told_more : (t : Description) (read : List (FileVerdict × List Run)) (i : ℕ) (f : FileEntry) (v : FileVerdict) (runs : List Run) (q : ℕ)
    → slice_get t.files i ≡ Some f → length read ≡ i → IsTold t (read ++ (v, runs) ∷ []) q → IsTold t read q ⊎ IsInRuns f runs q
told_more t read i f v runs q there count told = elim (pushed_at read (v, runs) told.told told.number told.at) [
  | inl before ↦ inl (record {
    number = told.number;
    file = told.file;
    told = told.told;
    there = told.there;
    at = before;
    within = told.within;
  })
  | inr last ↦
      let same : told.file ≡ f = same_Some told.file f (sym told.there ∙ ap (slice_get t.files) (last.0 ∙ count) ∙ there) in
      let runs_is : told.told.1 ≡ runs = ap (λ (x : FileVerdict × List Run). x.1) (sym last.1) in
      inr (subst (λ g. IsInRuns g runs q) same (subst (λ rs. IsInRuns told.file rs q) runs_is told.within))
]

pub more_told : (t : Description) (read : List (FileVerdict × List Run)) (i : ℕ) (f : FileEntry) (v : FileVerdict) (runs : List Run) (q : ℕ)
    → slice_get t.files i ≡ Some f → length read ≡ i → IsTold t read q ⊎ IsInRuns f runs q → IsTold t (read ++ (v, runs) ∷ []) q
more_told t read i f v runs q there count (inl old) = record {
  number = old.number;
  file = old.file;
  told = old.told;
  there = old.there;
  at = item_stays read ((v, runs) ∷ []) old.number old.told old.at;
  within = old.within;
}
more_told t read i f v runs q there count (inr last) = record {
  number = i;
  file = f;
  told = (v, runs);
  there = there;
  at = pushed_last read (v, runs) i (sym count);
  within = last;
}

-- the verdict of what is told of a file
pub said_at : (marked : List (FileVerdict × List Run)) (n : ℕ) (v : FileVerdict) → slice_get (verdicts_of marked) n ≡ Some v
    → (x : FileVerdict × List Run) × (slice_get marked n ≡ Some x) × (x.0 ≡ v)
said_at [] n v at = absurd (none-some v at)
said_at (x ∷ marked) zero v at = (x, refl, same_Some x.0 v at)
said_at (x ∷ marked) (suc n) v at = said_at marked n v at

pub verdict_at : (marked : List (FileVerdict × List Run)) (n : ℕ) (x : FileVerdict × List Run) → slice_get marked n ≡ Some x
    → slice_get (verdicts_of marked) n ≡ Some x.0
verdict_at marked n x at =
    let verdict : FileVerdict × List Run → FileVerdict = λ y. y.0 in
    slice_get-map verdict marked n ∙ ap (option_map verdict) at
