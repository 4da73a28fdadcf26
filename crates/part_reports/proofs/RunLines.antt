-- The lines of runs of bad pieces: no text has two readings.
use Rattle.std.proofs.Common.{◌≡◌, ◌↔◌, ℕ, ◌+◌, ◌-◌, ◌*◌, ◌≤◌, min, Bool, true, false, List, [], ◌∷◌, ◌++◌, length}
use Rattle.std.proofs.Common.{get_or, Option, Some, None, codes, decimal, refl, sym, ap, ap₂, ◌∙◌, subst, append_assoc, arith}
use Rattle.std.specs.Char.{is_ascii_digit}
use Rattle.std.specs.List.{prefix_len}
use Rattle.std.specs.Option.{option_or}
use Rattle.std.proofs.lemmas.Fmt.{decimal_is_IsNumeral}
use Rattle.std.proofs.lemmas.Option.{none-some, same_Some}
use Rattle.lines.specs.Texts.{items_text, text_of}
use Rattle.opening.specs.Description.{Description, FileEntry}
use Rattle.opening.specs.Sound.{IsSound}
use Rattle.folders.specs.Verdicts.{IsFileOf}
use Rattle.folders.specs.declared.report.FileVerdict.{FileVerdict}
use Rattle.folders.specs.declared.report.FileVerdict.TheVariants as file
use Rattle.folders.specs.declared.report.V1Verdict.{V1Verdict}
use Rattle.folders.specs.declared.report.V1Verdict.TheVariants as version1
use Rattle.parts.specs.Parts.{piece_count}
use Rattle.parts.specs.Runs.{Run, run_row, runs_rows}
use Rattle.parts.proofs.SharedPlaces.{few_pieces}
use Rattle.parts.specs.Telling.{has_runs}
use Rattle.parts.specs.declared.places.Places.{Places}
use Rattle.folders.specs.Printed.{verdict_row, version1_rows}
use Rattle.parts.specs.PartLines.{part_answer_row}
use Rattle.lines.specs.Rows.{spell}
use Rattle.part_reports.specs.Lines.{HasNoRun, HasRuns, IsSmall, ReadsRuns}
use Rattle.part_reports.specs.Marks.{AreRunsWithin, BeginsAtBad, CanTell, IsInRuns}
use Rattle.part_reports.specs.RunLines.{HasNumbers, HasOneRun, IsRunWithin, ReadsAll, first_bad}
use Rattle.part_reports.specs.declared.marked_report.BadPieces.{BadPieces}
use Rattle.part_reports.proofs.Fronts.{decimal_digits, front_len}
use Rattle.part_reports.proofs.Heads.{one_number}
use Rattle.part_reports.proofs.RunMarks.{in_none, marks_none}
use Rattle.part_reports.proofs.SameLines.{bad_line, same_rest}

-- ---- the line of a run

pub same_run : (r s : Run) → r.first ≡ s.first → r.last ≡ s.last → r ≡ s
same_run r s first last =
    let run : ℕ → ℕ → Run = λ a b. record { first = a; last = b } in
    ap₂ run first last

-- a text begins with the numbers of one run at most
same_numbers : (n m p q : ℕ) (text : List ℕ) → HasNumbers n m text → HasNumbers p q text → (n ≡ p) × (m ≡ q)
same_numbers n m p q text one other =
    let first = one_number n p 32 32 _ _ one.small other.small refl refl (same_rest (codes "bad pieces ") _ _ (sym one.is ∙ other.is)) in
    (first.0, (one_number m q 32 32 _ _ one.short other.short refl refl (same_rest (32 ∷ []) _ _ first.1)).0)

-- the line of a run, in front of a text
pub run_front : (t : Description) (f : FileEntry) (r : Run) (more : List ℕ) → text_of (run_row t f r) ++ more
    ≡ codes "bad pieces " ++ (decimal (f.first_piece + r.first) ++ 32 ∷ (decimal (f.first_piece + r.last) ++ 32 ∷ (
    codes "bytes " ++ (decimal (t.piece_length * r.first) ++ 45 ∷ (decimal (min (t.piece_length * (r.last + 1)) f.length - 1) ++ 10 ∷ more)))))
unfolding items_text
run_front t f r more = simp append_assoc refl

-- the lines of several
runs_front : (t : Description) (f : FileEntry) (r : Run) (rs : List Run) (more : List ℕ)
    → spell text_of (runs_rows t f (r ∷ rs)) ++ more ≡ text_of (run_row t f r) ++ (spell text_of (runs_rows t f rs) ++ more)
runs_front t f r rs more = append_assoc (text_of (run_row t f r)) (spell text_of (runs_rows t f rs)) more

-- where the next run may begin
abbrev pub next_piece : ℕ → List Run → ℕ
next_piece at [] = at
next_piece at (r ∷ rs) = next_piece (r.last + 2) rs

module _ (t : Description) (f : FileEntry) (to : ℕ) (sound : IsSound t) (own : IsFileOf t f) (le : to ≤ piece_count t f) where
  -- its numbers are those of its pieces
  pub numbers_of : (at : ℕ) (text : List ℕ) → (has : HasOneRun t f at to text)
      → HasNumbers (f.first_piece + has.0.first) (f.first_piece + has.0.last) text
  numbers_of at text has =
      let few = few_pieces t f sound own in
      record {
        small = omega (arith, few, le, has.1.order, has.1.inside);
        short = omega (arith, few, le, has.1.inside);
        more = _;
        is = has.2.1 ∙ run_front t f has.0 has.2.0;
      }

  -- two lines of runs in front of one text are one
  one_run : (at : ℕ) (text : List ℕ) → (one other : HasOneRun t f at to text) → (one.0 ≡ other.0) × (one.2.0 ≡ other.2.0)
  one_run at text one other =
      let numbers = same_numbers _ _ _ _ text (numbers_of at text one) (numbers_of at text other) in
      let same = same_run one.0 other.0 (omega (arith, numbers.0)) (omega (arith, numbers.1)) in
      (same, same_rest (text_of (run_row t f other.0)) _ _ (ap (λ r. text_of (run_row t f r) ++ one.2.0) (sym same) ∙ sym one.2.1 ∙ other.2.1))

  -- runs that were read as long as there was one are all runs
  pub greedy : (at : ℕ) (done others : List Run) (rest more : List ℕ) → AreRunsWithin at to done → AreRunsWithin at to others
      → spell text_of (runs_rows t f done) ++ rest ≡ spell text_of (runs_rows t f others) ++ more → HasNoRun more
      → (HasOneRun t f (next_piece at done) to rest → ⊥) → (done ≡ others) × (rest ≡ more)
  greedy at [] [] rest more are other is ends none = (refl, is)
  greedy at [] (s ∷ ss) rest more are other is ends none =
      absurd (none (s, record { low = other.0; order = other.1; inside = other.2 }, (_, is ∙ runs_front t f s ss more)))
  greedy at (r ∷ rs) [] rest more are other is ends none = absurd (ends (_, sym is ∙ runs_front t f r rs rest ∙ run_front t f r _))
  greedy at (r ∷ rs) (s ∷ ss) rest more are other is ends none =
      let one = one_run at _ (r, record { low = are.0; order = are.1; inside = are.2 }, (_, runs_front t f r rs rest))
      (s, record { low = other.0; order = other.1; inside = other.2 }, (_, is ∙ runs_front t f s ss more)) in
      let later = greedy (r.last + 2) rs ss rest more are.3 (subst (λ (x : Run). AreRunsWithin (x.last + 2) to ss) (sym one.0) other.3) one.1 ends none in
      (ap₂ (λ x xs. x ∷ xs) one.0 later.0, later.1)

-- ---- one run more

pub within_push : (at to : ℕ) (rs : List Run) (r : Run) → AreRunsWithin at to rs → IsRunWithin (next_piece at rs) to r
    → AreRunsWithin at to (rs ++ r ∷ [])
within_push at to [] r are one = (one.low, one.order, one.inside, tt)
within_push at to (x ∷ rs) r are one = (are.0, are.1, are.2, within_push (x.last + 2) to rs r are.3 one)

pub next_push : (at : ℕ) (rs : List Run) (r : Run) → next_piece at (rs ++ r ∷ []) ≡ r.last + 2
next_push at [] r = refl
next_push at (x ∷ rs) r = next_push (x.last + 2) rs r

pub first_push : (f : FileEntry) (rs : List Run) (r : Run)
    → option_or (first_bad f rs) (Some (f.first_piece + r.first)) ≡ first_bad f (rs ++ r ∷ [])
first_push f [] r = refl
first_push f (x ∷ rs) r = refl

-- runs among fewer pieces
pub wider : (from to count : ℕ) (runs : List Run) → to ≤ count → AreRunsWithin from to runs → AreRunsWithin 0 count runs
wider from to count runs le are = ahead from 0 runs (omega arith) are
  where
    ahead : (from at : ℕ) (runs : List Run) → at ≤ from → AreRunsWithin from to runs → AreRunsWithin at count runs
    ahead from at [] low are = tt
    ahead from at (r ∷ rs) low are =
        (omega (arith, low, are.0), are.1, omega (arith, are.2, le), ahead (r.last + 2) (r.last + 2) rs (omega arith) are.3)

-- the first of the bad pieces is the one that the verdict names
pub begins_at : (f : FileEntry) (p : ℕ) (runs : List Run) → (first_bad f runs ≡ Some p) ↔ BeginsAtBad f (file.Bad p) runs
begins_at f p [] = (λ is. absurd (none-some p is), λ begins. absurd (none-some begins.0 begins.1))
begins_at f p (r ∷ rs) = (
  λ is. (r, refl, same_Some (f.first_piece + r.first) p is),
  λ begins. ap Some (ap (λ (x : Run). f.first_piece + x.first) (same_Some r begins.0 begins.1) ∙ begins.2),
)

-- ---- what begins with no line of a run

pub verdict_no_run : (f : FileEntry) (v : FileVerdict) (xs : List ℕ) → IsSmall v → HasNoRun (text_of (verdict_row v f) ++ xs)
unfolding items_text
verdict_no_run f (file.Bad p) xs small begins =
    let behind = same_rest (codes "bad ") _ (codes "pieces " ++ begins.0) (sym (bad_line p f xs) ∙ begins.1) in
    let len : length (decimal p) ≡ 0 = sym (front_len is_ascii_digit (decimal p) 32 _ (decimal_digits p small) refl) ∙ ap (prefix_len is_ascii_digit) behind in
    omega (arith, len, (decimal_is_IsNumeral p small).0.0)
verdict_no_run f v xs small begins = omega (arith, ap (λ l. get_or l 0 0) begins.1)

pub end_no_run : (v1 : Option V1Verdict) (answer : Bool) → HasNoRun (spell text_of (version1_rows v1 ++ part_answer_row answer ∷ []))
unfolding items_text
end_no_run None true begins = omega (arith, ap (λ l. get_or l 0 0) begins.1)
end_no_run None false begins = omega (arith, ap (λ l. get_or l 0 0) begins.1)
end_no_run (Some version1.Good) answer begins = omega (arith, ap (λ l. get_or l 0 0) begins.1)
end_no_run (Some v) answer begins = omega (arith, ap (λ l. get_or l 0 0) begins.1)

-- ---- the runs of a file, read

pub no_runs_read : (t : Description) (r : Places) (f : FileEntry) (v : FileVerdict) (text : List ℕ) (bad : BadPieces) → has_runs v ≡ false
    → ReadsRuns t r f v text text bad bad
no_runs_read t r f v text bad off = record {
  runs = [];
  can = subst (λ b. CanTell t r f v b []) (sym off) refl;
  is = refl;
  marks = marks_none (IsInRuns f []) bad (in_none f);
  only = λ others rest told.
      let none : others ≡ [] = subst (λ b. CanTell t r f v b others) off told.can in
      (sym none, told.is ∙ ap (λ rs. spell text_of (runs_rows t f rs) ++ rest) none);
}

module _ (t : Description) (r : Places) (f : FileEntry) (v : FileVerdict) (text more : List ℕ) (first : Option ℕ) (old new : BadPieces)
    (on : has_runs v ≡ true) (all : ReadsAll t r f text first more old new) where
  pub all_read : BeginsAtBad f v all.runs → ReadsRuns t r f v text more old new
  all_read begins = record {
    runs = all.runs;
    can = subst (λ b. CanTell t r f v b all.runs) (sym on) (all.are, begins);
    is = all.is;
    marks = all.marks;
    only = λ others rest told. all.only others rest (subst (λ b. CanTell t r f v b others) on told.can).0 told.is told.ends;
  }

  pub not_begun : (BeginsAtBad f v all.runs → ⊥) → HasRuns t r f v text → ⊥
  not_begun none has =
      let can = subst (λ b. CanTell t r f v b has.0) on has.2.can in
      none (subst (BeginsAtBad f v) (sym (all.only has.0 has.1 can.0 has.2.is has.2.ends).0) can.1)
