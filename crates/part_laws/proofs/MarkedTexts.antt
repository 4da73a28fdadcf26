-- What a join of marked reports prints is what a check prints that tells of bad pieces.
use Rattle.std.proofs.Common.{◌≡◌, ◌⊎◌, inl, inr, ℕ, zero, suc, ◌+◌, ◌<◌, ◌≤◌, Bool, true, false, List, [], ◌∷◌, ◌++◌, length, map, slice_get}
use Rattle.std.proofs.Common.{Option, Some, option_map, refl, sym, ap, ◌∙◌, subst, unwrap_or, arith}
use Rattle.std.specs.Prelude.{◌↔◌}
use Rattle.std.proofs.lemmas.Grind.{flat_map-append}
use Rattle.std.proofs.lemmas.Option.{none-some, same_Some, slice_get-map, slice_get_within}
use Rattle.chains.proofs.Cases.{item_at}
use Rattle.lines.specs.Rows.{Row, spell}
use Rattle.lines.specs.Texts.{text_of}
use Rattle.opening.specs.Description.{Description, FileEntry}
use Rattle.opening.specs.Sound.{IsSound}
use Rattle.folders.specs.Folder.{Contents}
use Rattle.folders.specs.Printed.{end_rows, verdict_row}
use Rattle.folders.specs.declared.report_lines.Lines.TheVariants as lines
use Rattle.folders.specs.declared.report.FileVerdict.{FileVerdict}
use Rattle.folders.specs.declared.report.FileVerdict.TheVariants as file
use Rattle.parts.specs.Joins.{NoWorse, says_of}
use Rattle.parts.specs.Laws.{PartsMakeTheReport}
use Rattle.parts.specs.MarkedLines.{verdicts_of}
use Rattle.parts.specs.Parts.{Holds, IsPartVerdict, IsTruePart, PartReport, piece_count}
use Rattle.parts.specs.RowBits.{HasGoodPiece}
use Rattle.parts.specs.Runs.{AreRunsIn, AreRunsOf, IsInOne, Run, runs_rows}
use Rattle.parts.specs.Telling.{AreToldRuns, has_runs, line_and_runs}
use Rattle.parts.specs.Visiting.{AreTold, verdicts_in}
use Rattle.parts.specs.declared.places.Places.{Places}
use Rattle.parts.specs.declared.telling.Telling.TheVariants as telling
use Rattle.parts.proofs.HeldPieces.{piece_touches}
use Rattle.parts.proofs.Runs.{same_runs}
use Rattle.parts.proofs.Streams.{place_of_piece}
use Rattle.part_reports.specs.Joined.{report_text_of}
use Rattle.part_reports.specs.Lines.{MarkedPart, part_of}
use Rattle.part_reports.specs.MarkedJoins.{AreJoinedAs}
use Rattle.part_reports.specs.Marks.{IsPieceMarked}
use Rattle.part_reports.specs.WholeLines.{AreShown, IsNotBad, ShowsAll, whole_lines_rows}
use Rattle.part_reports.specs.declared.kind.Kind.TheVariants as kind
use Rattle.part_reports.specs.declared.marked_report.MarkedReport.{MarkedReport}
use Rattle.part_reports.proofs.MarkedFiles.{said_at, verdict_at}
use Rattle.part_reports.proofs.Reports.{read_report}
use Rattle.part_reports.proofs.RunMarks.{in_none}
use Rattle.part_reports.proofs.TextReads.{part_at}
use Rattle.part_laws.specs.MarkedTexts.{AreTrueMarkedReports, JoinPrintsTheCheck, JoinedRunsAreTheChecks, all_told}
use Rattle.part_laws.proofs.MarkedPieces.{good_in, good_or_not, one_file}
use Rattle.part_laws.proofs.MarkedReports.{IsTrueMarked, read_marked}

-- ---- verdicts

-- a part whose verdict is no worse than one that has runs calls the file good, or has runs too
good_or_runs : (v w : FileVerdict) → has_runs w ≡ true → NoWorse v w → (v ≡ file.Good) ⊎ (has_runs v ≡ true)
good_or_runs file.Good w on no_worse = inl refl
good_or_runs (file.Bad q) w on no_worse = inr refl
good_or_runs file.WrongLength w on no_worse = inr refl
good_or_runs v (file.Bad p) on no_worse = absurd no_worse
good_or_runs v file.WrongLength on no_worse = absurd no_worse
good_or_runs v w on no_worse = let no : ⊥ = cc in absurd no

-- a file with such a verdict has a content
has_content : (t : Description) (r : Places) (f : FileEntry) (content : Option (List ℕ)) (v : FileVerdict) → has_runs v ≡ true
    → IsPartVerdict t r f content v → (bytes : List ℕ) × (content ≡ Some bytes)
has_content t r f content file.WrongLength on is = (is.0, is.1)
has_content t r f content (file.Bad p) on is = (is.0, is.1)
has_content t r f content v on is = let no : ⊥ = cc in absurd no

module _ (t : Description) (contents : Contents) (texts : List (List ℕ)) (joined : MarkedReport) (sound : IsSound t)
    (are : AreTrueMarkedReports t contents texts) (j : AreJoinedAs kind.Marked t texts joined)
  where
    part_true : (i : ℕ) (m : MarkedPart) → slice_get j.verdicts.parts i ≡ Some m → IsTrueMarked t contents m
    part_true i m at =
        let v = j.verdicts in
        let read = v.are i m at in
        let said : List ℕ = report_text_of kind.Marked t i (length v.parts) m in
        read_marked t contents said sound (are read.number said read.there) i (length v.parts)
        (read_report kind.Marked t texts i (length v.parts) m (slice_get_within v.parts i m at) v.small read)

    pub report_true : (i : ℕ) (p : PartReport) → slice_get (map part_of j.verdicts.parts) i ≡ Some p → IsTruePart t contents p
    report_true i p at =
        let m = part_at j.verdicts.parts i p at in
        subst (IsTruePart t contents) m.2 (part_true i m.0 m.1).are_true

    -- ---- one file

    module _ (n : ℕ) (f : FileEntry) (v : FileVerdict) (there : slice_get t.files n ≡ Some f) (said : slice_get joined.report.files.items n ≡ Some v)
        (on : has_runs v ≡ true)
      where
        -- what a part tells of it
        told_at : (m : MarkedPart) → IsTrueMarked t contents m → (x : FileVerdict × List Run) × (slice_get m.marked n ≡ Some x)
        told_at m is =
            let v = item_at (verdicts_of m.marked) n (omega (arith, slice_get_within t.files n f there, is.are_true.count)) in
            let x = said_at m.marked n v.0 v.1 in
            (x.0, x.1)

        says_it : (m : MarkedPart) (x : FileVerdict × List Run) → slice_get m.marked n ≡ Some x → says_of n (part_of m) ≡ x.0
        says_it m x at = ap (λ o. unwrap_or o file.Good) (verdict_at m.marked n x at)

        content_is : (bytes : List ℕ) × (contents n ≡ Some bytes)
        content_is = elim ((j.verdicts.join.each n v said).one) [
          | inl best ↦ let no : false ≡ true = ap has_runs (sym best) ∙ on in (let x : ⊥ = cc in absurd x)
          | inr one ↦
              let p = report_true one.0 one.1 one.2 in
              let w = item_at one.1.files n (omega (arith, slice_get_within t.files n f there, p.count)) in
              let same : w.0 ≡ v = sym (ap (λ o. unwrap_or o file.Good) w.1) ∙ one.3 in
              has_content t one.1.places f (contents n) v on (subst (IsPartVerdict t one.1.places f (contents n)) same (p.each n f w.0 there w.1))
        ]

        -- ---- one piece

        module _ (bytes : List ℕ) (is : contents n ≡ Some bytes) (k : ℕ) (lt : k < piece_count t f) where
          -- a piece in one of the runs of a part is bad
          in_runs_bad : (r : Places) (runs : List Run) (b : Bool) → AreToldRuns (AreRunsIn t r f) b (contents n) runs → IsInOne runs k
              → HasGoodPiece t f bytes k → ⊥
          in_runs_bad r runs false none inside good =
              in_none f (f.first_piece + k) (k, refl, subst (λ rs. IsInOne rs k) none inside)
          in_runs_bad r runs true told inside good =
              let one = (told.2.each inside.0 inside.1 inside.2).0 in
              one.bad k inside.3 inside.4 (λ held. subst (λ b. HasGoodPiece t f b k) (same_Some bytes told.0 (sym is ∙ told.1)) good)

          -- how many pieces a run reaches to
          run_within : (r : Places) (g : FileEntry) (m : ℕ) (runs : List Run) (i : ℕ) (b : Bool) → AreToldRuns (AreRunsIn t r g) b (contents m) runs
              → IsInOne runs i → i < piece_count t g
          run_within r g m runs i false none inside =
              absurd (in_none g (g.first_piece + i) (i, refl, subst (λ rs. IsInOne rs i) none inside))
          run_within r g m runs i true told inside =
              let one = (told.2.each inside.0 inside.1 inside.2).0 in
              omega (arith, one.inside, inside.4)

          -- a marked piece is bad
          marked_bad : IsPieceMarked joined.bad (f.first_piece + k) → HasGoodPiece t f bytes k → ⊥
          marked_bad mark good =
              let by = (j.marks (f.first_piece + k)).0 mark in
              let told = by.told in
              let runs = (part_true by.number by.part by.there).runs told.number told.file told.told told.there told.at in
              let i : ℕ = told.within.0 in
              let i_lt = run_within by.part.places told.file told.number told.told.1 i (has_runs told.told.0) runs told.within.2 in
              let here : told.number ≡ n = one_file t n told.number f told.file k i sound there told.there lt i_lt told.within.1 in
              let same : told.file ≡ f = same_Some told.file f (sym told.there ∙ ap (slice_get t.files) here ∙ there) in
              let piece : i ≡ k = omega (arith, told.within.1, ap (λ (g : FileEntry). g.first_piece) same) in
              let runs_here = subst (λ m. AreToldRuns (AreRunsIn t by.part.places f) (has_runs told.told.0) (contents m) told.told.1) here
              (subst (λ g. AreToldRuns (AreRunsIn t by.part.places g) (has_runs told.told.0) (contents told.number) told.told.1) same runs) in
              in_runs_bad by.part.places told.told.1 (has_runs told.told.0) runs_here (subst (IsInOne told.told.1) piece told.within.2) good

          -- the part that has it among its places tells of it, if it is bad
          bad_told : (i : ℕ) (m : MarkedPart) → slice_get j.verdicts.parts i ≡ Some m → Holds m.places (f.first_piece + k)
              → (HasGoodPiece t f bytes k → ⊥) → IsPieceMarked joined.bad (f.first_piece + k)
          bad_told i m at held bad =
              let true_part = part_true i m at in
              let x = told_at m true_part in
              let verdict = true_part.are_true.each n f x.0.0 there (verdict_at m.marked n x.0 x.1) in
              by_verdict true_part x.0 x.1 verdict (good_or_runs x.0.0 v on (subst (λ w. NoWorse w v) (says_it m x.0 x.1)
              ((j.verdicts.join.each n v said).no_worse i (part_of m)
              (slice_get-map part_of j.verdicts.parts i ∙ ap (option_map part_of) at))))
            where
              told_in : (x : FileVerdict × List Run) → slice_get m.marked n ≡ Some x → IsInOne x.1 k → IsPieceMarked joined.bad (f.first_piece + k)
              told_in x x_at inside = (j.marks (f.first_piece + k)).1 (record {
                number = i;
                part = m;
                there = at;
                told = record { number = n; file = f; told = x; there = there; at = x_at; within = (k, refl, inside) };
              })

              by_verdict : IsTrueMarked t contents m → (x : FileVerdict × List Run) → slice_get m.marked n ≡ Some x
                  → IsPartVerdict t m.places f (contents n) x.0 → (x.0 ≡ file.Good) ⊎ (has_runs x.0 ≡ true) → IsPieceMarked joined.bad (f.first_piece + k)
              by_verdict true_part x x_at verdict (inl best) =
                  let found = (subst (IsPartVerdict t m.places f (contents n)) best verdict) (piece_touches t m.places f k lt held) in
                  let own = good_in t n f sound there k lt m.places found.0 found.2 held in
                  let good = subst (λ b. HasGoodPiece t f b k) (same_Some found.0 bytes (sym found.1 ∙ is)) own in
                  absurd (bad good)
              by_verdict true_part x x_at verdict (inr has) =
                  let told = subst (λ b. AreToldRuns (AreRunsIn t m.places f) b (contents n) x.1) has (true_part.runs n f x there x_at) in
                  let same : told.0 ≡ bytes = same_Some told.0 bytes (sym told.1 ∙ is) in
                  told_in x x_at (told.2.all k lt (λ good. bad (subst (λ b. HasGoodPiece t f b k) same (good held))))

          -- so it is marked exactly if it is bad
          pub unmarked_good : IsNotBad joined.bad f k ↔ HasGoodPiece t f bytes k
          unmarked_good = (
            λ unmarked. elim (good_or_not t n f sound there k lt bytes) [
              | inl good ↦ good
              | inr bad ↦
                  let place = j.verdicts.all (f.first_piece + k) (place_of_piece t n f (f.first_piece + k) sound there (omega (arith, lt))) in
                  let m = part_at j.verdicts.parts place.0 place.1 place.2 in
                  absurd (unmarked (bad_told place.0 m.0 m.1 (subst (λ (p : PartReport). Holds p.places (f.first_piece + k)) (sym m.2) place.3) bad))
            ],
            λ good mark. marked_bad mark good,
          )

        -- the runs of marked pieces are those of bad ones
        pub shown_runs : (runs : List Run) → AreShown t joined.bad f true runs → AreToldRuns (AreRunsOf t f) true (contents n) runs
        shown_runs runs shown =
            let c = content_is in
            let all : piece_count t f ≤ piece_count t f = omega arith in (
              c.0,
              c.1,
              same_runs (piece_count t f) (piece_count t f) (IsNotBad joined.bad f) (HasGoodPiece t f c.0) runs all
                  (λ k lt. unmarked_good c.0 c.1 k lt) shown,
            )

    -- ---- all files

    by_runs : (n : ℕ) (f : FileEntry) (v : FileVerdict) (runs : List Run) → slice_get t.files n ≡ Some f
        → slice_get joined.report.files.items n ≡ Some v → (b : Bool) → has_runs v ≡ b → AreShown t joined.bad f b runs
        → AreToldRuns (AreRunsOf t f) b (contents n) runs
    by_runs n f v runs there said true on shown = shown_runs n f v there said on runs shown
    by_runs n f v runs there said false off shown = shown

    pub runs_are : (marked : List (FileVerdict × List Run)) → ShowsAll t joined marked → (n : ℕ) (f : FileEntry) (x : FileVerdict × List Run)
        → slice_get t.files n ≡ Some f → slice_get marked n ≡ Some x → AreToldRuns (AreRunsOf t f) (has_runs x.0) (contents n) x.1
    runs_are marked shows n f x there at =
        let said : slice_get joined.report.files.items n ≡ Some x.0 = ap (λ vs. slice_get vs n) (sym shows.verdicts) ∙ verdict_at marked n x at in
        by_runs n f x.0 x.1 there said (has_runs x.0) refl (shows.runs n f x there at)

pub joined_runs : JoinedRunsAreTheChecks
joined_runs t contents texts joined marked sound are j shows = runs_are t contents texts joined sound are j marked shows

-- ---- the text

-- what is told of a file: its line and those of its runs
abbrev told_file : Description → FileEntry → FileVerdict → List Run → List ℕ
told_file t f v runs = spell text_of (line_and_runs t lines.All f v runs)

-- what is told of each file
told_of : Description → List (FileVerdict × List Run) → List FileEntry → List (FileVerdict × List ℕ)
told_of t [] fs = []
told_of t (x ∷ xs) [] = (x.0, []) ∷ told_of t xs []
told_of t (x ∷ xs) (f ∷ fs) = (x.0, told_file t f x.0 x.1) ∷ told_of t xs fs

told_verdicts : (t : Description) (xs : List (FileVerdict × List Run)) (fs : List FileEntry) → verdicts_in (told_of t xs fs) ≡ verdicts_of xs
unfolding told_of
told_verdicts t [] fs = refl
told_verdicts t (x ∷ xs) [] = ap (λ vs. x.0 ∷ vs) (told_verdicts t xs [])
told_verdicts t (x ∷ xs) (f ∷ fs) = ap (λ vs. x.0 ∷ vs) (told_verdicts t xs fs)

nothing_left : (t : Description) (xs : List (FileVerdict × List Run)) → all_told (told_of t xs []) ≡ []
unfolding told_of
nothing_left t [] = refl
nothing_left t (x ∷ xs) = nothing_left t xs

told_text : (t : Description) (xs : List (FileVerdict × List Run)) (fs : List FileEntry)
    → spell text_of (whole_lines_rows t xs fs) ≡ all_told (told_of t xs fs)
unfolding told_of
told_text t [] fs = refl
told_text t (x ∷ xs) [] = sym (nothing_left t xs)
told_text t (x ∷ xs) (f ∷ fs) =
    let own : List Row = verdict_row x.0 f ∷ runs_rows t f x.1 in
    flat_map-append text_of own (whole_lines_rows t xs fs) ∙ ap (λ l. spell text_of own ++ l) (told_text t xs fs)

-- at a file's place stands what is told of it
told_there : (t : Description) (xs : List (FileVerdict × List Run)) (fs : List FileEntry) (n : ℕ) (f : FileEntry) (y : FileVerdict × List ℕ)
    → slice_get fs n ≡ Some f → slice_get (told_of t xs fs) n ≡ Some y
    → (x : FileVerdict × List Run) × (slice_get xs n ≡ Some x) × (x.0 ≡ y.0) × (y.1 ≡ told_file t f x.0 x.1)
unfolding told_of
told_there t [] fs n f y there at = absurd (none-some y at)
told_there t (x ∷ xs) [] n f y there at = absurd (none-some f there)
told_there t (x ∷ xs) (g ∷ fs) zero f y there at =
    let one : FileVerdict × List ℕ = (x.0, told_file t g x.0 x.1) in
    let same : one ≡ y = same_Some one y at in (
      x,
      refl,
      ap (λ (z : FileVerdict × List ℕ). z.0) same,
      sym (ap (λ (z : FileVerdict × List ℕ). z.1) same) ∙ ap (λ (h : FileEntry). told_file t h x.0 x.1) (same_Some g f there),
    )
told_there t (x ∷ xs) (g ∷ fs) (suc n) f y there at = told_there t xs fs n f y there at

all_tell : (t : Description) (contents : Contents) (marked : List (FileVerdict × List Run))
    → ((n : ℕ) (f : FileEntry) (x : FileVerdict × List Run) → slice_get t.files n ≡ Some f → slice_get marked n ≡ Some x
    → AreToldRuns (AreRunsOf t f) (has_runs x.0) (contents n) x.1)
    → AreTold text_of t (telling.LineAndRuns lines.All) contents (told_of t marked t.files)
all_tell t contents marked runs n f y there at =
    let x = told_there t marked t.files n f y there at in (
      x.0.1,
      subst (λ v. AreToldRuns (AreRunsOf t f) (has_runs v) (contents n) x.0.1) x.2 (runs n f x.0 there x.1),
      x.3 ∙ ap (λ v. told_file t f v x.0.1) x.2,
    )

pub join_prints : PartsMakeTheReport → JoinPrintsTheCheck
join_prints law t contents texts joined marked sound are j shows = elim (law t contents (map part_of j.verdicts.parts) joined.report.files.items
    joined.report.v1 sound j.verdicts.all (report_true t contents texts joined sound are j) j.verdicts.join) [
      | inr other ↦ inr other
      | inl report ↦ inl (record {
        report = report;
        told = told_of t marked t.files;
        verdicts_are = told_verdicts t marked t.files ∙ shows.verdicts;
        tells = all_tell t contents marked (joined_runs t contents texts joined marked sound are j shows);
        is = flat_map-append text_of (whole_lines_rows t marked t.files) (end_rows lines.All joined.report.files.items joined.report.v1)
            ∙ ap (λ l. l ++ spell text_of (end_rows lines.All joined.report.files.items joined.report.v1)) (told_text t marked t.files);
      })
    ]
