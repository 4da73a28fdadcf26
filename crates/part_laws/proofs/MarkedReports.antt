-- What is read of the texts of marked reports is true of the contents that they are true of.
use Rattle.std.proofs.Common.{◌≡◌, ℕ, Bool, true, false, List, [], ◌∷◌, length, Option, refl, sym, ◌∙◌, subst, arith}
use Rattle.std.proofs.lemmas.List.{length-map}
use Rattle.std.proofs.lemmas.Option.{slice_get_within}
use Rattle.chains.proofs.Cases.{item_at}
use Rattle.opening.specs.Description.{Description, FileEntry}
use Rattle.opening.specs.Sound.{IsSound}
use Rattle.folders.specs.Folder.{Contents}
use Rattle.folders.specs.declared.report.FileVerdict.{FileVerdict}
use Rattle.parts.specs.MarkedChecks.{AreAllMarked}
use Rattle.parts.specs.PartLines.{has_place}
use Rattle.parts.specs.Parts.{IsTruePart, piece_count}
use Rattle.parts.specs.Runs.{AreRunsIn, Run}
use Rattle.parts.specs.Shares.{share}
use Rattle.parts.specs.Telling.{AreMarkedRuns, AreToldRuns, has_runs}
use Rattle.parts.specs.declared.places.Places.{Places}
use Rattle.parts.proofs.HeldPieces.{piece_touches}
use Rattle.parts.proofs.PlaceTests.{touch_to_has}
use Rattle.part_reports.specs.Lines.{CanReportMarked, MarkedPart, part_of}
use Rattle.part_reports.specs.Marks.{AreRunsWithin}
use Rattle.part_reports.specs.Reasons.{IsReportOfKind}
use Rattle.part_reports.specs.declared.kind.Kind.TheVariants as kind
use Rattle.part_reports.proofs.MarkedFiles.{off_silent, verdict_at}
use Rattle.part_reports.proofs.Texts.{IsReadSo, IsToldTrue, read_so, read_true}
use Rattle.part_laws.specs.MarkedTexts.{IsTrueMarkedReport}
use Rattle.part_laws.proofs.RunsApart.{runs_within}

-- ---- true runs

no_runs_off : (t : Description) (r : Places) (f : FileEntry) (content : Option (List ℕ)) (runs : List Run) → has_place t r f ≡ false → (b : Bool)
    → AreToldRuns (AreRunsIn t r f) b content runs → runs ≡ []
no_runs_off t r f content runs off false none = none
no_runs_off t r f content [] off true told = refl
no_runs_off t r f content (x ∷ runs) off true told =
    let one = (told.2.each 0 x refl).0 in
    absurd (one.bad x.first (omega arith) one.order (λ held.
    let on = touch_to_has t r f (piece_touches t r f x.first (omega (arith, one.order, one.inside)) held) in (let x : ⊥ = cc in absurd x)))

told_within : (t : Description) (r : Places) (f : FileEntry) (content : Option (List ℕ)) (runs : List Run) (b : Bool)
    → AreToldRuns (AreRunsIn t r f) b content runs → AreRunsWithin 0 (piece_count t f) runs
told_within t r f content runs false none = subst (AreRunsWithin 0 (piece_count t f)) (sym none) tt
told_within t r f content runs true told =
    runs_within (piece_count t f) 0 (piece_count t f) (piece_count t f) _ runs told.2 (λ i x at. (omega arith, (told.2.each i x at).0.inside))

-- ---- what was read of a true report is true

-- what a part reports is true of these contents
pub record IsTrueMarked (t : Description) (contents : Contents) (m : MarkedPart) : Type 0 where
  pub are_true : IsTruePart t contents (part_of m)
  pub runs : AreAllMarked t m.places contents m.marked

-- its runs are those that a true report tells, where the file has a place, and else there are none
runs_true : (t : Description) (contents : Contents) (m told : MarkedPart) → CanReportMarked kind.Marked t m → length told.marked ≡ length t.files
    → AreAllMarked t told.places contents told.marked → IsReadSo t m told → AreAllMarked t m.places contents m.marked
runs_true t contents m told can count are so n f x there at = by_place (has_place t m.places f) refl
  where
    by_place : (held : Bool) → has_place t m.places f ≡ held → AreMarkedRuns t m.places f (contents n) x.0 x.1
    by_place true on =
        let y = item_at told.marked n (omega (arith, slice_get_within t.files n f there, count)) in
        subst (λ (z : FileVerdict × List Run). AreMarkedRuns t m.places f (contents n) z.0 z.1) (sym (so.files n f x y.0 there at y.1 on))
        (subst (λ r. AreMarkedRuns t r f (contents n) y.0.0 y.0.1) so.places (are n f y.0 there y.1))
    by_place false off =
        let say = can.says.says n f x.0 there (verdict_at m.marked n x at) in
        let is = off_silent kind.Marked t m.places f x off say (can.marks n f x there at) in
        subst (λ (z : FileVerdict × List Run). AreMarkedRuns t m.places f (contents n) z.0 z.1) (sym is) refl

-- what was read of a true report is true
pub read_marked : (t : Description) (contents : Contents) (text : List ℕ) → IsSound t → IsTrueMarkedReport t contents text → (part count : ℕ)
    (report : IsReportOfKind kind.Marked t part count text) → IsTrueMarked t contents report.said
read_marked t contents text sound r part count report =
    let told : MarkedPart = record { places = share t r.part r.count; marked = r.marked; v1 = r.v1 } in
    let is : IsToldTrue kind.Marked t contents r.part r.count text told = record {
      there = r.there;
      small = r.small;
      places = refl;
      are_true = r.are_true;
      runs = λ n f x there at.
          let own = r.runs n f x there at in (
            λ off. no_runs_off t told.places f (contents n) x.1 off (has_runs x.0) own,
            told_within t told.places f (contents n) x.1 (has_runs x.0) own,
          );
      is = r.is;
    } in
    record {
      are_true = read_true kind.Marked t contents r.part r.count text told sound is part count report;
      runs = runs_true t contents report.said told report.can (sym (length-map r.marked (λ x. x.0)) ∙ r.are_true.count) r.runs
          (read_so kind.Marked t contents r.part r.count part count text told sound is report);
    }
