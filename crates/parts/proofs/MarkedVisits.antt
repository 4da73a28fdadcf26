-- The visits of the check of a part that prints the bad pieces of its files, as the check says them.
use Rattle.std.proofs.Common.{◌≡◌, ◌∙◌, ℕ, zero, suc, ◌+◌, List, [], ◌∷◌, ◌++◌, arith}
use Rattle.std.proofs.Common.{slice_get, Option, Some, Result, refl, ap, subst, sym}
use Rattle.std.proofs.lemmas.Option.{none-some, same_Some}
use Rattle.std.proofs.lemmas.Grind.{flat_map-append}
use Rattle.benc.proofs.Known.{Appends_nothing}
use Rattle.benc.proofs.Out.{Sent-append}
use Rattle.benc.specs.Device.{Sent, SentAndFlushed, SinkSeen, SourceSeen}
use Rattle.benc.specs.declared.device.DeviceFault.{DeviceFault}
use Rattle.chains.specs.Chain.{Chain}
use Rattle.lines.specs.Rows.{Row, Spelling, spell}
use Rattle.opening.specs.Description.{Description, FileEntry}
use Rattle.folders.specs.Folder.{Contents}
use Rattle.folders.specs.declared.report.FileVerdict.{FileVerdict}
use Rattle.folders.specs.declared.report.V1Verdict.{V1Verdict}
use Rattle.folders.specs.declared.shelf.Shelf.{Ghosts}
use Rattle.parts.specs.Checking.{shelf_and_sink}
use Rattle.parts.specs.MarkedChecks.{ChecksMarkedPart, SaysMarked}
use Rattle.parts.specs.MarkedLines.{marked_head_row, marked_place_rows, marked_rows, verdicts_of}
use Rattle.parts.specs.PartLines.{part_end_rows}
use Rattle.parts.specs.Parts.{IsTruePart}
use Rattle.parts.specs.Runs.{Run}
use Rattle.parts.specs.Shares.{share}
use Rattle.parts.specs.Telling.{AreMarkedRuns, Tells}
use Rattle.parts.specs.Visiting.{VisitsAll, VisitsOne, part_visiting, verdicts_in}
use Rattle.parts.specs.declared.places.Places.{Places}
use Rattle.parts.specs.declared.telling.Telling.{Telling}
use Rattle.parts.specs.declared.telling.Telling.TheVariants as telling
use Rattle.parts.proofs.Reported.{at_next, flushed_after}
use Rattle.parts.proofs.ToldFirst.{verdicts_say}

module _ {S F : Type 0} (spelled : Spelling) (shelf : Ghosts S F) (opens_at : S → List (List ℕ) → ℕ → Result (Option F) DeviceFault → S → Type 0)
    (seen : F → SourceSeen) (t : Description) (r : Places) where
  -- the runs of one file more
  runs_more : (contents : Contents) (f : FileEntry) (fs : List FileEntry) (y : FileVerdict × List Run) (ys : List (FileVerdict × List Run))
      → AreMarkedRuns t r f (contents 0) y.0 y.1
      → ((n : ℕ) (g : FileEntry) (z : FileVerdict × List Run) → slice_get fs n ≡ Some g → slice_get ys n ≡ Some z
      → AreMarkedRuns t r g (contents (n + 1)) z.0 z.1)
      → (n : ℕ) (g : FileEntry) (z : FileVerdict × List Run) → slice_get (f ∷ fs) n ≡ Some g → slice_get (y ∷ ys) n ≡ Some z
      → AreMarkedRuns t r g (contents n) z.0 z.1
  runs_more contents f fs y ys here later zero g z there is =
      subst (λ h. AreMarkedRuns t r h (contents 0) z.0 z.1) (same_Some f g there)
      (subst (λ (w : FileVerdict × List Run). AreMarkedRuns t r f (contents 0) w.0 w.1) (same_Some y z is) here)
  runs_more contents f fs y ys here later (suc n) g z there is =
      let e : n + 1 ≡ suc n = omega arith in
      subst (λ m. AreMarkedRuns t r g (contents m) z.0 z.1) e (later n g z there is)

  -- the lines of some files went out, with the runs that were told of
  record SaidMarks (contents : Contents) (fs : List FileEntry) (told : List (FileVerdict × List ℕ)) (old new : SinkSeen) : Type 0 where
    marked : List (FileVerdict × List Run)
    same : verdicts_of marked ≡ verdicts_in told
    runs : (n : ℕ) (f : FileEntry) (x : FileVerdict × List Run) → slice_get fs n ≡ Some f → slice_get marked n ≡ Some x
        → AreMarkedRuns t r f (contents n) x.0 x.1
    went : Sent old new (spell spelled (marked_place_rows t r marked fs))

  said_marks : (contents : Contents) (old : S × SinkSeen) (fs : List FileEntry) (told : List (FileVerdict × List ℕ)) (new : S × SinkSeen)
      → Chain (VisitsOne (part_visiting shelf opens_at seen r t)) old fs told new
      → ((n : ℕ) (f : FileEntry) (x : FileVerdict × List ℕ) → slice_get fs n ≡ Some f → slice_get told n ≡ Some x
      → Tells spelled t (telling.RunsIn r) f (contents n) x.0 x.1)
      → SaidMarks contents fs told old.1 new.1
  said_marks contents old [] [] new e each = record {
    marked = [];
    same = refl;
    runs = λ n f x there is. absurd (none-some x is);
    went = subst (λ (x : S × SinkSeen). Sent old.1 x.1 []) (sym e) (record { bytes = Appends_nothing old.1.written; faults = refl; flushes = refl });
  }
  said_marks contents old [] (x ∷ xs) new e each = absurd e
  said_marks contents old (f ∷ fs) [] new e each = absurd e
  said_marks contents old (f ∷ fs) (x ∷ xs) new (mid, step, rest) each =
      let here = each 0 f x refl refl in
      let later = said_marks (λ n. contents (n + 1)) mid fs xs new rest
      (λ n g y there is. each (n + 1) g y (at_next fs f n ∙ there) (at_next xs x n ∙ is)) in
      record {
        marked = (x.0, here.0) ∷ later.marked;
        same = ap (λ vs. x.0 ∷ vs) later.same;
        runs = runs_more contents f fs (x.0, here.0) later.marked here.1 later.runs;
        went = subst (Sent old.1 new.1) (sym (flat_map-append spelled (marked_rows t r f x.0 here.0) (marked_place_rows t r later.marked fs)))
            (Sent-append old.1 mid.1 new.1 (spell spelled (marked_rows t r f x.0 here.0)) (spell spelled (marked_place_rows t r later.marked fs))
            (subst (Sent old.1 mid.1) here.2 step.told) later.went);
      }

-- the verdicts are true of the contents that were found
pub true_of_contents : {S F : Type 0} (shelf : Ghosts S F) (opens_at : S → List (List ℕ) → ℕ → Result (Option F) DeviceFault → S → Type 0)
    (seen : F → SourceSeen) (r : Places) (t : Description) (spelled : Spelling) (telling : Telling) (files : List FileVerdict) (v1 : Option V1Verdict)
    (old new : S × SinkSeen) → (all : VisitsAll (part_visiting shelf opens_at seen r t) spelled t telling files v1 old new)
    → IsTruePart t all.contents (record { places = r; files = files; v1 = v1 })
true_of_contents shelf opens_at seen r t spelled telling files v1 old new all = record {
  count = all.has.count;
  hybrid = all.has.hybrid;
  checked = all.has.checked;
  each = verdicts_say (part_visiting shelf opens_at seen r t) spelled t telling files v1 old new all;
  version1 = all.version1;
}

-- the whole report went out
pub marked_prints : {S F : Type 0} (spelled : Spelling) (shelf : Ghosts S F) (opens_at : S → List (List ℕ) → ℕ → Result (Option F) DeviceFault → S → Type 0)
    (seen : F → SourceSeen) (t : Description) (part parts : ℕ) (verdicts : List FileVerdict) (v1 : Option V1Verdict) (old new : S × SinkSeen)
    → ChecksMarkedPart spelled shelf opens_at seen t part parts verdicts v1 old new
    → SaysMarked spelled t part parts (shelf.contents old.0).under verdicts v1 old.1 new.1
marked_prints spelled shelf opens_at seen t part parts verdicts v1 old new checks =
    let r : Places = share t part parts in
    let begun = shelf_and_sink old.0 checks.all.begun in
    let done = shelf_and_sink new.0 checks.mid in
    let files = checks.all.files in
    let said = said_marks spelled shelf opens_at seen t r files.contents begun t.files files.told done files.visited
    (λ n f x there is. (files.each n f x there is).1) in
    let lines : List Row = marked_place_rows t r said.marked t.files in
    let last : List Row = part_end_rows (verdicts_of said.marked) v1 in
    let same : verdicts_of said.marked ≡ verdicts = said.same ∙ files.verdicts_are in
    let end = subst (λ vs. SentAndFlushed checks.mid new.1 (spell spelled (part_end_rows vs v1))) (sym same) checks.end in
    record {
      are_true = record {
        contents = files.contents;
        agree = files.agree;
        are_true = true_of_contents shelf opens_at seen r t spelled (telling.RunsIn r) verdicts v1 begun done files;
      };
      marked = said.marked;
      verdicts_are = same;
      runs = said.runs;
      went = flushed_after old.1 checks.all.begun new.1 (spelled (marked_head_row t part parts)) (spell spelled (lines ++ last)) checks.all.head
          (subst (SentAndFlushed checks.all.begun new.1) (sym (flat_map-append spelled lines last))
          (flushed_after checks.all.begun checks.mid new.1 (spell spelled lines) (spell spelled last) said.went end));
    }
