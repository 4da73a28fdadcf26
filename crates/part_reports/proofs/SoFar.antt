-- The lines of a part's files, read and joined up to some file.
use Rattle.std.proofs.Common.{◌≡◌, ℕ, zero, suc, ◌+◌, ◌<◌, ◌≤◌, ◌&&◌, List, [], ◌∷◌}
use Rattle.std.proofs.Common.{◌++◌, length, take, drop, set, slice_get}
use Rattle.std.proofs.Common.{Option, Some, is_some, inl, inr, refl, sym, ap, ap₂, ◌∙◌, subst, append-nil, arith}
use Rattle.std.specs.List.{list_all}
use Rattle.std.proofs.lemmas.Grind.{flat_map-append}
use Rattle.std.proofs.lemmas.List.{drop_all, drop_more, length-append, length-map, length-set, map-append}
use Rattle.std.proofs.lemmas.List.{set-get_or, take_all, take_more}
use Rattle.std.proofs.lemmas.Option.{none-some, same_Some, slice_get_within, get_or_from_slice_get}
use Rattle.chains.proofs.Cases.{item_at}
use Rattle.opening.proofs.SoundTrees.{push_at}
use Rattle.opening.specs.Description.{Description, FileEntry}
use Rattle.opening.specs.Sound.{IsSound}
use Rattle.folders.specs.Verdicts.{is_good, is_whole, is_yes, stream_is_good}
use Rattle.folders.specs.declared.report.FileVerdict.{FileVerdict}
use Rattle.folders.specs.declared.report.FileVerdict.TheVariants as file
use Rattle.folders.specs.declared.report.V1Verdict.{V1Verdict}
use Rattle.parts.specs.MarkedLines.{marked_place_rows, marked_rows, verdicts_of}
use Rattle.parts.specs.Runs.{Run}
use Rattle.parts.specs.Worse.{worse, worse_v1}
use Rattle.parts.specs.declared.places.Places.{Places}
use Rattle.folders.specs.Printed.{version1_rows}
use Rattle.parts.specs.PartLines.{part_answer_row, part_end_rows}
use Rattle.folders.proofs.SentLines.{spelled_push}
use Rattle.lines.specs.Rows.{Row, spell}
use Rattle.lines.specs.Texts.{text_of}
use Rattle.part_reports.specs.Lines.{AreOff, BeginsWithFile, HasEnd, HasLines, JoinsLines, ReadsEnd, ReadsFileLine}
use Rattle.part_reports.specs.Marks.{CanMark, IsInRuns, IsTold, MarksMore}
use Rattle.part_reports.specs.Reported.{CanSay}
use Rattle.part_reports.specs.declared.marked_report.BadPieces.{BadPieces}
use Rattle.part_reports.specs.declared.kind.Kind.{Kind}
use Rattle.part_reports.specs.declared.marked_report.MarkedReport.{MarkedReport}
use Rattle.part_reports.proofs.Listed.{all_more, good_worse}
use Rattle.part_reports.proofs.Listed.{split_marked, whole_worse, worse_good}
use Rattle.part_reports.proofs.MarkedFiles.{more_told, off_file, said_at, told_more}
use Rattle.part_reports.proofs.Readings.{Reading, at_other, at_same, counted, end_of, left_of, next_told, reading_of}
use Rattle.part_reports.proofs.RunMarks.{marks_both, marks_none}
use Rattle.part_reports.proofs.SameLines.{rows_then}

-- What is told of the first files was read and joined: this is the worst verdict, and this follows. Nothing else can be read there.
pub record LinesSoFar (k : Kind) (t : Description) (r : Places) (lines : List ℕ) (old new : List FileVerdict) (was now : BadPieces) (i : ℕ)
    (worst : FileVerdict) (rest : List ℕ) : Type 0 where
  pub read : List (FileVerdict × List Run)
  pub count : length read ≡ i
  pub says : (n : ℕ) (f : FileEntry) (x : FileVerdict × List Run) → slice_get t.files n ≡ Some f → slice_get read n ≡ Some x
      → CanSay t r f x.0 × CanMark k t r f x.0 x.1
  pub is : lines ≡ spell text_of (marked_place_rows t r read t.files) ++ rest
  pub good : list_all is_good (verdicts_of read) ≡ is_good worst
  pub whole : list_all is_whole (verdicts_of read) ≡ is_whole worst
  pub own : length new ≡ length old
  pub each : (n : ℕ) (a : FileVerdict) (x : FileVerdict × List Run) → slice_get old n ≡ Some a → slice_get read n ≡ Some x
      → slice_get new n ≡ Some (worse a x.0)
  pub stays : (n : ℕ) → i ≤ n → slice_get new n ≡ slice_get old n
  pub marks : MarksMore (IsTold t read) was now
  pub only : (marked : List (FileVerdict × List Run)) (v1 : Option V1Verdict) → Reading k t r lines marked v1
      → (take i marked ≡ read) × (rest ≡ left_of t r marked v1 i)

-- ---- no file, the next, and those without a place

pub so_far_none : (k : Kind) (t : Description) (r : Places) (lines : List ℕ) (old : List FileVerdict) (was : BadPieces)
    → LinesSoFar k t r lines old old was was 0 file.Good lines
so_far_none k t r lines old was = record {
  read = [];
  count = refl;
  says = λ n f x there at. absurd (none-some x at);
  is = refl;
  good = refl;
  whole = refl;
  own = refl;
  each = λ n a x at said. absurd (none-some x said);
  stays = λ n le. refl;
  marks = marks_none (IsTold t []) was (λ q told. none-some told.told told.at);
  only = λ marked v1 reading. (refl, reading.is);
}

pub so_far_next : {k : Kind} {t : Description} {r : Places} {lines : List ℕ} {old new : List FileVerdict} {was now later : BadPieces} {i : ℕ}
    {worst : FileVerdict} {rest : List ℕ} {f : FileEntry} {v a : FileVerdict} {more : List ℕ} → LinesSoFar k t r lines old new was now i worst rest
    → IsSound t → slice_get t.files i ≡ Some f → slice_get new i ≡ Some a → ReadsFileLine k t r f rest v more now later
    → LinesSoFar k t r lines old (set new i (worse a v)) was later (i + 1) (worse worst v) more
so_far_next {k} {t} {r} {lines} {old} {new} {was} {now} {later} {i} {worst} {rest} {f} {v} {a} {more} so_far sound there at file =
    let one : FileVerdict × List Run = (v, file.runs) in
    let read : List (FileVerdict × List Run) = so_far.read ++ one ∷ [] in
    let within : i < length t.files = slice_get_within t.files i f there in
    let inside : i < length new = slice_get_within new i a at in
    let line : List Row = marked_rows t r f v file.runs in
    let before : List Row = marked_place_rows t r so_far.read t.files in
    let verdict : FileVerdict × List Run → FileVerdict = λ x. x.0 in
    let verdicts : verdicts_of read ≡ verdicts_of so_far.read ++ v ∷ [] = map-append verdict so_far.read (one ∷ []) in
    let behind : drop (length so_far.read) t.files ≡ f ∷ drop (i + 1) t.files =
    ap (λ n. drop n t.files) so_far.count ∙ drop_more t.files i f within ∙ ap (λ g. g ∷ drop (i + 1) t.files) (get_or_from_slice_get t.files i f f there) in
    let shown : marked_place_rows t r read t.files ≡ before ++ line =
    split_marked t r so_far.read (one ∷ []) t.files (omega (arith, so_far.count, within))
    ∙ ap (λ fs. before ++ marked_place_rows t r (one ∷ []) fs) behind ∙ ap (λ rows. before ++ rows) (append-nil line) in
    record {
      read = read;
      count = length-append so_far.read (one ∷ []) ∙ ap (λ n. n + 1) so_far.count;
      says = λ n g x g_there x_at. elim (push_at so_far.read one n x x_at) [
        | inl before ↦ so_far.says n g x g_there before
        | inr last ↦
            let n_is : n ≡ i = sym last.1 ∙ so_far.count in
            let same : f ≡ g = same_Some f g (sym there ∙ ap (slice_get t.files) (sym n_is) ∙ g_there) in
            subst (λ h. CanSay t r h x.0 × CanMark k t r h x.0 x.1) same
            (subst (λ (y : FileVerdict × List Run). CanSay t r f y.0 × CanMark k t r f y.0 y.1) last.0 (file.can, file.can_mark))
      ];
      is = so_far.is ∙ ap (λ x. spell text_of before ++ x) file.is ∙ sym (rows_then before line more) ∙ ap (λ rows. spell text_of rows ++ more) (sym shown);
      good = ap (list_all is_good) verdicts ∙ all_more is_good (verdicts_of so_far.read) v ∙ ap (λ b. b && is_good v) so_far.good ∙ sym (good_worse worst v);
      whole = ap (list_all is_whole) verdicts ∙ all_more is_whole (verdicts_of so_far.read) v ∙ ap (λ b. b && is_whole v) so_far.whole
          ∙ sym (whole_worse worst v);
      own = length-set new i (worse a v) ∙ so_far.own;
      each = λ n b x b_at x_at. elim (push_at so_far.read one n x x_at) [
        | inl before ↦
            let low = slice_get_within so_far.read n x before in
            at_other new i n (worse a v) (λ e. omega (arith, e, low, so_far.count)) ∙ so_far.each n b x b_at before
        | inr last ↦
            let n_is : n ≡ i = sym last.1 ∙ so_far.count in
            let a_is : a ≡ b = same_Some a b (sym at ∙ so_far.stays i (omega arith) ∙ ap (slice_get old) (sym n_is) ∙ b_at) in
            let v_is : v ≡ x.0 = ap verdict last.0 in
            ap (slice_get (set new i (worse a v))) n_is ∙ at_same new i (worse a v) inside ∙ ap Some (ap₂ worse a_is v_is)
      ];
      stays = λ n le. at_other new i n (worse a v) (λ e. omega (arith, e, le)) ∙ so_far.stays n (omega (arith, le));
      marks = marks_both (IsTold t so_far.read) (IsInRuns f file.runs) (IsTold t read) was now later so_far.marks file.marks
          (λ q. told_more t so_far.read i f v file.runs q there so_far.count) (λ q. more_told t so_far.read i f v file.runs q there so_far.count);
      only = λ marked v1 reading.
          let before = so_far.only marked v1 reading in
          let len = counted k t r lines marked v1 reading in
          let x = item_at marked i (omega (arith, within, len)) in
          let same = file.only x.0.0 x.0.1 (left_of t r marked v1 (i + 1))
          (next_told k t r lines marked v1 i f x.0 rest sound reading there x.1 before.1) in
          let pair : FileVerdict → List Run → FileVerdict × List Run = λ w rs. (w, rs) in
          let x_is : x.0 ≡ one = ap₂ pair (sym same.0) (sym same.1) in (
            take_more marked i x.0 (omega (arith, within, len))
                ∙ ap₂ (λ m y. m ++ y ∷ []) before.0 (get_or_from_slice_get marked i x.0 x.0 x.1 ∙ x_is),
            same.2,
          );
    }

-- files that have no place in the part are passed: nothing is read of them
pub so_far_off : {k : Kind} {t : Description} {r : Places} {lines : List ℕ} {old new : List FileVerdict} {was now : BadPieces} {worst : FileVerdict}
    {rest : List ℕ} (n i j : ℕ) → LinesSoFar k t r lines old new was now i worst rest → IsSound t → length old ≡ length t.files → i + n ≡ j
    → j ≤ length t.files → AreOff t r (λ m. (i ≤ m) × (m < j)) → LinesSoFar k t r lines old new was now j worst rest
so_far_off {k} {t} {r} {lines} {old} {new} {was} {now} {worst} {rest} zero i j so_far sound whole all within off =
    subst (λ m. LinesSoFar k t r lines old new was now m worst rest) (let e : i ≡ j = omega (arith, all) in e) so_far
so_far_off {k} {t} {r} {lines} {old} {new} {was} {now} {worst} {rest} (suc n) i j so_far sound whole all within off =
    let f = item_at t.files i (omega (arith, all, within)) in
    let a = item_at new i (omega (arith, all, within, whole, so_far.own)) in
    let next = so_far_next so_far sound f.1 a.1 (off_file k t r f.0 rest now (off i f.0 (omega arith, omega (arith, all)) f.1)) in
    let same : set new i (worse a.0 file.Good) ≡ new =
    ap (set new i) (worse_good a.0 ∙ sym (get_or_from_slice_get new i a.0 a.0 a.1)) ∙ set-get_or new i a.0 in
    so_far_off n (i + 1) j
    (subst (λ items. LinesSoFar k t r lines old items was now (i + 1) worst rest) same
    (subst (λ w. LinesSoFar k t r lines old (set new i (worse a.0 file.Good)) was now (i + 1) w rest) (worse_good worst) next))
    sound whole (omega (arith, all)) within (λ m g both. off m g (omega (arith, both.0), both.1))

-- ---- what another reading says

-- so what is told of the next file is there
pub told_there : {k : Kind} {t : Description} {r : Places} {lines : List ℕ} {old new : List FileVerdict} {was now : BadPieces} {i : ℕ}
    {worst : FileVerdict} {rest : List ℕ} {f : FileEntry} → LinesSoFar k t r lines old new was now i worst rest → IsSound t
    → slice_get t.files i ≡ Some f → HasLines k t r lines → BeginsWithFile k t r f rest
told_there {k} {t} {r} {lines} {old} {new} {was} {now} {i} {worst} {rest} {f} so_far sound there has =
    let reading = reading_of k t r lines has in
    let marked = has.0.marked in
    let v1 = has.0.v1 in
    let len = counted k t r lines marked v1 reading in
    let x = item_at marked i (omega (arith, slice_get_within t.files i f there, len)) in (
      x.0.0,
      x.0.1,
      left_of t r marked v1 (i + 1),
      next_told k t r lines marked v1 i f x.0 rest sound reading there x.1 (so_far.only marked v1 reading).1,
    )

-- and behind all files the end is there
pub end_there : {k : Kind} {t : Description} {r : Places} {lines : List ℕ} {old new : List FileVerdict} {was now : BadPieces} {worst : FileVerdict}
    {rest : List ℕ} → LinesSoFar k t r lines old new was now (length t.files) worst rest → HasLines k t r lines → HasEnd t r worst rest
end_there {k} {t} {r} {lines} {old} {new} {was} {now} {worst} {rest} so_far has =
    let reading = reading_of k t r lines has in
    let marked = has.0.marked in
    let v1 = has.0.v1 in
    let len = counted k t r lines marked v1 reading in
    let both = so_far.only marked v1 reading in
    let same : marked ≡ so_far.read = sym (take_all (length t.files) marked (omega (arith, len))) ∙ both.0 in
    let good : list_all is_good (verdicts_of marked) ≡ is_good worst = ap (λ m. list_all is_good (verdicts_of m)) same ∙ so_far.good in
    let whole : list_all is_whole (verdicts_of marked) ≡ is_whole worst = ap (λ m. list_all is_whole (verdicts_of m)) same ∙ so_far.whole in
    let empty : marked_place_rows t r (drop (length t.files) marked) (drop (length t.files) t.files) ≡ [] =
    ap (λ m. marked_place_rows t r m (drop (length t.files) t.files)) (drop_all (length t.files) marked (omega (arith, len))) in (
      v1,
      record {
        hybrid = reading.can.hybrid;
        says = λ v is. (reading.can.says_v1 v is, reading.can.checked v is ∙ whole);
        is = both.1 ∙ ap (λ rows. spell text_of rows ++ end_of marked v1) empty
            ∙ spelled_push text_of (version1_rows v1) (part_answer_row (is_yes (verdicts_of marked) v1))
            ∙ ap (λ b. spell text_of (version1_rows v1) ++ text_of (part_answer_row (b && stream_is_good v1))) good;
      },
    )

-- if the end of the lines was read too, what they say was joined
pub joined_whole : {k : Kind} {t : Description} {r : Places} {lines : List ℕ} (old new : MarkedReport) {worst : FileVerdict} {rest : List ℕ}
    {v1 : Option V1Verdict}
    → LinesSoFar k t r lines old.report.files.items new.report.files.items old.bad new.bad (length t.files) worst rest → ReadsEnd t r worst rest v1
    → is_some new.report.v1 ≡ is_some old.report.v1
    → ((a b : V1Verdict) → old.report.v1 ≡ Some a → v1 ≡ Some b → new.report.v1 ≡ Some (worse_v1 a b)) → JoinsLines k t r lines old new
joined_whole {k} {t} {r} {lines} old new {worst} {rest} {v1} so_far end hybrid version1 = record {
  part = record { places = r; marked = so_far.read; v1 = v1 };
  places = refl;
  says = record {
    can = record {
      says = record {
        count = length-map so_far.read (λ x. x.0) ∙ so_far.count;
        hybrid = end.hybrid;
        says = λ n f v there at.
            let x = said_at so_far.read n v at in
            subst (CanSay t r f) x.2 (so_far.says n f x.0 there x.1).0;
        says_v1 = λ v is. (end.says v is).0;
        checked = λ v is. (end.says v is).1 ∙ sym so_far.whole;
      };
      marks = λ n f x there at. (so_far.says n f x there at).1;
    };
    is = so_far.is ∙ ap (λ x. spell text_of (marked_place_rows t r so_far.read t.files) ++ x)
        (end.is ∙ ap (λ b. spell text_of (version1_rows v1) ++ text_of (part_answer_row (b && stream_is_good v1))) (sym so_far.good)
        ∙ sym (spelled_push text_of (version1_rows v1) (part_answer_row (is_yes (verdicts_of so_far.read) v1))))
        ∙ sym (flat_map-append text_of (marked_place_rows t r so_far.read t.files) (part_end_rows (verdicts_of so_far.read) v1));
  };
  joined = record {
    count = so_far.own;
    each = λ n a b at said.
        let x = said_at so_far.read n b said in
        so_far.each n a x.0 at x.1 ∙ ap (λ w. Some (worse a w)) x.2;
    hybrid = hybrid;
    version1 = version1;
  };
  marks = so_far.marks;
}
