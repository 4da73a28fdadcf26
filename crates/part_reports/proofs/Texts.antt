-- What the texts of reports make together.
use Rattle.std.proofs.Common.{◌≡◌, ℕ, zero, suc, ◌-◌, ◌<◌, ◌^◌, Bool, true, false, List, [], ◌∷◌, ◌++◌, length, map, slice_get, Option, Some, is_some}
use Rattle.std.proofs.Common.{refl, sym, ap, subst, ◌∙◌, arith}
use Rattle.std.proofs.lemmas.Grind.{flat_map-append}
use Rattle.std.proofs.lemmas.Bool.{true_from_ne_false}
use Rattle.std.proofs.lemmas.List.{length-map}
use Rattle.std.proofs.lemmas.Option.{none-some, same_Some, slice_get_within}
use Rattle.chains.proofs.Cases.{item_at, some_of}
use Rattle.opening.specs.Description.{Description, FileEntry, Version1}
use Rattle.opening.specs.Sound.{IsSound}
use Rattle.folders.specs.Folder.{Contents}
use Rattle.folders.specs.declared.report.FileVerdict.{FileVerdict}
use Rattle.folders.specs.declared.report.FileVerdict.TheVariants as file
use Rattle.folders.specs.declared.report.V1Verdict.{V1Verdict}
use Rattle.folders.specs.declared.report.V1Verdict.TheVariants as version1
use Rattle.parts.specs.Laws.{PartsMakeTheReport, YesOfParts}
use Rattle.parts.specs.MarkedLines.{marked_place_rows, verdicts_of}
use Rattle.parts.specs.PartLines.{has_place, part_end_rows, part_text}
use Rattle.parts.specs.Parts.{IsPartV1, IsPartVerdict, IsTruePart, PartReport, piece_count, place_count}
use Rattle.parts.specs.Runs.{Run}
use Rattle.parts.specs.Shares.{share}
use Rattle.parts.specs.declared.places.Places.{Places}
use Rattle.parts.proofs.PlaceTests.{touch_to_has}
use Rattle.parts.proofs.SharedPlaces.{few_pieces}
use Rattle.lines.specs.Texts.{text_of}
use Rattle.part_reports.specs.Heads.{HasHead, first_line}
use Rattle.part_reports.specs.Joined.{AreJoined, AreJoinedOf, report_text_of}
use Rattle.part_reports.specs.Lines.{IsSmall, IsSmallV1, MarkedPart, marked_rest, part_of}
use Rattle.part_reports.specs.Marks.{AreRunsWithin}
use Rattle.part_reports.specs.Reasons.{IsReportOfKind}
use Rattle.part_reports.specs.Reported.{CanReport, CanSay, CanSayV1}
use Rattle.part_reports.specs.declared.kind.Kind.{Kind}
use Rattle.part_reports.specs.declared.kind.Kind.TheVariants as kind
use Rattle.part_reports.specs.Texts.{AreTrueReports, IsTrueReport, TextsMakeTheReport, TruePartsReport, YesOfTexts, reported}
use Rattle.part_reports.proofs.Faults.{head_of, text_is}
use Rattle.part_reports.proofs.Heads.{one_head}
use Rattle.part_reports.proofs.MarkedFiles.{off_good, said_at, verdict_at}
use Rattle.part_reports.proofs.Readings.{can_clear, counted, reading_of}
use Rattle.part_reports.proofs.Reports.{read_report}
use Rattle.part_reports.proofs.SameFiles.{IsTelling, TellTheSame, one_telling}
use Rattle.part_reports.proofs.SameLines.{same_rest}
use Rattle.part_reports.proofs.TextReads.{part_at}

-- ---- what a part can say

-- what is true of a file, and says nothing of one that has no place there, can be said
can_say : (t : Description) (r : Places) (f : FileEntry) (content : Option (List ℕ)) (v : FileVerdict)
    → (has_place t r f ≡ false → v ≡ file.Good) → IsPartVerdict t r f content v → CanSay t r f v
can_say t r f content file.Good off is = tt
can_say t r f content (file.Bad p) off is =
    let bad = is.2 in (
      true_from_ne_false (has_place t r f) (λ no. let e = off no in (let x : ⊥ = cc in absurd x)),
      record { from = omega (arith, bad.place_is); to = omega (arith, bad.place_is, bad.inside); held = bad.held },
    )
can_say t r f content v off is = true_from_ne_false (has_place t r f) (λ no. let e = off no in (let x : ⊥ = cc in absurd x))

can_say_v1 : (t : Description) (v : Version1) (r : Places) (contents : Contents) (w : V1Verdict) → IsPartV1 t v r contents w
    → CanSayV1 r (place_count t - 1) w
can_say_v1 t v r contents (version1.Bad q) is = (is.0, is.1)
can_say_v1 t v r contents w is = tt

-- true verdicts can be reported
pub can_report : (t : Description) (contents : Contents) (r : Places) (files : List FileVerdict) (v1 : Option V1Verdict)
    → IsTruePart t contents (record { places = r; files = files; v1 = v1 })
    → ((n : ℕ) (f : FileEntry) (v : FileVerdict) → slice_get t.files n ≡ Some f → slice_get files n ≡ Some v → has_place t r f ≡ false → v ≡ file.Good)
    → CanReport t r files v1
can_report t contents r files v1 are off = record {
  count = are.count;
  hybrid = are.hybrid;
  says = λ n f v f_at v_at. can_say t r f (contents n) v (off n f v f_at v_at) (are.each n f v f_at v_at);
  says_v1 = λ v is.
      let hybrid = some_of t.v1 (sym are.hybrid ∙ ap is_some is) in
      can_say_v1 t hybrid.0 r contents v (are.version1 hybrid.0 v hybrid.1 is);
  checked = are.checked;
}

-- verdicts without runs
abbrev pub bare : List FileVerdict → List (FileVerdict × List Run)
bare files = map (λ v. (v, [])) files

bare_verdicts : (files : List FileVerdict) → verdicts_of (bare files) ≡ files
bare_verdicts [] = refl
bare_verdicts (v ∷ files) = ap (λ vs. v ∷ vs) (bare_verdicts files)

bare_at : (files : List FileVerdict) (n : ℕ) (x : FileVerdict × List Run) → slice_get (bare files) n ≡ Some x → x.1 ≡ []
bare_at [] n x at = absurd (none-some x at)
bare_at (v ∷ files) zero x at = ap (λ (y : FileVerdict × List Run). y.1) (sym (same_Some (v, []) x at))
bare_at (v ∷ files) (suc n) x at = bare_at files n x at

-- such verdicts as a part reports them
abbrev bare_part : Description → ℕ → ℕ → List FileVerdict → Option V1Verdict → MarkedPart
bare_part t part count files v1 = record { places = share t part count; marked = bare files; v1 = v1 }

pub true_parts_report : TruePartsReport
true_parts_report t contents part count files v1 there small are off =
    let same = sym (bare_verdicts files) in
    record {
      there = there;
      small = small;
      said = bare_part t part count files v1;
      places = refl;
      can = record {
        says = subst (λ vs. CanReport t (share t part count) vs v1) same (can_report t contents (share t part count) files v1 are off);
        marks = λ n f x there at. bare_at files n x at;
      };
      is = ap (λ vs. part_text t part count vs v1) same;
    }

-- ---- what is read of a true report is true

-- true verdicts have small numbers
small_verdict : (t : Description) (r : Places) (n : ℕ) (f : FileEntry) (content : Option (List ℕ)) (v : FileVerdict) → IsSound t
    → slice_get t.files n ≡ Some f → IsPartVerdict t r f content v → IsSmall v
small_verdict t r n f content (file.Bad p) sound there is = omega (arith, is.2.place_is, is.2.inside, few_pieces t f sound (n, there))
small_verdict t r n f content v sound there is = tt

small_v1 : (t : Description) (r : Places) (v : V1Verdict) → IsSound t → CanSayV1 r (place_count t - 1) v → IsSmallV1 v
small_v1 t r (version1.Bad q) sound can = omega (arith, can.1, sound.laid_out.pieces)
small_v1 t r v sound can = tt

-- a text tells this as the report, of this kind, of this one of this many parts: it is true, and runs come in order
pub record IsToldTrue (k : Kind) (t : Description) (contents : Contents) (part count : ℕ) (text : List ℕ) (told : MarkedPart) : Type 0 where
  pub there : part < count
  pub small : count < 2 ^ 64
  pub places : told.places ≡ share t part count
  pub are_true : IsTruePart t contents (part_of told)
  pub runs : (n : ℕ) (f : FileEntry) (x : FileVerdict × List Run) → slice_get t.files n ≡ Some f → slice_get told.marked n ≡ Some x
      → (has_place t told.places f ≡ false → x.1 ≡ []) × AreRunsWithin 0 (piece_count t f) x.1
  pub is : text ≡ first_line k part count t.info_hash_v2 ++ marked_rest t told

true_telling : (k : Kind) (t : Description) (contents : Contents) (part count : ℕ) (text : List ℕ) (told : MarkedPart) → IsSound t
    → IsToldTrue k t contents part count text told → IsTelling t told.places (marked_rest t told) told.marked told.v1
true_telling k t contents part count text told sound is = record {
  count = sym (length-map told.marked (λ x. x.0)) ∙ is.are_true.count;
  hybrid = is.are_true.hybrid;
  clear = λ n f x there at. record {
    small = small_verdict t told.places n f (contents n) x.0 sound there (is.are_true.each n f x.0 there (verdict_at told.marked n x at));
    off = (is.runs n f x there at).0;
    runs = (is.runs n f x there at).1;
  };
  small = λ v v_is.
      let hybrid = some_of t.v1 (sym is.are_true.hybrid ∙ ap is_some v_is) in
      small_v1 t told.places v sound (can_say_v1 t hybrid.0 told.places contents v (is.are_true.version1 hybrid.0 v hybrid.1 v_is));
  is = flat_map-append text_of (marked_place_rows t told.places told.marked t.files) (part_end_rows (verdicts_of told.marked) told.v1);
}

-- what is read of a text is what it tells
pub record IsReadSo (t : Description) (read told : MarkedPart) : Type 0 where
  pub places : told.places ≡ read.places
  pub files : TellTheSame t read.places t.files read.marked told.marked
  pub version1 : read.v1 ≡ told.v1

pub read_so : (k : Kind) (t : Description) (contents : Contents) (part count p n : ℕ) (text : List ℕ) (told : MarkedPart) → IsSound t
    → IsToldTrue k t contents part count text told → (report : IsReportOfKind k t p n text) → IsReadSo t report.said told
read_so k t contents part count p n text told sound is report =
    let own = t.info_hash_v2 in
    let m = report.said in
    let one = one_head k text part count p n own own (record { there = is.there; small = is.small; more = marked_rest t told; is = is.is })
    (head_of k t p n text report) in
    let line : first_line k part count own ≡ first_line k p n own =
    ap (λ i. first_line k i count own) one.0 ∙ ap (λ i. first_line k p i own) one.1 in
    let places : told.places ≡ m.places = is.places ∙ ap (λ i. share t i count) one.0 ∙ ap (share t p) one.1 ∙ sym report.places in
    let lines : marked_rest t told ≡ marked_rest t m = same_rest (first_line k p n own) (marked_rest t told) (marked_rest t m)
    (sym (is.is ∙ ap (λ l. l ++ marked_rest t told) line) ∙ report.is ∙ sym (text_is k t p n m report.places report.can.marks)) in
    let reading = reading_of k t m.places (marked_rest t m) (m, refl, record { can = report.can; is = refl }) in
    let same = one_telling t m.places (marked_rest t m) m.marked told.marked m.v1 told.v1 sound
    (record {
      count = counted k t m.places (marked_rest t m) m.marked m.v1 reading;
      hybrid = report.can.says.hybrid;
      clear = can_clear k t m.places m.marked sound report.can.says.says report.can.marks;
      small = λ v v_is. small_v1 t m.places v sound (report.can.says.says_v1 v v_is);
      is = reading.is;
    })
    (subst (λ r. IsTelling t r (marked_rest t m) told.marked told.v1) places
    (subst (λ l. IsTelling t told.places l told.marked told.v1) lines (true_telling k t contents part count text told sound is))) in
    record { places = places; files = same.0; version1 = same.1 }

-- what is read of a text, as a report of this kind, is true of these contents
abbrev pub ReadsTrue : Kind → Description → Contents → List ℕ → Type 0
ReadsTrue k t contents text = (part count : ℕ) (report : IsReportOfKind k t part count text) → IsTruePart t contents (part_of report.said)

pub read_true : (k : Kind) (t : Description) (contents : Contents) (part count : ℕ) (text : List ℕ) (told : MarkedPart) → IsSound t
    → IsToldTrue k t contents part count text told → ReadsTrue k t contents text
read_true k t contents part count text told sound is p n report =
    let m = report.said in
    let can = report.can.says in
    let so = read_so k t contents part count p n text told sound is report in
    let are = subst (λ r. IsTruePart t contents (record { places = r; files = verdicts_of told.marked; v1 = told.v1 })) so.places is.are_true in
    record {
      count = can.count;
      hybrid = can.hybrid;
      checked = can.checked;
      each = λ n f v there at.
          let x = said_at m.marked n v at in
          let within : n < length (verdicts_of told.marked) = omega (arith, slice_get_within t.files n f there, are.count) in
          let w = item_at (verdicts_of told.marked) n within in
          let y = said_at told.marked n w.0 w.1 in
          by_place m.places n f v w.0 (has_place t m.places f) refl (can.says n f v there at) (are.each n f w.0 there w.1)
          (λ on. sym x.2 ∙ ap (λ (z : FileVerdict × List Run). z.0) (so.files n f x.0 y.0 there x.1 y.1 on) ∙ y.2);
      version1 = λ v w hybrid w_is. are.version1 v w hybrid (sym so.version1 ∙ w_is);
    }
  where
    by_place : (r : Places) (n : ℕ) (f : FileEntry) (v w : FileVerdict) (held : Bool) → has_place t r f ≡ held → CanSay t r f v
        → IsPartVerdict t r f (contents n) w → (has_place t r f ≡ true → v ≡ w) → IsPartVerdict t r f (contents n) v
    by_place r n f v w true on say is_w same = subst (IsPartVerdict t r f (contents n)) (sym (same on)) is_w
    by_place r n f v w false off say is_w same =
        subst (IsPartVerdict t r f (contents n)) (sym (off_good t r f v off say)) (λ touched.
        let on = touch_to_has t r f touched in (let x : ⊥ = cc in absurd x))

pub read_plainly : (t : Description) (contents : Contents) (text : List ℕ) → IsSound t → IsTrueReport t contents text
    → ReadsTrue kind.Plain t contents text
read_plainly t contents text sound r =
    let told : MarkedPart = bare_part t r.part r.count r.files r.v1 in
    let same = bare_verdicts r.files in
    read_true kind.Plain t contents r.part r.count text told sound (record {
      there = r.there;
      small = r.small;
      places = refl;
      are_true = subst (λ vs. IsTruePart t contents (reported t r.part r.count vs r.v1)) (sym same) r.are_true;
      runs = λ n f x there at. let none = bare_at r.files n x at in (λ off. none, subst (AreRunsWithin 0 (piece_count t f)) (sym none) tt);
      is = r.is ∙ ap (λ vs. part_text t r.part r.count vs r.v1) (sym same)
          ∙ sym (text_is kind.Plain t r.part r.count told refl (λ n f x there at. bare_at r.files n x at));
    })

-- ---- what is joined of true reports

-- one of the texts is the report of this one of this many parts, which is true of the contents of its own
pub record IsReportedBy (k : Kind) (t : Description) (texts : List (List ℕ)) (own : ℕ → Contents) (part count : ℕ) (p : PartReport) : Type 0 where
  pub number : ℕ
  pub text : List ℕ
  pub there : slice_get texts number ≡ Some text
  pub head : HasHead k text part count t.info_hash_v2
  pub places : p.places ≡ share t part count
  pub are_true : IsTruePart t (own number) p

pub reported_by : (k : Kind) (t : Description) (texts : List (List ℕ)) (own : ℕ → Contents) (files : List FileVerdict) (v1 : Option V1Verdict)
    → ((i : ℕ) (text : List ℕ) → slice_get texts i ≡ Some text → ReadsTrue k t (own i) text) → (j : AreJoinedOf k t texts files v1) → (i : ℕ)
    (p : PartReport) → slice_get (map part_of j.parts) i ≡ Some p → IsReportedBy k t texts own i (length j.parts) p
reported_by k t texts own files v1 are j i p at =
    let m = part_at j.parts i p at in
    let count = length j.parts in
    let read = j.are i m.0 m.1 in
    let said : List ℕ = report_text_of k t i count m.0 in
    let report = read_report k t texts i count m.0 (slice_get_within j.parts i m.0 m.1) j.small read in
    record {
      number = read.number;
      text = said;
      there = read.there;
      head = head_of k t i count said report;
      places = ap (λ (x : PartReport). x.places) (sym m.2) ∙ read.places;
      are_true = subst (IsTruePart t (own read.number)) m.2 (are read.number said read.there i count report);
    }

-- ---- the laws

each_true : (t : Description) (contents : Contents) (texts : List (List ℕ)) (files : List FileVerdict) (v1 : Option V1Verdict) → IsSound t
    → AreTrueReports t contents texts → (j : AreJoined t texts files v1) → (i : ℕ) (p : PartReport) → slice_get (map part_of j.parts) i ≡ Some p
    → IsTruePart t contents p
each_true t contents texts files v1 sound are j i p at =
    (reported_by kind.Plain t texts (λ number. contents) files v1 (λ n text there. read_plainly t contents text sound (are n text there)) j i p at).are_true

pub texts_make : PartsMakeTheReport → TextsMakeTheReport
texts_make law t contents texts files v1 sound are j =
    law t contents (map part_of j.parts) files v1 sound j.all (each_true t contents texts files v1 sound are j) j.join

pub texts_yes : YesOfParts → YesOfTexts
texts_yes law t contents texts files v1 sound are j says =
    law t contents (map part_of j.parts) files v1 sound j.all (each_true t contents texts files v1 sound are j) j.join says
