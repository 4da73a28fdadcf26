-- What callers see of a check whose lines go out as it goes.
use Rattle.std.proofs.Common.{◌≡◌, ◌∙◌, inl, inr, ℕ, suc, ◌+◌, append_assoc, List, [], ◌∷◌, ◌++◌, length}
use Rattle.std.proofs.Common.{slice_get, take, Option, Some, Result, Ok, Err, IfOk, IfErr, refl, sym, ap, subst, arith}
use Rattle.std.proofs.lemmas.Bool.{cases_lt}
use Rattle.std.proofs.lemmas.Grind.{flat_map-append}
use Rattle.std.proofs.lemmas.List.{length_push, take-append-le, take_all}
use Rattle.std.specs.Io.KnownBytes.{Appends}
use Rattle.std.proofs.Math.Seq.{take-append-add}
use Rattle.benc.specs.Device.{Broke, BrokeOrUnflushed, Sent, SentAndFlushed, SinkSeen, SourceSeen, one_more}
use Rattle.benc.proofs.Known.{Appends-append, Appends_nothing}
use Rattle.benc.proofs.Out.{Broke-append, Sent-append}
use Rattle.chains.specs.Chain.{Chain}
use Rattle.chains.proofs.Chains.{Chain-item}
use Rattle.opening.specs.Description.{Description, FileEntry}
use Rattle.folders.specs.Printed.{end_rows, report_rows, verdicts_rows, wanted_rows}
use Rattle.folders.specs.Stopping.{BreaksOffAs}
use Rattle.folders.specs.Visits.{Visits}
use Rattle.folders.specs.declared.report_lines.Lines.{Lines}
use Rattle.folders.specs.declared.report.FileVerdict.{FileVerdict}
use Rattle.folders.specs.declared.report.Report.{Report}
use Rattle.folders.specs.declared.report.V1Verdict.{V1Verdict}
use Rattle.folders.specs.declared.shelf.Shelf.{Ghosts}
use Rattle.folders.proofs.SentLines.{verdicts_push}
use Rattle.parts.specs.Checking.{ChecksAll, ChecksAndSays, ChecksWhole, EndsFiles, StopsTelling}
use Rattle.parts.specs.Visiting.{Visiting, VisitsOne, verdicts_in, whole_visiting}
use Rattle.lines.specs.Rows.{Row, Spelling, spell}
use Rattle.lines.specs.declared.out_fault.OutFault.{OutFault as CheckFault}
use Rattle.lines.specs.declared.out_fault.OutFault.TheVariants as stopped
use Rattle.parts.specs.declared.telling.Telling.{Telling}
use Rattle.parts.specs.declared.telling.Telling.TheVariants as telling
use Rattle.parts.proofs.ToldFirst.{length-told, visits_of, visits_once}
use Rattle.parts.proofs.WholeVisits.{stopped_true}

pub at_next : {A : Type 0} (xs : List A) (x : A) (n : ℕ) → slice_get (x ∷ xs) (n + 1) ≡ slice_get xs n
at_next xs x n = let e : n + 1 ≡ suc n = omega arith in ap (slice_get (x ∷ xs)) e

-- the lines of the first files, and of more of them
longer_rows : (which : Lines) (vs others : List FileVerdict) (fs : List FileEntry)
    → (rest : List Row) × (verdicts_rows which (vs ++ others) fs ≡ verdicts_rows which vs fs ++ rest)
longer_rows which [] others fs = (verdicts_rows which others fs, refl)
longer_rows which (v ∷ vs) others [] = ([], refl)
longer_rows which (v ∷ vs) others (f ∷ fs) =
    let (rest, is) = longer_rows which vs others fs in
    (rest, ap (λ t. wanted_rows which v f ++ t) is ∙ sym (append_assoc (wanted_rows which v f) (verdicts_rows which vs fs) rest))

longer_lines : (spelled : Spelling) (which : Lines) (vs others : List FileVerdict) (fs : List FileEntry)
    → (rest : List ℕ) × (spell spelled (verdicts_rows which (vs ++ others) fs) ≡ spell spelled (verdicts_rows which vs fs) ++ rest)
longer_lines spelled which vs others fs =
    let (rest, is) = longer_rows which vs others fs in
    (spell spelled rest, ap (spell spelled) is ∙ flat_map-append spelled (verdicts_rows which vs fs) rest)

-- what broke off within a text did so within a longer one
broke_longer : (a b : SinkSeen) (x y : List ℕ) → Broke a b x → Broke a b (x ++ y)
broke_longer a b x y p =
    let n = p.bytes.0 in
    record {
      bytes = elim (cases_lt n (length x)) [
        | inl short ↦ (n, subst (Appends a.written b.written) (sym (take-append-le n x y (omega (arith, short)))) p.bytes.1)
        | inr all ↦ (
          length x,
          subst (Appends a.written b.written) (take_all n x all ∙ sym (take_all (length x) x (omega arith)) ∙ sym (take-append-le (length x) x y (omega arith)))
              p.bytes.1,
        )
      ];
      faults = p.faults;
      flushes = p.flushes;
    }

-- each text is the line of its file
abbrev AreLines : Spelling → Lines → List FileEntry → List (FileVerdict × List ℕ) → Type 0
AreLines spelled lines fs told = (n : ℕ) (f : FileEntry) (x : FileVerdict × List ℕ) → slice_get fs n ≡ Some f → slice_get told n ≡ Some x
    → x.1 ≡ spell spelled (wanted_rows lines x.0 f)

pub flushed_after : (a b c : SinkSeen) (x y : List ℕ) → Sent a b x → SentAndFlushed b c y → SentAndFlushed a c (x ++ y)
flushed_after a b c x y p q = record {
  bytes = Appends-append a.written b.written c.written x y p.bytes q.bytes;
  faults = q.faults ∙ p.faults;
  flushes = q.flushes ∙ ap one_more p.flushes;
  last = q.last;
}

unflushed_after : (a b c : SinkSeen) (x y : List ℕ) → Sent a b x → BrokeOrUnflushed b c y → BrokeOrUnflushed a c (x ++ y)
unflushed_after a b c x y p q =
    let n = q.bytes.0 in
    let both = Appends-append a.written b.written c.written x (take n y) p.bytes q.bytes.1 in
    let front : x ++ take n y ≡ take (length x + n) (x ++ y) = sym (take-append-add x y n) in
    record {
      bytes = (length x + n, subst (λ t. Appends a.written c.written t) front both);
      faults = q.faults ∙ ap one_more p.faults;
      flushes = elim q.flushes [
        | inl none ↦ inl (none ∙ p.flushes)
        | inr all ↦ inr (Appends-append a.written b.written c.written x y p.bytes all.0, all.1 ∙ ap one_more p.flushes)
      ];
    }

module _ {S F : Type 0} (shelf : Ghosts S F) (seen : F → SourceSeen) (t : Description) where
  abbrev V : Visiting S
  V = whole_visiting shelf seen t

  -- the lines of some files
  sent_of : (spelled : Spelling) (lines : Lines) (old : S × SinkSeen) (fs : List FileEntry) (told : List (FileVerdict × List ℕ)) (new : S × SinkSeen)
      → Chain (VisitsOne V) old (take (length told) fs) told new → AreLines spelled lines fs told
      → Sent old.1 new.1 (spell spelled (verdicts_rows lines (verdicts_in told) fs))
  sent_of spelled lines old fs [] new e each =
      subst (λ (x : S × SinkSeen). Sent old.1 x.1 []) (sym e) (record { bytes = Appends_nothing old.1.written; faults = refl; flushes = refl })
  sent_of spelled lines old [] (x ∷ xs) new e each = absurd e
  sent_of spelled lines old (f ∷ fs) (x ∷ xs) new (mid, step, rest) each =
      subst (Sent old.1 new.1) (sym (flat_map-append spelled (wanted_rows lines x.0 f) (verdicts_rows lines (verdicts_in xs) fs)))
      (Sent-append old.1 mid.1 new.1 (spell spelled (wanted_rows lines x.0 f)) (spell spelled (verdicts_rows lines (verdicts_in xs) fs))
      (subst (Sent old.1 mid.1) (each 0 f x refl refl) step.told)
      (sent_of spelled lines mid fs xs new rest (λ n g y there is. each (n + 1) g y (at_next fs f n ∙ there) (at_next xs x n ∙ is))))

  -- the lines of all files
  lines_all : (spelled : Spelling) (lines : Lines) (verdicts : List FileVerdict) (v1 : Option V1Verdict) (old new : S × SinkSeen)
      → ChecksAll shelf seen spelled t (telling.Line lines) verdicts v1 old new → Sent old.1 new.1 (spell spelled (verdicts_rows lines verdicts t.files))
  lines_all spelled lines verdicts v1 old new all =
      let visits = all.visits in
      let count : length visits.told ≡ length t.files =
      sym (length-told visits.told) ∙ ap length visits.verdicts_are ∙ visits.has.count in
      subst (λ vs. Sent old.1 new.1 (spell spelled (verdicts_rows lines vs t.files))) visits.verdicts_are
      (sent_of spelled lines old t.files visits.told new
      (subst (λ fs. Chain (VisitsOne V) old fs visits.told new) (sym (take_all (length visits.told) t.files (omega (arith, count)))) visits.visited)
      (λ n f x there said. (visits.each n f x there said).1))

  -- the whole report went out
  pub onto_report : (spelled : Spelling) (lines : Lines) (verdicts : List FileVerdict) (v1 : Option V1Verdict) (old new : S × SinkSeen)
      → ChecksWhole shelf seen spelled t (telling.Line lines) lines verdicts v1 old new
      → SentAndFlushed old.1 new.1 (spell spelled (report_rows lines t.files verdicts v1))
  onto_report spelled lines verdicts v1 old new whole =
      subst (SentAndFlushed old.1 new.1) (sym (flat_map-append spelled (verdicts_rows lines verdicts t.files) (end_rows lines verdicts v1)))
      (flushed_after old.1 whole.mid new.1 (spell spelled (verdicts_rows lines verdicts t.files)) (spell spelled (end_rows lines verdicts v1))
      (lines_all spelled lines verdicts v1 old (new.0, whole.mid) whole.all) whole.end)

  -- or it broke off
  pub onto_cut : (spelled : Spelling) (lines : Lines) (old new : S × SinkSeen) → StopsTelling shelf seen spelled t (telling.Line lines) lines old new
      → BreaksOffAs shelf seen spelled t old.0 lines old.1 new.1 new.0
  onto_cut spelled lines old new (inl (inr batch)) =
      let first : List FileVerdict = batch.told ++ batch.verdict ∷ [] in
      let (more_text, text_is) = longer_lines spelled lines first batch.ahead t.files in
      let broke = Broke-append old.1 batch.mid new.1 (spell spelled (verdicts_rows lines batch.told t.files))
      (spell spelled (wanted_rows lines batch.verdict batch.file)) batch.sent batch.broke in
      let line = subst (Broke old.1 new.1) (sym (verdicts_push spelled lines batch.told t.files batch.verdict batch.file batch.file_is)) broke in
      let longer = broke_longer old.1 new.1 (spell spelled (verdicts_rows lines first t.files)) more_text line in
      record {
        files = batch.told ++ batch.verdict ∷ batch.ahead;
        visits = batch.visits;
        broke = inl (subst (λ vs. Broke old.1 new.1 (spell spelled (verdicts_rows lines vs t.files)))
            (append_assoc batch.told (batch.verdict ∷ []) batch.ahead) (subst (Broke old.1 new.1) (sym text_is) longer));
      }
  onto_cut spelled lines old new (inl (inl one)) =
      let vs : List FileVerdict = verdicts_in one.told in
      let count : length vs ≡ length one.told = length-told one.told in
      let there : slice_get t.files (length vs) ≡ Some one.file = ap (slice_get t.files) count ∙ one.file_is in
      let before : Chain (Visits shelf seen t) old.0 (take (length vs) t.files) vs one.between.0 =
      subst (λ m. Chain (Visits shelf seen t) old.0 (take m t.files) vs one.between.0) (sym count)
      (visits_of V old (take (length one.told) t.files) one.told one.between one.before) in
      let step = Chain-item (Visits shelf seen t) old.0 one.between.0 new.0 t.files (length vs) vs one.file one.verdict there before one.visits in
      record {
        files = vs ++ one.verdict ∷ [];
        visits = record {
          once = subst (λ m. Chain (Visits shelf seen t) old.0 (take m t.files) (vs ++ one.verdict ∷ []) new.0) (sym (length_push vs one.verdict)) step;
          counted = one.counts.counted;
          are_true = stopped_true shelf seen t spelled (telling.Line lines) old new one;
        };
        broke = inl (subst (Broke old.1 new.1) (sym (verdicts_push spelled lines vs t.files one.verdict one.file there))
            (Broke-append old.1 one.between.1 new.1 (spell spelled (verdicts_rows lines vs t.files)) (spell spelled (wanted_rows lines one.verdict one.file))
            (sent_of spelled lines old t.files one.told one.between one.before (λ n f x at said. (one.each n f x at said).1))
            (subst (Broke one.between.1 new.1) one.last one.broke)));
      }
  onto_cut spelled lines old new (inr end) =
      let all = end.all in
      let visits = all.visits in
      record {
        files = end.verdicts;
        visits = record {
          once = subst (λ fs. Chain (Visits shelf seen t) old.0 fs end.verdicts new.0)
              (sym (take_all (length end.verdicts) t.files (omega (arith, visits.has.count))))
              (visits_once V spelled t (telling.Line lines) end.verdicts end.v1 old (new.0, end.mid) visits);
          counted = visits.counts.counted;
          are_true = record {
            contents = all.are_true.contents;
            agree = λ k f lt there. all.are_true.agree k f there;
            each = all.are_true.are_true.each;
          };
        };
        broke = inr (
          end.v1,
          visits.has,
          all.are_true,
          subst (BrokeOrUnflushed old.1 new.1) (sym (flat_map-append spelled (verdicts_rows lines end.verdicts t.files) (end_rows lines end.verdicts end.v1)))
              (unflushed_after old.1 end.mid new.1 (spell spelled (verdicts_rows lines end.verdicts t.files))
              (spell spelled (end_rows lines end.verdicts end.v1)) (lines_all spelled lines end.verdicts end.v1 old (new.0, end.mid) all) end.broke),
        );
      }

  -- ---- by the answer

  -- a check of the files that was stopped
  pub stopped_files : (spelled : Spelling) (telling : Telling) (lines : Lines) (old new : S × SinkSeen) (e : CheckFault)
      → EndsFiles shelf seen spelled t telling old new (Err e)
      → ChecksAndSays shelf seen spelled t telling lines old new (Err e)
  stopped_files spelled telling lines old new stopped.Write ends = inl ends
  stopped_files spelled telling lines old new stopped.NoMemory same = same

  pub if_whole : (spelled : Spelling) (telling : Telling) (lines : Lines) (old new : S × SinkSeen) (r : Result Report CheckFault) (P : Report → Type 0)
      → ChecksAndSays shelf seen spelled t telling lines old new r
      → ((report : Report) → ChecksWhole shelf seen spelled t telling lines report.files.items report.v1 old new → P report) → IfOk r P
  if_whole spelled telling lines old new (Ok report) P checks onto = onto report checks
  if_whole spelled telling lines old new (Err e) P checks onto = tt

  pub if_stopped : (spelled : Spelling) (telling : Telling) (lines : Lines) (old new : S × SinkSeen) (r : Result Report CheckFault) (P : Type 0)
      → ChecksAndSays shelf seen spelled t telling lines old new r → (StopsTelling shelf seen spelled t telling lines old new → P)
      → IfErr r (λ e. e ≡ stopped.Write → P)
  if_stopped spelled telling lines old new (Ok report) P checks onto = tt
  if_stopped spelled telling lines old new (Err stopped.Write) P checks onto = λ _. onto checks
  if_stopped spelled telling lines old new (Err stopped.NoMemory) P checks onto = λ is. (let no : ⊥ = cc in absurd no)

  pub if_refused : (spelled : Spelling) (telling : Telling) (lines : Lines) (old new : S × SinkSeen) (r : Result Report CheckFault) (P : Type 0)
      → ChecksAndSays shelf seen spelled t telling lines old new r → (((new.0 ≡ old.0) × (new.1 ≡ old.1)) → P)
      → IfErr r (λ e. e ≡ stopped.NoMemory → P)
  if_refused spelled telling lines old new (Ok report) P checks onto = tt
  if_refused spelled telling lines old new (Err stopped.Write) P checks onto = λ is. (let no : ⊥ = cc in absurd no)
  if_refused spelled telling lines old new (Err stopped.NoMemory) P checks onto = λ _. onto checks
