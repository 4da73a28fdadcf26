-- What a pass over the files of a torrent checked, where no more than lines are told of them.
use Rattle.std.proofs.Common.{◌≡◌, ◌∙◌, ℕ, suc, ◌+◌, ◌<◌, ◌≤◌, List, [], ◌∷◌, ◌++◌, inl, inr, length, take, drop, slice_get, Option, Some, Ok}
use Rattle.std.proofs.Common.{refl, sym, ap, subst, arith, append_assoc}
use Rattle.std.specs.Prelude.{⊤}
use Rattle.std.proofs.lemmas.List.{append-nil, length-take, length_push, take_all}
use Rattle.std.proofs.lemmas.Option.{same_Some, slice_get_within}
use Rattle.benc.specs.Device.{Broke, Sent, SinkSeen, SourceSeen}
use Rattle.benc.specs.declared.device.DeviceFault.{DeviceFault}
use Rattle.benc.proofs.Known.{Appends_nothing}
use Rattle.benc.proofs.Out.{Sent-append}
use Rattle.chains.specs.Chain.{Chain}
use Rattle.chains.proofs.Cases.{drop_item, item_at, pushed_at}
use Rattle.chains.proofs.Chains.{Chain-item, Chain-length}
use Rattle.folders.specs.Printed.{verdicts_rows, wanted_rows}
use Rattle.folders.specs.Shelf.{ShelfContents, more}
use Rattle.folders.specs.Stopping.{VisitsFirst}
use Rattle.folders.specs.Verdicts.{Agrees, IsVerdict, unreadable_count}
use Rattle.folders.specs.Visits.{Visits}
use Rattle.folders.specs.declared.report.FileVerdict.{FileVerdict}
use Rattle.folders.specs.declared.report.FileVerdict.TheVariants as file
use Rattle.folders.specs.declared.report.V1Verdict.{V1Verdict}
use Rattle.folders.specs.declared.report.V1Verdict.TheVariants as version1
use Rattle.folders.specs.declared.shelf.Shelf.{Ghosts}
use Rattle.folders.proofs.Counts.{unreadable_push}
use Rattle.folders.proofs.SentLines.{verdicts_push}
use Rattle.lines.specs.Rows.{Spelling, spell}
use Rattle.opening.specs.Description.{Description, FileEntry}
use Rattle.opening.specs.Sound.{IsSound}
use Rattle.parts.specs.Checking.{StopsInBatch}
use Rattle.parts.specs.Passing.{CheckState, check_task}
use Rattle.parts.specs.Telling.{NeedsBits, TellsFile}
use Rattle.parts.specs.Visiting.{Visiting, whole_visiting}
use Rattle.parts.specs.Worse.{worse_v1}
use Rattle.parts.specs.declared.telling.Telling.{Telling}
use Rattle.parts.specs.declared.telling.Telling.TheVariants as telling
use Rattle.parts.proofs.Contents.{contents_extend, contents_of}
use Rattle.parts.proofs.Looked.{IsSeen, Says, seen_found, seen_so, visited_found}
use Rattle.parts.proofs.There.{verdict_there}
use Rattle.parts.proofs.ToldFirst.{IsToldFirst, plain_tells, told_count, told_none, told_one, verdict_at, visits_of}
use Rattle.passes.specs.Held.{Answer, content, failed, missing, unasked}
use Rattle.passes.specs.Passing.{LooksFor, PassesAll, StopsPassing, Takes}
use Rattle.passes.proofs.Stops.{at_stop, behind, looks_before, takes_before}

-- ---- lines

-- the lines of the first files went out, if lines are all that is told
abbrev pub SentLines : Spelling → Description → Telling → List FileVerdict → SinkSeen → SinkSeen → Type 0
SentLines spelled t telling.Nothing files a b = ⊤
SentLines spelled t (telling.Line lines) files a b = Sent a b (spell spelled (verdicts_rows lines files t.files))
SentLines spelled t (telling.LineAndRuns lines) files a b = ⊤
SentLines spelled t (telling.RunsIn r) files a b = ⊤

sent_none : (spelled : Spelling) (t : Description) (told : Telling) (a : SinkSeen) → SentLines spelled t told [] a a
sent_none spelled t telling.Nothing a = tt
sent_none spelled t (telling.Line lines) a = record { bytes = Appends_nothing a.written; faults = refl; flushes = refl }
sent_none spelled t (telling.LineAndRuns lines) a = tt
sent_none spelled t (telling.RunsIn r) a = tt

sent_one : (spelled : Spelling) (t : Description) (told : Telling) (files : List FileVerdict) (f : FileEntry) (c : Option (List ℕ)) (v : FileVerdict)
    (a b d : SinkSeen) → slice_get t.files (length files) ≡ Some f → SentLines spelled t told files a b → TellsFile spelled t told f v [] b d (Ok tt)
    → SentLines spelled t told (files ++ v ∷ []) a d
sent_one spelled t telling.Nothing files f c v a b d there sent tells = tt
sent_one spelled t (telling.Line lines) files f c v a b d there sent tells =
    subst (Sent a d) (sym (verdicts_push spelled lines files t.files v f there))
    (Sent-append a b d (spell spelled (verdicts_rows lines files t.files)) (spell spelled (wanted_rows lines v f)) sent
    (subst (Sent b d) (tells.is c tt) tells.went))
sent_one spelled t (telling.LineAndRuns lines) files f c v a b d there sent tells = tt
sent_one spelled t (telling.RunsIn r) files f c v a b d there sent tells = tt

-- ---- visits

module _ {S F : Type 0} (shelf : Ghosts S F) (seen : F → SourceSeen) (t : Description) where
  abbrev pub V : Visiting S
  V = whole_visiting shelf seen t

  -- the first files were visited for these verdicts, which are true of what stands there
  record IsSeenFirst (s : S) (files : List FileVerdict) (s' : S) : Type 0 where
    once : Chain (Visits shelf seen t) s (take (length files) t.files) files s'
    counted : shelf.faults s' ≡ more (shelf.faults s) (unreadable_count files)
    stays : shelf.contents s' ≡ shelf.contents s
    contents : List (Option (List ℕ))
    count : length contents ≡ length files
    agree : (k : ℕ) (f : FileEntry) (c : Option (List ℕ)) → slice_get t.files k ≡ Some f → slice_get contents k ≡ Some c
        → Agrees ((shelf.contents s).under f.path) c
    each : (k : ℕ) (f : FileEntry) (c : Option (List ℕ)) (v : FileVerdict) → slice_get t.files k ≡ Some f → slice_get contents k ≡ Some c
        → slice_get files k ≡ Some v → IsVerdict t f c v

  seen_told : (spelled : Spelling) (told : Telling) (old new : S × SinkSeen) (n : ℕ) (files : List FileVerdict) (v1 : V1Verdict)
      → IsToldFirst V spelled t told old n files v1 new → IsSeenFirst old.0 files new.0
  seen_told spelled told old new n files v1 all =
      let count : length files ≡ n = told_count V spelled t told old new n files v1 all in
      let stated = all.found.stated (contents_of all.found.seen) (contents_extend all.found.seen) in
      record {
        once = subst (λ k. Chain (Visits shelf seen t) old.0 (take k t.files) files new.0) (sym count)
            (subst (λ vs. Chain (Visits shelf seen t) old.0 (take n t.files) vs new.0) all.verdicts_are
            (visits_of V old (take n t.files) all.told new all.visited));
        counted = all.counted;
        stays = all.stays;
        contents = all.found.seen;
        count = all.found.count ∙ sym count;
        agree = all.found.agree;
        each = λ k f c v there at said.
            let x = verdict_at all.told k v (subst (λ vs. slice_get vs k ≡ Some v) (sym all.verdicts_are) said) in
            subst (λ d. IsVerdict t f d v) (contents_extend all.found.seen k c at)
            (subst (IsVerdict t f (contents_of all.found.seen k)) x.2 (stated.each k f x.0 there x.1).0);
      }

  -- one more file
  seen_one : (s mid next : S) (files : List FileVerdict) (f : FileEntry) (w : FileVerdict) → IsSeenFirst s files mid → slice_get t.files (length files) ≡ Some f
      → IsSeen shelf seen t f mid next w → IsSeenFirst s (files ++ w ∷ []) next
  seen_one s mid next files f w so_far there one =
      let long : length (files ++ w ∷ []) ≡ length files + 1 = length_push files w in
      record {
        once = subst (λ k. Chain (Visits shelf seen t) s (take k t.files) (files ++ w ∷ []) next) (sym long)
            (Chain-item (Visits shelf seen t) s mid next t.files (length files) files f w there so_far.once one.visits);
        counted = unreadable_push (shelf.faults s) (shelf.faults mid) (shelf.faults next) files w so_far.counted one.counts;
        stays = one.stays ∙ so_far.stays;
        contents = so_far.contents ++ one.content ∷ [];
        count = length_push so_far.contents one.content ∙ ap (λ k. k + 1) so_far.count ∙ sym long;
        agree = λ k g c at is. elim (pushed_at so_far.contents one.content c k is) [
          | inl before ↦ so_far.agree k g c at before
          | inr last ↦
              let same : f ≡ g = same_Some f g (sym there ∙ ap (slice_get t.files) (sym (last.0 ∙ so_far.count)) ∙ at) in
              subst (Agrees ((shelf.contents s).under g.path)) last.1
              (subst (λ (h : FileEntry). Agrees ((shelf.contents s).under h.path) one.content) same
              (subst (λ (on : ShelfContents). Agrees (on.under f.path) one.content) so_far.stays one.agrees))
        ];
        each = λ k g c v at is said. elim (pushed_at so_far.contents one.content c k is) [
          | inl before ↦ elim (pushed_at files w v k said) [
            | inl early ↦ so_far.each k g c v at before early
            | inr late ↦ absurd (let lt = slice_get_within so_far.contents k c before in omega (arith, lt, late.0, so_far.count))
          ]
          | inr last ↦ elim (pushed_at files w v k said) [
            | inl early ↦ absurd (let lt = slice_get_within files k v early in omega (arith, lt, last.0, so_far.count))
            | inr late ↦
                let same : f ≡ g = same_Some f g (sym there ∙ ap (slice_get t.files) (sym late.0) ∙ at) in
                subst (IsVerdict t g c) late.1 (subst (λ d. IsVerdict t g d w) last.1 (subst (λ h. IsVerdict t h one.content w) same one.says))
          ]
        ];
      }

  -- as a check that stopped says it
  visits_first : (s s' : S) (files : List FileVerdict) → IsSeenFirst s files s' → VisitsFirst shelf seen t s files s'
  visits_first s s' files all = record {
    once = all.once;
    counted = all.counted;
    are_true = record {
      contents = contents_of all.contents;
      agree = λ k f lt there.
          let c = item_at all.contents k (omega (arith, lt, all.count)) in
          subst (Agrees ((shelf.contents s).under f.path)) (sym (contents_extend all.contents k c.0 c.1)) (all.agree k f c.0 there c.1);
      each = λ k f v there said.
          let c = item_at all.contents k (let lt = slice_get_within files k v said in omega (arith, lt, all.count)) in
          subst (λ d. IsVerdict t f d v) (sym (contents_extend all.contents k c.0 c.1)) (all.each k f c.0 v there c.1 said);
    };
  }

  module _ (spelled : Spelling) (told : Telling) (sound : IsSound t) (plain : NeedsBits told → ⊥) where
    abbrev Look : S → FileEntry → Answer → S → Type 0
    Look = LooksFor shelf seen (check_task spelled t told)

    -- ---- files that were looked at and not told of

    says_there : (n : ℕ) (f : FileEntry) (mid next : S) (a : Answer) → slice_get t.files n ≡ Some f → (w : FileVerdict) × Says shelf seen t f mid next a w
    says_there n f mid next unasked there = (file.Missing, tt)
    says_there n f mid next missing there = (file.Missing, refl)
    says_there n f mid next failed there = (file.Unreadable, refl)
    says_there n f mid next (content bytes) there = let has = verdict_there t n f bytes sound there in (has.verdict, (has.is, has.by_length))

    seen_more : (s mid s' : S) (files : List FileVerdict) (answers : List Answer) → IsSeenFirst s files mid → length files + length answers ≤ length t.files
        → Chain Look mid (take (length answers) (drop (length files) t.files)) answers s'
        → (others : List FileVerdict) × (length others ≡ length answers) × IsSeenFirst s (files ++ others) s'
    seen_more s mid s' files [] so_far inside run =
        ([], refl, subst (λ fs. IsSeenFirst s fs s') (sym (append-nil files)) (subst (IsSeenFirst s files) (sym run) so_far))
    seen_more s mid s' files (a ∷ answers) so_far inside run =
        let n : ℕ = length files in
        let f = item_at t.files n (omega (arith, inside)) in
        let (next, look, rest) = subst (λ fs. Chain Look mid (take (length (a ∷ answers)) fs) (a ∷ answers) s') (drop_item t.files n f.0 f.1) run in
        let w = says_there n f.0 mid next a f.1 in
        let long : length (files ++ w.0 ∷ []) ≡ n + 1 = length_push files w.0 in
        let later = seen_more s next s' (files ++ w.0 ∷ []) answers
        (seen_one s mid next files f.0 w.0 so_far f.1 (seen_so shelf seen t f.0 mid next a w.0 look w.1)) (omega (arith, inside, long))
        (subst (λ k. Chain Look next (take (length answers) (drop k t.files)) answers s') (sym long) rest) in
        (w.0 ∷ later.0, ap suc later.1, subst (λ fs. IsSeenFirst s fs s') (append_assoc files (w.0 ∷ []) later.0) later.2)

    -- ---- files that were told of

    record IsSaidFirst (old : S × SinkSeen) (n : ℕ) (s : S) (k : CheckState) : Type 0 where
      told_first : IsToldFirst V spelled t told old n k.files k.v1 (s, k.out)
      sent : SentLines spelled t told k.files old.1 k.out

    said_one : (old : S × SinkSeen) (n : ℕ) (s mid : S) (k half : CheckState) (f : FileEntry) (a : Answer) → slice_get t.files n ≡ Some f → Look s f a mid
        → Takes (check_task spelled t told) k f a half → IsSaidFirst old n s k → IsSaidFirst old (n + 1) mid half
    said_one old n s mid k half f a there look take so_far =
        let v = take.verdicts in
        let takes = take.takes in
        let visit = visited_found shelf seen t f s mid a v look take.finds in
        let at : slice_get t.files (length k.files) ≡ Some f =
        ap (slice_get t.files) (told_count V spelled t told old (s, k.out) n k.files k.v1 so_far.told_first) ∙ there in
        record {
          told_first = subst (λ b. IsToldFirst V spelled t told old (n + 1) half.files b (mid, half.out)) (sym takes.v1_is)
              (subst (λ fs. IsToldFirst V spelled t told old (n + 1) fs (worse_v1 k.v1 v.v1) (mid, half.out)) (sym takes.files_are)
              (told_one V spelled t told old (s, k.out) n k.files k.v1 f v [] mid half.out (plain_tells V t told plain) there visit takes.tells
              so_far.told_first));
          sent = subst (λ fs. SentLines spelled t told fs old.1 half.out) (sym takes.files_are)
              (sent_one spelled t told k.files f visit.finds.content v.file old.1 k.out half.out at so_far.sent takes.tells);
        }

    said_more : (old : S × SinkSeen) (n : ℕ) (s s' : S) (k k' : CheckState) (answers : List Answer) → n + length answers ≤ length t.files
        → Chain Look s (take (length answers) (drop n t.files)) answers s'
        → Chain (Takes (check_task spelled t told)) k (take (length answers) (drop n t.files)) answers k' → IsSaidFirst old n s k
        → IsSaidFirst old (n + length answers) s' k'
    said_more old n s s' k k' [] inside looks takes so_far =
        let same : n ≡ n + 0 = omega arith in
        subst (λ m. IsSaidFirst old m s' k') same (subst (λ x. IsSaidFirst old n x k') (sym looks) (subst (IsSaidFirst old n s) (sym takes) so_far))
    said_more old n s s' k k' (a ∷ answers) inside looks takes so_far =
        let Take = Takes (check_task spelled t told) in
        let f = item_at t.files n (omega (arith, inside)) in
        let item = drop_item t.files n f.0 f.1 in
        let (mid, look, rest) = subst (λ fs. Chain Look s (take (length (a ∷ answers)) fs) (a ∷ answers) s') item looks in
        let (half, take_one, later) = subst (λ fs. Chain Take k (take (length (a ∷ answers)) fs) (a ∷ answers) k') item takes in
        let same : n + 1 + length answers ≡ n + length (a ∷ answers) = omega arith in
        subst (λ m. IsSaidFirst old m s' k') same
        (said_more old (n + 1) mid s' half k' answers (omega (arith, inside)) rest later (said_one old n s mid k half f.0 a f.1 look take_one so_far))

    said_none : (s : S) (k : CheckState) → k.files ≡ [] → k.v1 ≡ version1.Good → IsSaidFirst (s, k.out) 0 s k
    said_none s k none good = record {
      told_first = subst (λ b. IsToldFirst V spelled t told (s, k.out) 0 k.files b (s, k.out)) (sym good)
          (subst (λ fs. IsToldFirst V spelled t told (s, k.out) 0 fs version1.Good (s, k.out)) (sym none) (told_none V spelled t told (s, k.out)));
      sent = subst (λ fs. SentLines spelled t told fs k.out k.out) (sym none) (sent_none spelled t told k.out);
    }

    -- all were
    pub told_passed : (s s' : S) (k k' : CheckState) → k.files ≡ [] → k.v1 ≡ version1.Good → PassesAll shelf seen (check_task spelled t told) s k s' k'
        → IsToldFirst V spelled t told (s, k.out) (length t.files) k'.files k'.v1 (s', k'.out)
    told_passed s s' k k' none good all =
        let Take = Takes (check_task spelled t told) in
        let long : length all.answers ≡ length t.files = Chain-length Look s t.files all.answers s' all.looks in
        let whole : t.files ≡ take (length all.answers) (drop 0 t.files) = sym (take_all (length all.answers) t.files (omega (arith, long))) in
        let said = said_more (s, k.out) 0 s s' k k' all.answers (omega (arith, long))
        (subst (λ fs. Chain Look s fs all.answers s') whole all.looks) (subst (λ fs. Chain Take k fs all.answers k') whole all.takes)
        (said_none s k none good) in
        let same : 0 + length all.answers ≡ length t.files = omega (arith, long) in
        (subst (λ n. IsSaidFirst (s, k.out) n s' k') same said).told_first

-- what is told of a file broke off
pub stops_passing : {S F : Type 0} (shelf : Ghosts S F) (seen : F → SourceSeen) (t : Description) (spelled : Spelling) (told : Telling) (s s' : S)
    (k k' : CheckState) (number : ℕ) (fault : DeviceFault) → IsSound t → (NeedsBits told → ⊥) → k.files ≡ [] → k.v1 ≡ version1.Good
    → StopsPassing shelf seen (check_task spelled t told) s k number fault s' k' → StopsInBatch shelf seen spelled t told (s, k.out) (s', k'.out)
stops_passing shelf seen t spelled telling.Nothing s s' k k' number fault sound plain none good stops = absurd (stops.takes.stops.takes.some tt)
stops_passing shelf seen t spelled (telling.Line lines) s s' k k' number fault sound plain none good stops =
    let told : Telling = telling.Line lines in
    let task = check_task spelled t told in
    let at = at_stop shelf seen task s s' k k' number fault stops in
    let back = behind shelf seen task s s' k k' number fault stops refl in
    let middle = stops.takes.middle in
    let f = stops.takes.item in
    let a = stops.takes.answer in
    let last = stops.takes.stops in
    let v = last.verdicts in
    let firsts : List Answer = take number stops.answers in
    let inside : number < length t.files = slice_get_within t.files number f stops.takes.item_is in
    let reached : number < length stops.answers = slice_get_within stops.answers number a stops.takes.answer_is in
    let count : length firsts ≡ number = length-take number stops.answers ∙ omega (arith, reached) in
    let said = said_more shelf seen t spelled told sound plain (s, k.out) 0 s at.from k middle firsts (omega (arith, count, inside))
    (subst (λ n. Chain (LooksFor shelf seen task) s (take n t.files) firsts at.from) (sym count) (looks_before shelf seen task s s' k k' number fault stops))
    (subst (λ n. Chain (Takes task) k (take n t.files) firsts middle) (sym count) (takes_before shelf seen task s s' k k' number fault stops refl))
    (said_none shelf seen t spelled told sound plain s k none good) in
    let long : length middle.files ≡ number =
    told_count (whole_visiting shelf seen t) spelled t told (s, k.out) (at.from, middle.out) (0 + length firsts) middle.files middle.v1 said.told_first
    ∙ omega (arith, count) in
    let there : slice_get t.files (length middle.files) ≡ Some f = ap (slice_get t.files) long ∙ stops.takes.item_is in
    let visit = visited_found shelf seen t f at.from at.to a v at.step last.finds in
    let so_far = seen_one shelf seen t s at.from at.to middle.files f v.file
    (seen_told shelf seen t spelled told (s, k.out) (at.from, middle.out) (0 + length firsts) middle.files middle.v1 said.told_first) there
    (seen_found shelf seen t f at.from at.to a v at.step last.finds) in
    let upto : length (middle.files ++ v.file ∷ []) ≡ number + 1 = length_push middle.files v.file ∙ ap (λ n. n + 1) long in
    let others = seen_more shelf seen t spelled told sound plain s at.to s' (middle.files ++ v.file ∷ []) back.answers so_far (omega (arith, upto, back.inside))
    (subst (λ n. Chain (LooksFor shelf seen task) at.to (take (length back.answers) (drop n t.files)) back.answers s') (sym upto) back.run) in
    record {
      told = middle.files;
      verdict = v.file;
      ahead = others.0;
      few = omega (arith, others.1, back.few);
      visits = visits_first shelf seen t s s' (middle.files ++ v.file ∷ others.0)
          (subst (λ fs. IsSeenFirst shelf seen t s fs s') (append_assoc middle.files (v.file ∷ []) others.0) others.2);
      mid = middle.out;
      sent = said.sent;
      file = f;
      file_is = there;
      broke = subst (Broke middle.out k'.out) (last.takes.tells.is visit.finds.content tt) last.takes.tells.went;
    }
stops_passing shelf seen t spelled (telling.LineAndRuns lines) s s' k k' number fault sound plain none good stops = absurd (plain tt)
stops_passing shelf seen t spelled (telling.RunsIn r) s s' k k' number fault sound plain none good stops = absurd (plain tt)
