-- The visits of a torrent's files, as far as its first ones.
use Rattle.std.proofs.Common.{◌≡◌, ◌∙◌, ℕ, suc, ◌+◌, ◌-◌, ◌<◌, ◌^◌, Bool, true, false, ◌&&◌, is_some, arith, List, [], ◌∷◌, ◌++◌}
use Rattle.std.proofs.Common.{length, slice_get, take, Option, Some, refl, ap, ap₂, subst, sym}
use Rattle.std.specs.List.{list_all}
use Rattle.std.proofs.lemmas.List.{length_push, map-append, take_all}
use Rattle.std.proofs.lemmas.List.Folds.{list_all-append}
use Rattle.std.proofs.lemmas.List.Sums.{count_by-le-length}
use Rattle.std.specs.Option.{option_map}
use Rattle.std.proofs.lemmas.Option.{same_Some, slice_get-map, slice_get_within}
use Rattle.benc.specs.Device.{Broke, Sent, SinkSeen}
use Rattle.chains.specs.Chain.{Chain}
use Rattle.chains.proofs.Cases.{item_at, item_stays, pushed_last}
use Rattle.chains.proofs.Chains.{Chain-each, Chain-item}
use Rattle.opening.specs.Description.{Description, FileEntry}
use Rattle.opening.specs.Sound.{IsSound}
use Rattle.folders.specs.Folder.{Contents}
use Rattle.folders.specs.Shelf.{ShelfContents, more}
use Rattle.folders.specs.Verdicts.{Agrees, CountsUnreadable, is_checked, is_unreadable, is_whole, unreadable_count}
use Rattle.folders.specs.declared.report.FileVerdict.{FileVerdict}
use Rattle.folders.specs.declared.report.V1Verdict.{V1Verdict}
use Rattle.folders.specs.declared.report.V1Verdict.TheVariants as version1
use Rattle.folders.proofs.Counts.{more_none, unreadable_push}
use Rattle.parts.specs.Checking.{shelf_and_sink}
use Rattle.parts.specs.Telling.{NeedsBits, TellsNothing, Tells, TellsFirst, Told}
use Rattle.parts.specs.Visiting.{Finds, SaysAndTells, StopsAtFile, TellsOwn, Visiting, VisitsAll, VisitsFile, VisitsOne, verdicts_in}
use Rattle.lines.specs.Rows.{Spelling}
use Rattle.parts.specs.Worse.{worse_v1}
use Rattle.parts.specs.declared.telling.Telling.{Telling}
use Rattle.parts.specs.declared.telling.Telling.TheVariants as telling
use Rattle.parts.specs.declared.verdicts.Verdicts.{Verdicts}
use Rattle.parts.proofs.Contents.{contents_extend, contents_of}
use Rattle.parts.proofs.FirstFiles.{FindsOne, HasFoundFirst, IsV1SoFar, agree_more, all_agree, found_none, found_one, v1_all}

-- the worse of two is one on pieces that were compared exactly if both are
both_checked : (a b : V1Verdict) → is_checked (worse_v1 a b) ≡ is_checked a && is_checked b
both_checked version1.NotChecked b = refl
both_checked version1.Good b = refl
both_checked (version1.Bad p) version1.Good = refl
both_checked (version1.Bad p) (version1.Bad q) = refl
both_checked (version1.Bad p) version1.NotChecked = refl

and_true : (b : Bool) → b && true ≡ b
and_true true = refl
and_true false = refl

verdicts_push : (told : List (FileVerdict × List ℕ)) (v : FileVerdict) (text : List ℕ) → verdicts_in (told ++ (v, text) ∷ []) ≡ verdicts_in told ++ v ∷ []
verdicts_push told v text = map-append (λ x. x.0) told ((v, text) ∷ [])

-- there are as many
pub length-told : (told : List (FileVerdict × List ℕ)) → length (verdicts_in told) ≡ length told
length-told [] = refl
length-told (x ∷ xs) = ap suc (length-told xs)

-- the verdict at a number
pub verdict_at : (told : List (FileVerdict × List ℕ)) (n : ℕ) (v : FileVerdict) → slice_get (verdicts_in told) n ≡ Some v
    → (x : FileVerdict × List ℕ) × (slice_get told n ≡ Some x) × (x.0 ≡ v)
verdict_at told n v is =
    let at = item_at told n (omega (arith, slice_get_within (verdicts_in told) n v is, length-told told)) in
    (at.0, at.1, same_Some at.0.0 v (sym (slice_get-mapped told n at.0 at.1) ∙ is))
  where
    slice_get-mapped : (xs : List (FileVerdict × List ℕ)) (n : ℕ) (x : FileVerdict × List ℕ) → slice_get xs n ≡ Some x → slice_get (verdicts_in xs) n ≡ Some x.0
    slice_get-mapped xs n x is = slice_get-map (λ y. y.0) xs n ∙ ap (option_map (λ y. y.0)) is

-- the failures that were counted are those of the unreadable files
counts_of : (old new : ℕ) (files : List FileVerdict) → length files < 2 ^ 64 → new ≡ more old (unreadable_count files) → CountsUnreadable old new files
counts_of old new files few counted =
    let low : unreadable_count files < 2 ^ 64 = omega (arith, few, count_by-le-length is_unreadable files) in
    record { counted = counted; readable = λ same. more_none old (unreadable_count files) low (sym counted ∙ same) }

-- what is told without bits is told whatever they are
pub plain_tells : {S : Type 0} (V : Visiting S) (t : Description) (told : Telling) → (NeedsBits told → ⊥) → TellsOwn V t told
plain_tells V t telling.Nothing plain = λ n f c v bits there marks. tt
plain_tells V t (telling.Line lines) plain = λ n f c v bits there marks. tt
plain_tells V t (telling.LineAndRuns lines) plain = absurd (plain tt)
plain_tells V t (telling.RunsIn r) plain = absurd (plain tt)

module _ {S : Type 0} (V : Visiting S) where
  -- the visits of some files
  pub visits_of : (old : S × SinkSeen) (fs : List FileEntry) (told : List (FileVerdict × List ℕ)) (new : S × SinkSeen)
      → Chain (VisitsOne V) old fs told new → Chain V.visits old.0 fs (verdicts_in told) new.0
  visits_of = Chain-each (VisitsOne V) (λ old fs told new. Chain V.visits old.0 fs (verdicts_in told) new.0) (λ old. refl)
      (λ old f x mid fs xs new step rest later. (mid.0, step.visits, later))

  module _ (spelled : Spelling) (t : Description) (telling : Telling) (files : List FileVerdict) (v1 : Option V1Verdict) (old new : S × SinkSeen)
      (all : VisitsAll V spelled t telling files v1 old new) where
    -- each file was visited
    pub visits_once : Chain V.visits old.0 t.files files new.0
    visits_once = subst (λ vs. Chain V.visits old.0 t.files vs new.0) all.verdicts_are (visits_of old t.files all.told new all.visited)

    -- for a verdict that is true of the contents that were found
    pub verdicts_say : (m : ℕ) (f : FileEntry) (v : FileVerdict) → slice_get t.files m ≡ Some f → slice_get files m ≡ Some v
        → V.says f (all.contents m) v
    verdicts_say m f v there said =
        let x = verdict_at all.told m v (subst (λ vs. slice_get vs m ≡ Some v) (sym all.verdicts_are) said) in
        subst (V.says f (all.contents m)) x.2 (all.each m f x.0 there x.1).0

module _ {S : Type 0} (V : Visiting S) (spelled : Spelling) (t : Description) (telling : Telling) where
  -- the first n files were visited and told of
  pub record IsToldFirst (old : S × SinkSeen) (n : ℕ) (files : List FileVerdict) (v1 : V1Verdict) (new : S × SinkSeen) : Type 0 where
    pub told : List (FileVerdict × List ℕ)
    pub verdicts_are : verdicts_in told ≡ files
    pub count : length told ≡ n
    pub counted : V.faults new.0 ≡ more (V.faults old.0) (unreadable_count files)
    pub visited : Chain (VisitsOne V) old (take n t.files) told new
    pub stays : V.contents new.0 ≡ V.contents old.0
    pub checked : is_checked v1 ≡ list_all is_whole files
    pub found : HasFoundFirst t V.places (SaysAndTells V spelled t telling) (V.contents old.0).under n told v1

  -- there are as many verdicts
  pub told_count : (old new : S × SinkSeen) (n : ℕ) (files : List FileVerdict) (v1 : V1Verdict) → IsToldFirst old n files v1 new → length files ≡ n
  told_count old new n files v1 all = ap length (sym all.verdicts_are) ∙ length-told all.told ∙ all.count

  -- none yet
  pub told_none : (old : S × SinkSeen) → IsToldFirst old 0 [] version1.Good old
  told_none old = record {
    told = [];
    verdicts_are = refl;
    count = refl;
    counted = refl;
    visited = refl;
    stays = refl;
    checked = refl;
    found = found_none t V.places (SaysAndTells V spelled t telling) (V.contents old.0).under;
  }

  -- what was found after the first n files, of the shelf that stood there at the start
  finds_there : (old mid : S × SinkSeen) (n : ℕ) (files : List FileVerdict) (a : V1Verdict) (f : FileEntry) (v : Verdicts) (bits : List ℕ) (visited : S)
      → IsToldFirst old n files a mid → VisitsFile V t mid.0 f bits v visited → Finds V t f ((V.contents old.0).under f.path) bits v
  finds_there old mid n files a f v bits visited so_far next =
      subst (λ (on : ShelfContents). Finds V t f (on.under f.path) bits v) so_far.stays next.finds

  checked_next : (files : List FileVerdict) (a : V1Verdict) (f : FileEntry) (known : Option (Option (List ℕ))) (v : Verdicts) (bits : List ℕ)
      → is_checked a ≡ list_all is_whole files → Finds V t f known bits v → is_checked (worse_v1 a v.v1) ≡ list_all is_whole (files ++ v.file ∷ [])
  checked_next files a f known v bits so_far finds =
      both_checked a v.v1 ∙ ap₂ (λ x y. x && y) so_far (finds.checked ∙ sym (and_true (is_whole v.file))) ∙ sym (list_all-append is_whole files (v.file ∷ []))

  -- and told of
  pub told_one : (old mid : S × SinkSeen) (n : ℕ) (files : List FileVerdict) (a : V1Verdict) (f : FileEntry) (v : Verdicts) (bits : List ℕ) (visited : S)
      (out : SinkSeen) → TellsOwn V t telling → slice_get t.files n ≡ Some f → VisitsFile V t mid.0 f bits v visited
      → Told (λ content. Tells spelled t telling f content v.file) t telling f v.file bits (Sent mid.1 out)
      → IsToldFirst old n files a mid → IsToldFirst old (n + 1) (files ++ v.file ∷ []) (worse_v1 a v.v1) (shelf_and_sink visited out)
  told_one old mid n files a f v bits visited out own there next tells so_far =
      let finds = finds_there old mid n files a f v bits visited so_far next in
      let one : FindsOne t V.places (SaysAndTells V spelled t telling) f ((V.contents old.0).under f.path) (v.file, tells.text) v.v1 = record {
        content = finds.content;
        agrees = finds.agrees;
        says = (finds.verdict, tells.is finds.content (own n f finds.content v.file bits there finds.marks));
        version1 = finds.version1;
      } in
      let step : VisitsOne V mid f (v.file, tells.text) (shelf_and_sink visited out) = record { visits = next.visits; told = tells.went } in
      record {
        told = so_far.told ++ (v.file, tells.text) ∷ [];
        verdicts_are = verdicts_push so_far.told v.file tells.text ∙ ap (λ vs. vs ++ v.file ∷ []) so_far.verdicts_are;
        count = length_push so_far.told (v.file, tells.text) ∙ ap (λ k. k + 1) so_far.count;
        counted = unreadable_push (V.faults old.0) (V.faults mid.0) (V.faults visited) files v.file so_far.counted next.counts;
        visited = Chain-item (VisitsOne V) old mid (shelf_and_sink visited out) t.files n so_far.told f (v.file, tells.text) there so_far.visited step;
        stays = next.stays ∙ so_far.stays;
        checked = checked_next files a f _ v bits so_far.checked finds;
        found = found_one t V.places (SaysAndTells V spelled t telling) (V.contents old.0).under n so_far.told a v.v1 f (v.file, tells.text) there
            so_far.count one so_far.found;
      }

  -- or what is told of it broke off
  pub stops_at : (old mid : S × SinkSeen) (n : ℕ) (files : List FileVerdict) (a : V1Verdict) (f : FileEntry) (v : Verdicts) (bits : List ℕ) (visited : S)
      (out : SinkSeen) → length files < 2 ^ 64 - 1 → (TellsNothing telling → ⊥) → TellsOwn V t telling → slice_get t.files n ≡ Some f
      → VisitsFile V t mid.0 f bits v visited
      → Told (λ content. TellsFirst spelled t telling f content v.file) t telling f v.file bits (Broke mid.1 out)
      → IsToldFirst old n files a mid → StopsAtFile V spelled t telling old (shelf_and_sink visited out)
  stops_at old mid n files a f v bits visited out few some own there next tells so_far =
      let finds = finds_there old mid n files a f v bits visited so_far next in
      let under = (V.contents old.0).under in
      let seen_all : List (Option (List ℕ)) = so_far.found.seen ++ finds.content ∷ [] in
      let contents : Contents = contents_of seen_all in
      let stated = so_far.found.stated contents (λ k c at. contents_extend seen_all k c (item_stays so_far.found.seen (finds.content ∷ []) k c at)) in
      let here : contents n ≡ finds.content = contents_extend seen_all n finds.content (pushed_last so_far.found.seen finds.content n
      (sym so_far.found.count)) in
      let last_is : contents (length so_far.told) ≡ finds.content = ap contents so_far.count ∙ here in
      let counted : V.faults visited ≡ more (V.faults old.0) (unreadable_count (verdicts_in so_far.told ++ v.file ∷ [])) =
      subst (λ vs. V.faults visited ≡ more (V.faults old.0) (unreadable_count (vs ++ v.file ∷ []))) (sym so_far.verdicts_are)
      (unreadable_push (V.faults old.0) (V.faults mid.0) (V.faults visited) files v.file so_far.counted next.counts) in
      let last = tells.is finds.content (own n f finds.content v.file bits there finds.marks) in
      record {
        some = some;
        told = so_far.told;
        between = mid;
        before = subst (λ m. Chain (VisitsOne V) old (take m t.files) so_far.told mid) (sym so_far.count) so_far.visited;
        file = f;
        file_is = ap (slice_get t.files) so_far.count ∙ there;
        verdict = v.file;
        visits = next.visits;
        text = tells.text;
        broke = tells.went;
        contents = contents;
        agree = λ k g lt at.
            let inside : k < length seen_all = omega (arith, lt, so_far.count, length_push so_far.found.seen finds.content, so_far.found.count) in
            let c = item_at seen_all k inside in
            subst (Agrees (under g.path)) (sym (contents_extend seen_all k c.0 c.1))
            (agree_more t V.places (SaysAndTells V spelled t telling) under n so_far.told a f finds.content there finds.agrees so_far.found k g c.0 at c.1);
        each = λ k g x at said. stated.each k g x at said;
        says = subst (λ c. V.says f c v.file) (sym last_is) finds.verdict;
        last = subst (λ c. TellsFirst spelled t telling f c v.file tells.text) (sym last_is) last;
        counts = counts_of (V.faults old.0) (V.faults visited) (verdicts_in so_far.told ++ v.file ∷ [])
            (omega (arith, few, ap length so_far.verdicts_are, length_push (verdicts_in so_far.told) v.file)) counted;
      }

  -- all files were
  pub told_all : (old new : S × SinkSeen) (n : ℕ) (files : List FileVerdict) (a : V1Verdict) (v1 : Option V1Verdict) → IsSound t → n ≡ length t.files
      → length files < 2 ^ 64 → is_some v1 ≡ is_some t.v1 → ((v : V1Verdict) → v1 ≡ Some v → a ≡ v) → IsToldFirst old n files a new
      → VisitsAll V spelled t telling files v1 old new
  told_all old new n files a v1 sound all few hybrid is so_far =
      let under = (V.contents old.0).under in
      let contents : Contents = contents_of so_far.found.seen in
      let stated = so_far.found.stated contents (contents_extend so_far.found.seen) in
      record {
        has = record {
          count = ap length (sym so_far.verdicts_are) ∙ length-told so_far.told ∙ so_far.count ∙ all;
          hybrid = hybrid;
          checked = λ v at. ap is_checked (sym (is v at)) ∙ so_far.checked;
        };
        contents = contents;
        agree = all_agree t V.places (SaysAndTells V spelled t telling) under n so_far.told a all so_far.found;
        told = so_far.told;
        verdicts_are = so_far.verdicts_are;
        each = stated.each;
        version1 = λ w v is_v1 at. v1_all t w V.places contents n v sound all
            (subst (IsV1SoFar t w V.places contents n) (is v at) (stated.version1 w is_v1));
        visited = subst (λ fs. Chain (VisitsOne V) old fs so_far.told new) (take_all n t.files (omega (arith, all))) so_far.visited;
        counts = counts_of (V.faults old.0) (V.faults new.0) files few so_far.counted;
      }
