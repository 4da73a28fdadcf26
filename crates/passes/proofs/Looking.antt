-- What came of looking at one path, and at several.
use Rattle.std.proofs.Common.{◌≡◌, ◌∙◌, inl, inr, ℕ, ◌+◌, ◌<◌, ◌≤◌, true, false, List, [], ◌∷◌, ◌++◌, length, take, slice_get}
use Rattle.std.proofs.Common.{Option, Some, None, Result, Ok, Err, refl, sym, ap, subst, arith}
use Rattle.std.proofs.lemmas.List.{append_assoc, append-nil, length-append, length_push}
use Rattle.std.proofs.lemmas.Option.{same_Some, slice_get_within}
use Rattle.benc.specs.Device.{CountsFault, SourceSeen, one_more}
use Rattle.benc.specs.declared.device.DeviceFault.{DeviceFault}
use Rattle.chains.specs.Chain.{Chain}
use Rattle.chains.proofs.Cases.{last_or_before, pushed_at}
use Rattle.chains.proofs.Chains.{Chain-item}
use Rattle.folders.specs.Shelf.{more}
use Rattle.folders.specs.declared.shelf.Shelf.{Ghosts}
use Rattle.folders.proofs.Visiting.{agrees_missing, agrees_opened}
use Rattle.passes.specs.Batches.{EndsLooking, EndsOne, KeepsLooked, LooksAtOne, LooksOn, LooksOnce, MayWait, looked_of}
use Rattle.passes.specs.Held.{Answer, Reach, GivesContent, HeldSeen, HoldsMore, KeepsHeld, as_answer, content, failed, missing, unasked}
use Rattle.passes.specs.Passing.{AnswersOpening, AreSure, Looks, LooksFor, LooksTo, OpensFor, ReadsFor, ReadsThere, StopsFor, Task, Want, is_amiss}
use Rattle.passes.specs.declared.nothing.Nothing.{Nothing}
use Rattle.passes.specs.declared.stopped.Stopped.{Stopped}

pub keeps_same : (h : HeldSeen) → KeepsHeld h h
keeps_same h = record { answers_are = refl; cutting_is = refl }

-- ---- sure answers

pub sure_none : (held : List Answer) → held ≡ [] → AreSure held
sure_none held none j a is = let no : ⊥ = cc in absurd no

pub sure_more : (all : List Answer) (a : Answer) → AreSure all → is_amiss a ≡ false → AreSure (all ++ a ∷ [])
sure_more all a are is j b at = elim (pushed_at all a b j at) [
  | inl before ↦ are j b before
  | inr last ↦ ap is_amiss (sym last.1) ∙ is
]

-- what a pass stops for, with the number of the item
abbrev pub numbered : {A Stop : Type 0} → ℕ → Result A Stop → Result A (Stopped Stop)
numbered number (Ok x) = Ok x
numbered number (Err stop) = Err (record { number = number; stop = stop })

module _ {S F : Type 0} (shelf : Ghosts S F) (seen : F → SourceSeen) where
  -- ---- one path

  -- a path that was opened is wanted
  pub record WasWanted (o : Option Want) (s : S) (opened : Result (Option F) DeviceFault) (mid : S) : Type 0 where
    pub want : Want
    pub is : o ≡ Some want
    pub opens : AnswersOpening shelf seen s want.path opened mid

  pub wanted : (o : Option Want) (s mid : S) (r : Option (Result (Option F) DeviceFault)) (opened : Result (Option F) DeviceFault) → r ≡ Some opened
      → OpensFor shelf seen o s r mid → WasWanted o s opened mid
  wanted None s mid None opened is opens = let no : ⊥ = cc in absurd no
  wanted None s mid (Some r) opened is opens = absurd opens
  wanted (Some w) s mid None opened is opens = let no : ⊥ = cc in absurd no
  wanted (Some w) s mid (Some r) opened is opens =
      record { want = w; is = refl; opens = subst (λ x. AnswersOpening shelf seen s w.path x mid) (same_Some r opened is) opens }

  pub looks_unasked : (R : Reach) (o : Option Want) (s s' : S) (r : Option (Result (Option F) DeviceFault)) → r ≡ None → OpensFor shelf seen o s r s'
      → Looks shelf seen R o s unasked s'
  looks_unasked R None s s' None is opens = (refl, opens)
  looks_unasked R None s s' (Some r) is opens = absurd opens
  looks_unasked R (Some w) s s' None is opens = absurd opens
  looks_unasked R (Some w) s s' (Some r) is opens = let no : ⊥ = cc in absurd no

  pub looks_missing : (R : Reach) (o : Option Want) (s s' : S) → WasWanted o s (Ok None) s' → Looks shelf seen R o s missing s'
  looks_missing R o s s' was =
      let opened = was.opens in
      subst (λ x. Looks shelf seen R x s missing s') (sym was.is) (record {
        opened = opened.opens;
        agrees = agrees_missing ((shelf.contents s).under was.want.path) opened.found;
        quiet = opened.counts;
        stays = opened.stays;
      })

  pub looks_failed : (R : Reach) (o : Option Want) (s s' : S) (e : DeviceFault) → WasWanted o s (Err e) s' → Looks shelf seen R o s failed s'
  looks_failed R o s s' e was = subst (λ x. Looks shelf seen R x s failed s') (sym was.is)
      (record { failed = inl (e, was.opens.opens); counted = was.opens.counts; stays = was.opens.stays })

  module _ {Found : Type 0} (Finds : Answer → Found → Type 0) (R : Reach) (w : Want) (s mid s' : S) (file file' : F) (h h' : HeldSeen)
      (o : AnswersOpening shelf seen s w.path (Ok (Some file)) mid) (closed : shelf.closes mid file' s')
      (counted : shelf.faults s' ≡ more (shelf.faults mid) (seen file').faults) (stays : shelf.contents s' ≡ shelf.contents mid) where
    reads_there : (bytes : List ℕ) → GivesContent R bytes (seen file) (seen file') → (seen file').faults ≡ (seen file).faults
        → ReadsThere shelf seen R s w.path bytes s'
    reads_there bytes has quiet = record {
      file = file;
      handed = record { between = mid; opened = o.opens; read = file'; reading = record { is_read = has.is_read; quiet = quiet }; closed = closed };
      gave = has.agrees;
      agrees = agrees_opened ((shelf.contents s).under w.path) (seen file).left bytes o.found has.agrees;
      quiet = counted ∙ ap (more (shelf.faults mid)) (quiet ∙ o.fresh) ∙ o.counts;
      stays = stays ∙ o.stays;
    }

    pub looks_read : (read : Result (Option Found) DeviceFault) → ReadsFor Finds R w.most (seen file) (seen file') h h' read
        → CountsFault (seen file).faults (seen file').faults read
        → (a : Answer) × Looks shelf seen R (Some w) s a s' × KeepsLooked Finds a h h' (looked_of read)
    looks_read (Ok None) (bytes, has, holds) quiet = (content bytes, reads_there bytes has quiet, (holds, refl))
    looks_read (Ok (Some found)) (bytes, has, finds, keeps) quiet = (content bytes, reads_there bytes has quiet, (finds, keeps, refl))
    looks_read (Err fault) (early, keeps) one = (
      failed,
      record {
        failed = inr (
          file,
          record {
            between = mid;
            opened = o.opens;
            read = file';
            reading = record { early = early; counted = one };
            closed = closed;
          },
        );
        counted = counted ∙ ap (more (shelf.faults mid)) (one ∙ ap one_more o.fresh) ∙ ap one_more o.counts;
        stays = stays ∙ o.stays;
      },
      (refl, keeps),
    )

  module _ {Item State Found Stop : Type 0} (t : Task Item State Found Stop) where
    pub looks_once : (number : ℕ) (s s' : S) (h h' : HeldSeen) (r : Result (Option Found) Nothing) (i : Item) → slice_get t.items number ≡ Some i
        → (a : Answer) → Looks shelf seen (t.reads i) (t.wants i) s a s' → KeepsLooked (t.finds i) a h h' r
        → LooksOnce shelf seen t number s h h' r s'
    looks_once number s s' h h' r i there a looks keeps =
        record { answer = a; looks = record { item = i; item_is = there; looks = looks }; keeps = keeps }

    -- what came of it is held, or found, or nothing
    pub ends_ok : (number : ℕ) (s s' : S) (h h' : HeldSeen) (found : Option Found) → LooksOnce shelf seen t number s h h' (Ok found) s'
        → EndsOne shelf seen t number s h h' (Ok found) s'
    ends_ok number s s' h h' None once = record { answer = once.answer; looks = once.looks; ends = (once.keeps.0, λ hasty. once.keeps.1) }
    ends_ok number s s' h h' (Some found) once =
        record { answer = once.answer; looks = once.looks; ends = (once.keeps.0, once.keeps.1, λ hasty. once.keeps.2) }

    pub ends_stop : (number : ℕ) (s s' : S) (h h' : HeldSeen) (why : Nothing) (stop : Stop) (once : LooksOnce shelf seen t number s h h' (Err why) s')
        → StopsFor t once.looks.item (as_answer why) (Some stop) → EndsOne shelf seen t number s h h' (Err stop) s'
    ends_stop number s s' h h' why stop once stops = record {
      answer = once.answer;
      looks = once.looks;
      ends = (subst (λ a. StopsFor t once.looks.item a (Some stop)) (sym once.keeps.0) stops, once.keeps.1);
    }

    pub ends_nothing : (number : ℕ) (s s' : S) (h m h' : HeldSeen) (why : Nothing) (once : LooksOnce shelf seen t number s h m (Err why) s')
        → StopsFor t once.looks.item (as_answer why) None → HoldsMore m (as_answer why) h' → EndsOne shelf seen t number s h h' (Ok None) s'
    ends_nothing number s s' h m h' why once stops holds = record {
      answer = once.answer;
      looks = once.looks;
      ends = (
        record {
          answers_are = holds.answers_are ∙ ap (λ held. held ++ as_answer why ∷ []) once.keeps.1.answers_are ∙ ap (λ a. h.answers ++ a ∷ []) (sym once.keeps.0);
          cutting_is = holds.cutting_is ∙ once.keeps.1.cutting_is;
        },
        subst (λ a. StopsFor t once.looks.item a None) (sym once.keeps.0) stops,
      );
    }

    -- ---- several

    module _ (from : ℕ) (s : S) where
      -- so far all that came of the paths is held, and their items may wait
      pub record HasLooked (number : ℕ) (held : List Answer) (mid : S) : Type 0 where
        pub place : number ≡ from + length held
        pub few : length held ≤ 64
        pub inside : number ≤ length t.items
        pub run : (start : S) (all : List Answer) → length all ≡ from → LooksTo shelf seen t start all s → LooksTo shelf seen t start (all ++ held) mid
        pub wait : MayWait t from number
        pub sure : t.is_hasty ≡ true → AreSure held

      pub looked_none : (held : List Answer) → held ≡ [] → from ≤ length t.items → HasLooked from held s
      looked_none held none le = record {
        place = omega (arith, ap length none);
        few = omega (arith, ap length none);
        inside = le;
        run = λ start all is looks. subst (λ os. LooksTo shelf seen t start os s) (sym (ap (λ xs. all ++ xs) none ∙ append-nil all)) looks;
        wait = λ j i low high there. absurd (omega (arith, low, high));
        sure = λ hasty. sure_none held none;
      }

      run_more : (number : ℕ) (held : List Answer) (mid s' : S) (a : Answer) → HasLooked number held mid → LooksAtOne shelf seen t number mid a s'
          → (start : S) (all : List Answer) → length all ≡ from → LooksTo shelf seen t start all s → LooksTo shelf seen t start (all ++ (held ++ a ∷ [])) s'
      run_more number held mid s' a so_far one start all is looks =
          let first : List Answer = all ++ held in
          let n : number ≡ length first = omega (arith, so_far.place, is, length-append all held) in
          subst (λ os. LooksTo shelf seen t start os s') (append_assoc all held (a ∷ []))
          (subst (λ m. Chain (LooksFor shelf seen t) start (take m t.items) (first ++ a ∷ []) s') (sym (length_push first a))
          (Chain-item (LooksFor shelf seen t) start mid s' t.items (length first) first one.item a (ap (slice_get t.items) (sym n) ∙ one.item_is)
          (so_far.run start all is looks) one.looks))

      wait_more : (number : ℕ) → MayWait t from number → ((j : Item) → slice_get t.items number ≡ Some j → t.waits j) → MayWait t from (number + 1)
      wait_more number wait this j k low high there = elim (last_or_before j number high) [
        | inl before ↦ wait j k low before there
        | inr now ↦ this k (ap (slice_get t.items) (sym now) ∙ there)
      ]

      -- one more, which is the last unless it may wait
      looks_more : (number : ℕ) (held : List Answer) (mid s' : S) (a : Answer) → HasLooked number held mid → length held < 64
          → LooksAtOne shelf seen t number mid a s' → (0 < length held → (j : Item) → slice_get t.items number ≡ Some j → t.waits j)
          → LooksOn shelf seen t from s (held ++ a ∷ []) s'
      looks_more number held mid s' a so_far few one this =
          let long : length (held ++ a ∷ []) ≡ length held + 1 = length_push held a in
          record {
            some = omega (arith, long);
            run = run_more number held mid s' a so_far one;
            inside = omega (arith, long, so_far.place, slice_get_within t.items number one.item one.item_is);
            few = omega (arith, long, few);
            wait = λ more j i low high there.
                wait_more number so_far.wait (this (omega (arith, more, long))) j i low (omega (arith, high, long, so_far.place)) there;
          }

      pub looked_more : (number : ℕ) (h h' : HeldSeen) (mid s' : S) → HasLooked number h.answers mid → length h.answers < 64
          → EndsOne shelf seen t number mid h h' (Ok None) s'
          → ((j : Item) → slice_get t.items number ≡ Some j → t.waits j) → HasLooked (number + 1) h'.answers s'
      looked_more number h h' mid s' so_far few one this = subst (λ held. HasLooked (number + 1) held s') (sym one.ends.0.answers_are) (record {
        place = omega (arith, so_far.place, length_push h.answers one.answer);
        few = omega (arith, few, length_push h.answers one.answer);
        inside = omega (arith, slice_get_within t.items number one.looks.item one.looks.item_is);
        run = run_more number h.answers mid s' one.answer so_far one.looks;
        wait = wait_more number so_far.wait this;
        sure = λ hasty. sure_more h.answers one.answer (so_far.sure hasty) (one.ends.1 hasty);
      })

      -- what is held is to be taken now
      pub looked_now : (number : ℕ) (held : List Answer) (mid : S) → HasLooked number held mid → 0 < length held
          → EndsLooking shelf seen t from s held mid (Ok None)
      looked_now number held mid so_far some = (
        record {
          some = some;
          run = so_far.run;
          inside = omega (arith, so_far.place, so_far.inside);
          few = so_far.few;
          wait = λ more j i low high there. so_far.wait j i low (omega (arith, high, so_far.place)) there;
        },
        so_far.sure,
      )

      -- or after one more
      pub looked_last : (number : ℕ) (h h' : HeldSeen) (mid s' : S) (r : Result (Option Found) Stop) → HasLooked number h.answers mid
          → length h.answers < 64 → EndsOne shelf seen t number mid h h' r s'
          → (0 < length h.answers → (j : Item) → slice_get t.items number ≡ Some j → t.waits j)
          → EndsLooking shelf seen t from s h'.answers s' (numbered number r)
      looked_last number h h' mid s' (Ok None) so_far few one this =
          subst (λ held. EndsLooking shelf seen t from s held s' (Ok None)) (sym one.ends.0.answers_are) (
            looks_more number h.answers mid s' one.answer so_far few one.looks this,
            λ hasty. sure_more h.answers one.answer (so_far.sure hasty) (one.ends.1 hasty),
          )
      looked_last number h h' mid s' (Ok (Some found)) so_far few one this =
          subst (λ held. EndsLooking shelf seen t from s held s' (Ok (Some found))) (sym one.ends.1.answers_are) (
            one.looks.item,
            one.answer,
            record {
              looks = looks_more number h.answers mid s' one.answer so_far few one.looks this;
              item_is = ap (slice_get t.items) (sym so_far.place) ∙ one.looks.item_is;
              sure = so_far.sure;
            },
            one.ends.0,
            one.ends.2,
          )
      looked_last number h h' mid s' (Err stop) so_far few one this =
          subst (λ held. EndsLooking shelf seen t from s held s' (Err (record { number = number; stop = stop }))) (sym one.ends.1.answers_are) (
            one.looks.item,
            one.answer,
            record {
              looks = looks_more number h.answers mid s' one.answer so_far few one.looks this;
              item_is = ap (slice_get t.items) (sym so_far.place) ∙ one.looks.item_is;
              sure = so_far.sure;
            },
            so_far.place,
            one.ends.0,
          )
