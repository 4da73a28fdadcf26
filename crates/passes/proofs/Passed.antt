-- Items that were passed over, and where it stops.
use Rattle.std.proofs.Common.{◌≡◌, ◌∙◌, inl, inr, ℕ, zero, suc, ◌+◌, ◌<◌, ◌≤◌, true, List, [], ◌∷◌, ◌++◌, length, take}
use Rattle.std.proofs.Common.{slice_get, Option, Some, None, Ok, Err, refl, sym, ap, subst, arith, take_at}
use Rattle.std.proofs.lemmas.List.{append_assoc, length-append, length_push, take-append-le, take_all}
use Rattle.std.proofs.lemmas.Option.{same_Some}
use Rattle.benc.specs.Device.{SourceSeen}
use Rattle.chains.specs.Chain.{Chain}
use Rattle.chains.proofs.Cases.{item_stays, pushed_last}
use Rattle.folders.specs.declared.shelf.Shelf.{Ghosts}
use Rattle.passes.specs.Batches.{AreBatch, EndsLooking, MayWait, TakesBatch, number_behind}
use Rattle.passes.specs.Held.{Answer}
use Rattle.passes.specs.Passing.{AreSure, LooksFor, LooksTo, PassesAll, StopsPassing, Takes, TakesTo, Task, is_amiss}
use Rattle.passes.specs.declared.stopped.Stopped.{Stopped}
use Rattle.passes.proofs.Looking.{sure_more, sure_none}

second_at : {A : Type 0} (xs ys : List A) (k n : ℕ) → n ≡ length xs + k → slice_get (xs ++ ys) n ≡ slice_get ys k
second_at [] ys k n is = let e : n ≡ k = omega (arith, is) in ap (slice_get ys) e
second_at (x ∷ xs) ys k zero is = absurd (omega (arith, is))
second_at (x ∷ xs) ys k (suc n) is = second_at xs ys k n (omega (arith, is))

sure_both : (xs ys : List Answer) → AreSure xs → AreSure ys → AreSure (xs ++ ys)
sure_both [] ys one two j a at = two j a at
sure_both (x ∷ xs) ys one two zero a at = one 0 a at
sure_both (x ∷ xs) ys one two (suc j) a at = sure_both xs ys (λ i b is. one (suc i) b is) two j a at

module _ {S F : Type 0} (shelf : Ghosts S F) (seen : F → SourceSeen) {Item State Found Stop : Type 0} (t : Task Item State Found Stop) (s : S) (k : State) where
  -- the first items were passed over
  pub record HasPassed (from : ℕ) (s' : S) (k' : State) : Type 0 where
    pub answers : List Answer
    pub count : length answers ≡ from
    pub looks : LooksTo shelf seen t s answers s'
    pub takes : TakesTo t k answers from k'
    pub sure : t.is_hasty ≡ true → AreSure answers

  pub passed_none : HasPassed 0 s k
  passed_none = record { answers = []; count = refl; looks = refl; takes = refl; sure = λ hasty. sure_none [] refl }

  pub passed_all : (from : ℕ) (s' : S) (k' : State) → HasPassed from s' k' → length t.items ≤ from → PassesAll shelf seen t s k s' k'
  passed_all from s' k' passed le =
      let items = take_all from t.items le in
      let count : length t.items ≤ length passed.answers = omega (arith, le, passed.count) in
      record {
        answers = passed.answers;
        looks = subst (λ is. Chain (LooksFor shelf seen t) s is passed.answers s') (take_all (length passed.answers) t.items count) passed.looks;
        takes = subst (λ is. Chain (Takes t) k is passed.answers k') items
            (subst (λ os. Chain (Takes t) k (take from t.items) os k') (take_all from passed.answers (omega (arith, passed.count))) passed.takes);
      }

  -- ---- what lies ahead

  -- what was looked at behind the items that were passed over is this batch
  pub record LiesAhead (from : ℕ) (held : List Answer) (last : Option Found) (s' : S) (half : State) : Type 0 where
    pub all : List Answer
    pub count : length all ≡ number_behind t last (from + length held)
    pub more : from < length all
    pub inside : length all ≤ length t.items
    pub looks : LooksTo shelf seen t s all s'
    pub takes : TakesTo t k all from half
    pub batch : AreBatch t from held last all
    pub sure : t.is_hasty ≡ true → AreSure all
    pub few : length all ≤ from + 64
    pub wait : from + 1 < length all → MayWait t from (length all)

  takes_still : (from : ℕ) (mid : S) (half : State) (before : HasPassed from mid half) (back : List Answer) → TakesTo t k (before.answers ++ back) from half
  takes_still from mid half before back =
      subst (λ os. Chain (Takes t) k (take from t.items) os half)
      (sym (take-append-le from before.answers back (omega (arith, before.count)))) before.takes

  module _ (from : ℕ) (mid s' : S) (half : State) (held : List Answer) (before : HasPassed from mid half) where
    pub lies_ahead : (last : Option Found) → EndsLooking shelf seen t from mid held s' (Ok last) → LiesAhead from held last s' half
    lies_ahead None (looks, sure) =
        let long : length (before.answers ++ held) ≡ from + length held = length-append before.answers held ∙ ap (λ n. n + length held) before.count in
        record {
          all = before.answers ++ held;
          count = long;
          more = omega (arith, long, looks.some);
          inside = omega (arith, long, looks.inside);
          looks = looks.run s before.answers before.count before.looks;
          takes = takes_still from mid half before held;
          batch = record {
            inside = looks.inside;
            held_are = λ j a is. second_at before.answers held j (from + j) (omega (arith, before.count)) ∙ is;
            last_is = tt;
          };
          sure = λ hasty. sure_both before.answers held (before.sure hasty) (sure hasty);
          few = omega (arith, long, looks.few);
          wait = λ more j i low high there. looks.wait (omega (arith, more, long)) j i low (omega (arith, high, long)) there;
        }
    lies_ahead (Some found) (item, a, last, finds, stays) =
        let back : List Answer = held ++ a ∷ [] in
        let looks = last.looks in
        let one : length back ≡ length held + 1 = length_push held a in
        let long : length (before.answers ++ back) ≡ from + length back = length-append before.answers back ∙ ap (λ n. n + length back) before.count in
        record {
          all = before.answers ++ back;
          count = omega (arith, long, one);
          more = omega (arith, long, one);
          inside = omega (arith, long, looks.inside);
          looks = looks.run s before.answers before.count before.looks;
          takes = takes_still from mid half before back;
          batch = record {
            inside = omega (arith, looks.inside, one);
            held_are = λ j b is. second_at before.answers back j (from + j) (omega (arith, before.count)) ∙ item_stays held (a ∷ []) j b is;
            last_is = record {
              item = item;
              item_is = last.item_is;
              answer = a;
              answer_is = second_at before.answers back (length held) (from + length held) (omega (arith, before.count))
                  ∙ pushed_last held a (length held) refl;
              finds = finds;
            };
          };
          sure = λ hasty. sure_both before.answers back (before.sure hasty) (sure_more held a (last.sure hasty) (stays hasty));
          few = omega (arith, long, looks.few);
          wait = λ more j i low high there. looks.wait (omega (arith, more, long)) j i low (omega (arith, high, long)) there;
        }

    -- the last path that was looked at ends the pass at once
    pub stops_looking : (stopped : Stopped Stop) → EndsLooking shelf seen t from mid held s' (Err stopped)
        → StopsPassing shelf seen t s k stopped.number stopped.stop s' half
    stops_looking stopped (item, a, last, number_is, stops) =
        let back : List Answer = held ++ a ∷ [] in
        let looks = last.looks in
        let one : length back ≡ length held + 1 = length_push held a in
        let long : length (before.answers ++ back) ≡ from + length back = length-append before.answers back ∙ ap (λ n. n + length back) before.count in
        let here : slice_get (before.answers ++ back) stopped.number ≡ Some a =
        second_at before.answers back (length held) stopped.number (omega (arith, number_is, before.count)) ∙ pushed_last held a (length held) refl in
        record {
          answers = before.answers ++ back;
          looks = looks.run s before.answers before.count before.looks;
          taken = from;
          takes = record {
            middle = half;
            takes = takes_still from mid half before back;
            item = item;
            item_is = ap (slice_get t.items) number_is ∙ last.item_is;
            answer = a;
            answer_is = here;
            stops = stops.2 half;
          };
          turn = inr (record {
            hasty = stops.0;
            last = omega (arith, number_is, one, long);
            after = omega (arith, number_is);
            fails = λ b is. ap is_amiss (same_Some b a (sym is ∙ here)) ∙ stops.1;
            sure = subst AreSure (sym (ap (take stopped.number) (sym (append_assoc before.answers held (a ∷ [])))
                ∙ take_at (before.answers ++ held) (a ∷ []) stopped.number
                (omega (arith, number_is, length-append before.answers held, before.count))))
                (sure_both before.answers held (before.sure stops.0) (last.sure stops.0));
          });
          few = omega (arith, long, looks.few);
          wait = λ more j i low high there. looks.wait (omega (arith, more, long)) j i low (omega (arith, high, long)) there;
        }

  -- ---- what came of it is taken

  module _ (from : ℕ) (s' : S) (half k' : State) (held : List Answer) (last : Option Found) (ahead : LiesAhead from held last s' half) where
    pub passed_more : (next : ℕ) → TakesBatch t k ahead.all from (number_behind t last (from + length held)) k' (Ok next) → HasPassed next s' k'
    passed_more next (is, takes) = record {
      answers = ahead.all;
      count = ahead.count ∙ sym is;
      looks = ahead.looks;
      takes = subst (λ n. TakesTo t k ahead.all n k') (sym is) takes;
      sure = ahead.sure;
    }

    pub stops_taking : (stopped : Stopped Stop) → TakesBatch t k ahead.all from (number_behind t last (from + length held)) k' (Err stopped)
        → StopsPassing shelf seen t s k stopped.number stopped.stop s' k'
    stops_taking stopped (after, stops) = record {
      answers = ahead.all;
      looks = ahead.looks;
      taken = stopped.number;
      takes = stops;
      turn = inl (record { now = refl; sure = ahead.sure });
      few = omega (arith, after, ahead.few);
      wait = λ more j i low high there. ahead.wait (omega (arith, after, more)) j i (omega (arith, after, low)) high there;
    }
