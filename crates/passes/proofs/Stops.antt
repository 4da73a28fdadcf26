-- Where a pass stops: what was done before, and what was looked at behind.
use Rattle.std.proofs.Common.{◌≡◌, ◌∙◌, ◌⊎◌, inl, inr, ℕ, zero, suc, ◌+◌, ◌-◌, ◌<◌, ◌≤◌, false, List, [], ◌∷◌, length, take, drop, slice_get}
use Rattle.std.proofs.Common.{Option, Some, None}
use Rattle.std.proofs.Common.{refl, sym, ap, subst, arith, take-take}
use Rattle.std.proofs.lemmas.Bool.{cases_lt}
use Rattle.std.proofs.lemmas.List.{drop-take, length-drop, length-take, nil_from_length, take-append-drop}
use Rattle.std.proofs.lemmas.Option.{same_Some, slice_get_within}
use Rattle.benc.specs.Device.{SourceSeen}
use Rattle.chains.specs.Chain.{Chain}
use Rattle.chains.proofs.Cases.{item_at, item_stays}
use Rattle.chains.proofs.Chains.{Chain-length, StepAt, step_at}
use Rattle.folders.specs.declared.shelf.Shelf.{Ghosts}
use Rattle.passes.specs.Held.{Answer, Reach, content, failed, missing, unasked}
use Rattle.passes.specs.Passing.{Looks, LooksFor, StopsPassing, Takes, Task, Want}

pub dropped_item : {A : Type 0} (n : ℕ) (xs : List A) (j : ℕ) → slice_get (drop n xs) j ≡ slice_get xs (n + j)
dropped_item zero xs j = ap (slice_get xs) (let e : j ≡ 0 + j = omega arith in e)
dropped_item (suc n) [] j = refl
dropped_item (suc n) (x ∷ xs) j = dropped_item n xs j ∙ ap (slice_get (x ∷ xs)) (let e : suc (n + j) ≡ suc n + j = omega arith in e)

pub taken_item : {A : Type 0} (n : ℕ) (xs : List A) (j : ℕ) (x : A) → slice_get (take n xs) j ≡ Some x → slice_get xs j ≡ Some x
taken_item n xs j x is = subst (λ ys. slice_get ys j ≡ Some x) (take-append-drop n xs) (item_stays (take n xs) (drop n xs) j x is)

module _ {S F : Type 0} (shelf : Ghosts S F) (seen : F → SourceSeen) {Item State Found Stop : Type 0} (t : Task Item State Found Stop) where
  -- what is on the shelf stays
  looked_still : (IsRead : Reach) (want : Option Want) (s : S) (a : Answer) (s' : S) → Looks shelf seen IsRead want s a s'
      → shelf.contents s' ≡ shelf.contents s
  looked_still IsRead None s a s' looks = ap shelf.contents looks.1
  looked_still IsRead (Some w) s unasked s' looks = absurd looks
  looked_still IsRead (Some w) s missing s' looks = looks.stays
  looked_still IsRead (Some w) s failed s' looks = looks.stays
  looked_still IsRead (Some w) s (content bytes) s' looks = looks.stays

  pub looks_still : (s : S) (items : List Item) (answers : List Answer) (s' : S) → Chain (LooksFor shelf seen t) s items answers s'
      → shelf.contents s' ≡ shelf.contents s
  looks_still s [] [] s' is = ap shelf.contents is
  looks_still s [] (a ∷ answers) s' run = absurd run
  looks_still s (i ∷ items) [] s' run = absurd run
  looks_still s (i ∷ items) (a ∷ answers) s' (mid, look, rest) =
      looks_still mid items answers s' rest ∙ looked_still (t.reads i) (t.wants i) s a mid look

  -- the paths of some items behind this one were looked at, which may wait, and then it may, too
  pub record LooksPast (number : ℕ) (item : Item) (s s' : S) : Type 0 where
    pub answers : List Answer
    pub few : length answers < 64
    pub inside : number + 1 + length answers ≤ length t.items
    pub wait : (j : ℕ) (i : Item) → slice_get (take (length answers) (drop (number + 1) t.items)) j ≡ Some i → t.waits i
    pub own : (answers ≡ []) ⊎ t.waits item
    pub run : Chain (LooksFor shelf seen t) s (take (length answers) (drop (number + 1) t.items)) answers s'

  module _ (s s' : S) (k k' : State) (number : ℕ) (stop : Stop) (stops : StopsPassing shelf seen t s k number stop s' k') where
    abbrev m : ℕ
    m = length stops.answers

    abbrev Look : S → Item → Answer → S → Type 0
    Look = LooksFor shelf seen t

    pub in_turn : t.is_hasty ≡ false → number ≡ stops.taken
    in_turn calm = elim stops.turn [
      | inl turn ↦ turn.now
      | inr once ↦ (let hasty = once.hasty in let no : ⊥ = cc in absurd no)
    ]

    within : number < m
    within = slice_get_within stops.answers number stops.takes.answer stops.takes.answer_is

    same : m ≡ length (take m t.items)
    same = Chain-length Look s (take m t.items) stops.answers s' stops.looks

    -- the step at which it stopped
    pub at_stop : StepAt Look s (take m t.items) stops.answers number stops.takes.item stops.takes.answer s'
    at_stop =
        let there = item_at (take m t.items) number (omega (arith, within, same)) in
        let is : there.0 ≡ stops.takes.item = same_Some there.0 stops.takes.item (sym (taken_item m t.items number there.0 there.1) ∙ stops.takes.item_is) in
        step_at Look s (take m t.items) stops.answers number stops.takes.item stops.takes.answer s' (there.1 ∙ ap Some is) stops.takes.answer_is stops.looks

    -- what was done before
    pub looks_before : Chain Look s (take number t.items) (take number stops.answers) at_stop.from
    looks_before = subst (λ is. Chain Look s is (take number stops.answers) at_stop.from) (take-take number m t.items (omega (arith, within))) at_stop.before

    pub takes_before : t.is_hasty ≡ false → Chain (Takes t) k (take number t.items) (take number stops.answers) stops.takes.middle
    takes_before calm = subst (λ n. Chain (Takes t) k (take n t.items) (take n stops.answers) stops.takes.middle) (sym (in_turn calm)) stops.takes.takes

    pub behind : t.is_hasty ≡ false → LooksPast number stops.takes.item at_stop.to s'
    behind calm =
        let turn = in_turn calm in
        let left : ℕ = m - (number + 1) in
        let split : (number + 1) + left ≡ m = omega (arith, within) in
        let rest : drop (number + 1) (take m t.items) ≡ take left (drop (number + 1) t.items) =
        ap (λ n. drop (number + 1) (take n t.items)) (sym split) ∙ drop-take (number + 1) left t.items in
        let count : length (drop (number + 1) stops.answers) ≡ left = length-drop (number + 1) stops.answers in
        let items : drop (number + 1) (take m t.items) ≡ take (length (drop (number + 1) stops.answers)) (drop (number + 1) t.items) =
        rest ∙ ap (λ n. take n (drop (number + 1) t.items)) (sym count) in
        record {
          answers = drop (number + 1) stops.answers;
          few = omega (arith, count, stops.few, turn, within);
          inside = omega (arith, count, within, same, length-take m t.items);
          wait = λ j i is. (
              let whole : slice_get (take m t.items) ((number + 1) + j) ≡ Some i =
              sym (dropped_item (number + 1) (take m t.items) j) ∙ ap (λ is. slice_get is j) items ∙ is in
              let below = slice_get_within (take m t.items) ((number + 1) + j) i whole in
              stops.wait (omega (arith, below, same, turn)) ((number + 1) + j) i (omega (arith, turn)) (omega (arith, below, same))
              (taken_item m t.items ((number + 1) + j) i whole));
          own = elim (cases_lt stops.taken (m - 1)) [
            | inl more ↦ inr (stops.wait (omega (arith, more)) number stops.takes.item (omega (arith, turn)) within stops.takes.item_is)
            | inr last ↦ inl (nil_from_length (drop (number + 1) stops.answers) (omega (arith, count, turn, last)))
          ];
          run = subst (λ is. Chain Look at_stop.to is (drop (number + 1) stops.answers) s') items at_stop.after;
        }
