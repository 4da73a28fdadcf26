-- Paths that are looked at one after the other before what came of them is taken. Public clauses do
-- not name these.
use Rattle.std.specs.Prelude.{◌≡◌, ℕ, ◌+◌, ◌<◌, ◌≤◌, true, false, List, [], ◌∷◌, ◌++◌, length, slice_get, Option, Some, None, Result, Ok, Err, IfSome}
use Rattle.benc.specs.Device.{SourceSeen}
use Rattle.benc.specs.declared.device.DeviceFault.{DeviceFault}
use Rattle.folders.specs.declared.shelf.Shelf.{Ghosts}
use Rattle.passes.specs.Held.{Answer, HeldSeen, HoldsMore, KeepsHeld, as_answer}
use Rattle.passes.specs.Passing.{AreSure, LooksFor, LooksTo, StopsFor, StopsTaking, TakesTo, Task, is_amiss}
use Rattle.passes.specs.declared.nothing.Nothing.{Nothing}
use Rattle.passes.specs.declared.nothing.Nothing.TheVariants as none
use Rattle.passes.specs.declared.stopped.Stopped.{Stopped}

-- it is held; or this was found of it, and what is held stays; or there is nothing to be held
abbrev pub KeepsLooked : {Found : Type 0} → (Answer → Found → Type 0) → Answer → HeldSeen → HeldSeen
    → Result (Option Found) Nothing → Type 0
KeepsLooked Finds a h h' (Ok None) = HoldsMore h a h' × (is_amiss a ≡ false)
KeepsLooked Finds a h h' (Ok (Some found)) = Finds a found × KeepsHeld h h' × (is_amiss a ≡ false)
KeepsLooked Finds a h h' (Err why) = (a ≡ as_answer why) × KeepsHeld h h'

-- what came of looking at a path, by that of reading the file that is there
abbrev pub looked_of : {Found : Type 0} → Result (Option Found) DeviceFault
    → Result (Option Found) Nothing
looked_of (Ok found) = Ok found
looked_of (Err fault) = Err none.Failed

module _ {Item State Found Stop : Type 0} (t : Task Item State Found Stop) where
  -- these items may wait
  abbrev pub MayWait : ℕ → ℕ → Type 0
  MayWait from to = (j : ℕ) (i : Item) → from ≤ j → j < to → slice_get t.items j ≡ Some i
      → t.waits i

  -- of the item of this number, of which this came, this was found
  pub record IsFoundAt (all : List Answer) (number : ℕ) (found : Found) : Type 0 where
    pub item : Item
    pub item_is : slice_get t.items number ≡ Some item
    pub answer : Answer
    pub answer_is : slice_get all number ≡ Some answer
    pub finds : t.finds item answer found

  -- what is held came of the items from this one on, and what was found of the last one, if it was
  -- read alone
  pub record AreBatch (from : ℕ) (held : List Answer) (last : Option Found) (all : List Answer)
      : Type 0 where
    pub inside : from + length held ≤ length t.items
    pub held_are : (j : ℕ) (a : Answer) → slice_get held j ≡ Some a
        → slice_get all (from + j) ≡ Some a
    pub last_is : IfSome last (IsFoundAt all (from + length held))

  -- behind these items, and the last one, if it was read alone
  abbrev pub number_behind : Option Found → ℕ → ℕ
  number_behind None n = n
  number_behind (Some found) n = n + 1

  -- what came of the items up to this one was taken, or until it stopped at one from here on
  abbrev pub TakesBatch : State → List Answer → ℕ → ℕ → State → Result ℕ (Stopped Stop) → Type 0
  TakesBatch k all from to k' (Ok next) = (next ≡ to) × TakesTo t k all to k'
  TakesBatch k all from to k' (Err stopped) =
      (from ≤ stopped.number) × StopsTaking t k all stopped.number stopped.number stopped.stop k'

module _ {S F : Type 0} (shelf : Ghosts S F) (seen : F → SourceSeen)
    {Item State Found Stop : Type 0}
    (t : Task Item State Found Stop) where
  -- the path of the item of this number was looked at, and this came of it
  pub record LooksAtOne (number : ℕ) (s : S) (a : Answer) (s' : S) : Type 0 where
    pub item : Item
    pub item_is : slice_get t.items number ≡ Some item
    pub looks : LooksFor shelf seen t s item a s'

  pub record LooksOnce (number : ℕ) (s : S) (h h' : HeldSeen)
      (found : Result (Option Found) Nothing)
      (s' : S) : Type 0 where
    pub answer : Answer
    pub looks : LooksAtOne number s answer s'
    pub keeps : KeepsLooked (t.finds looks.item) answer h h' found

  -- it is held what came of it; or this was found of it, and what is held stays; or it is missing
  -- or failed, and that ends the pass at once
  abbrev pub EndsAs : Item → Answer → HeldSeen → HeldSeen → Result (Option Found) Stop → Type 0
  EndsAs i a h h' (Ok None) = HoldsMore h a h' × StopsFor t i a None
  EndsAs i a h h' (Ok (Some found)) = t.finds i a found × KeepsHeld h h' × StopsFor t i a None
  EndsAs i a h h' (Err stop) = StopsFor t i a (Some stop) × KeepsHeld h h'

  pub record EndsOne (number : ℕ) (s : S) (h h' : HeldSeen) (result : Result (Option Found) Stop)
      (s' : S) : Type 0 where
    pub answer : Answer
    pub looks : LooksAtOne number s answer s'
    pub ends : EndsAs looks.item answer h h' result

  -- the paths of the items from this one on were looked at, and this came of them
  pub record LooksOn (from : ℕ) (s : S) (answers : List Answer) (s' : S) : Type 0 where
    pub some : 0 < length answers
    pub run : (start : S) (all : List Answer) → length all ≡ from → LooksTo shelf seen t start all s
        → LooksTo shelf seen t start (all ++ answers) s'
    pub inside : from + length answers ≤ length t.items
    pub few : length answers ≤ 64
    pub wait : 1 < length answers → MayWait t from (from + length answers)

  -- the path of the last one was looked at, and it is not held what came of it
  pub record LooksLast (from : ℕ) (s : S) (held : List Answer) (item : Item) (a : Answer)
      (s' : S) : Type 0 where
    pub looks : LooksOn from s (held ++ a ∷ []) s'
    pub item_is : slice_get t.items (from + length held) ≡ Some item
    pub sure : t.is_hasty ≡ true → AreSure held

  -- paths were looked at until what is held is to be taken; and what was found of the last one, if
  -- it was read alone; or the last one ends the pass at once
  abbrev pub EndsLooking : ℕ → S → List Answer → S → Result (Option Found) (Stopped Stop) → Type 0
  EndsLooking from s held s' (Ok None) = LooksOn from s held s' × (t.is_hasty ≡ true → AreSure held)
  EndsLooking from s held s' (Ok (Some found)) = (i : Item) × (a : Answer)
      × LooksLast from s held i a s'
      × t.finds i a found × StopsFor t i a None
  EndsLooking from s held s' (Err stopped) = (i : Item) × (a : Answer)
      × LooksLast from s held i a s'
      × (stopped.number ≡ from + length held) × StopsFor t i a (Some stopped.stop)
