-- A pass over the files of a shelf: each path that is wanted is looked at once, in order, and what
-- came of it is taken in the same order. `shelf` stands for what the shelf's type says of its
-- shelves, and `seen` for what its files say.
use Rattle.std.specs.Prelude.{◌≡◌, ◌⊎◌, ℕ, ◌+◌, ◌<◌, ◌≤◌, Bool, true, false, List, length, take, slice_get, Option, Some, None, option_map, Result, Ok, Err}
use Rattle.std.specs.Prelude.{IfOk, IfSome}
use Rattle.benc.specs.Device.{CountsFault, SourceSeen, one_more}
use Rattle.benc.specs.declared.device.DeviceFault.{DeviceFault}
use Rattle.chains.specs.Chain.{Chain}
use Rattle.folders.specs.Shelf.{IsFound}
use Rattle.folders.specs.TakeAll.{IsReadWithin}
use Rattle.folders.specs.Verdicts.{Agrees}
use Rattle.folders.specs.Visits.{HandsBack}
use Rattle.folders.specs.declared.shelf.Shelf.{Ghosts}
use Rattle.passes.specs.Held.{Answer, Cutting, Reach, GivesContent, HeldSeen, HoldsMore, KeepsHeld, content, failed, missing, unasked}

-- a path that is wanted, and how many bytes of what is there; a read that fails comes before one
-- past them
pub record Want : Type 0 where
  pub path : List (List ℕ)
  pub most : ℕ

-- What is done in a pass: the items that are passed over; which path is wanted of one; how far the
-- content that is there is read; whether it may wait for its turn while others are looked at; for
-- which version 1 pieces files are held; whether a path that is missing or fails ends the pass at
-- once; what is found of an item and what came of looking at its path; in which state the item of a
-- number may be taken; and how what came of it is taken.
pub record Task (Item State Found Stop : Type 0) : Type 1 where
  pub items : List Item
  pub wants : Item → Option Want
  pub reads : Item → Reach
  pub waits : Item → Type 0
  pub holds : Cutting → Type 0
  pub is_hasty : Bool
  pub finds : Item → Answer → Found → Type 0
  pub is_ready : ℕ → State → Type 0
  pub takes : State → Item → Answer → Result (Unit {0}) Stop → State → Type 0

-- nothing is there, or the opening or a read failed
abbrev pub is_amiss : Answer → Bool
is_amiss unasked = false
is_amiss missing = true
is_amiss failed = true
is_amiss (content bytes) = false

-- all of these were not to be opened, or have a content
abbrev pub AreSure : List Answer → Type 0
AreSure all = (j : ℕ) (a : Answer) → slice_get all j ≡ Some a → is_amiss a ≡ false

-- ---- one path

-- a content was read so far, without a fault
pub record ReadsContent (IsRead : Reach) (bytes : List ℕ) (old new : SourceSeen) : Type 0 where
  pub is_read : IsRead bytes old new
  pub quiet : new.faults ≡ old.faults

-- a read failed, before the byte past these many
pub record FailsReading (most : ℕ) (old new : SourceSeen) : Type 0 where
  pub early : IsReadWithin most old new
  pub counted : new.faults ≡ one_more old.faults

-- what came of reading an opened file for which this may be found: its content is held; or this was
-- found of it, and what is held stays; or a read failed
abbrev pub ReadsFor : {Found : Type 0} → (Answer → Found → Type 0) → Reach → ℕ → SourceSeen
    → SourceSeen → HeldSeen → HeldSeen → Result (Option Found) DeviceFault → Type 0
ReadsFor Finds IsRead most old new h h' (Ok None) =
    (bytes : List ℕ) × GivesContent IsRead bytes old new × HoldsMore h (content bytes) h'
ReadsFor Finds IsRead most old new h h' (Ok (Some found)) =
    (bytes : List ℕ) × GivesContent IsRead bytes old new × Finds (content bytes) found
    × KeepsHeld h h'
ReadsFor Finds IsRead most old new h h' (Err fault) = IsReadWithin most old new × KeepsHeld h h'

module _ {S F : Type 0} (shelf : Ghosts S F) (seen : F → SourceSeen) where
  -- this was answered when a path was opened
  pub record AnswersOpening (s : S) (path : List (List ℕ)) (opened : Result (Option F) DeviceFault)
      (s' : S)
      : Type 0 where
    pub opens : shelf.opens s path opened s'
    pub found : IfOk opened (λ o.
        IsFound ((shelf.contents s).under path) (option_map (λ f. (seen f).left) o))
    pub fresh : IfOk opened (λ o. IfSome o (λ f. (seen f).faults ≡ 0))
    pub counts : CountsFault (shelf.faults s) (shelf.faults s') opened
    pub stays : shelf.contents s' ≡ shelf.contents s

  -- a path that is wanted was opened, which was answered so; or none is, and none was
  abbrev pub OpensFor : Option Want → S → Option (Result (Option F) DeviceFault) → S → Type 0
  OpensFor None s None s' = s' ≡ s
  OpensFor None s (Some opened) s' = ⊥
  OpensFor (Some w) s None s' = ⊥
  OpensFor (Some w) s (Some opened) s' = AnswersOpening s w.path opened s'

  -- nothing is there
  pub record MissesThere (s : S) (path : List (List ℕ)) (s' : S) : Type 0 where
    pub opened : shelf.opens s path (Ok None) s'
    pub agrees : Agrees ((shelf.contents s).under path) None
    pub quiet : shelf.faults s' ≡ shelf.faults s
    pub stays : shelf.contents s' ≡ shelf.contents s

  -- the opening failed, or a read did; that is one fault
  pub record FailsThere (s : S) (path : List (List ℕ)) (most : ℕ) (s' : S) : Type 0 where
    pub failed : ((e : DeviceFault) × shelf.opens s path (Err e) s')
        ⊎ ((file : F)
        × HandsBack (shelf.opens s path) shelf.closes seen (FailsReading most) file s')
    pub counted : shelf.faults s' ≡ one_more (shelf.faults s)
    pub stays : shelf.contents s' ≡ shelf.contents s

  -- what is there was read, and has this content
  pub record ReadsThere (IsRead : Reach) (s : S) (path : List (List ℕ)) (bytes : List ℕ) (s' : S)
      : Type 0 where
    pub file : F
    pub handed : HandsBack (shelf.opens s path) shelf.closes seen
        (ReadsContent IsRead bytes) file s'
    pub gave : Agrees (seen file).left bytes
    pub agrees : Agrees ((shelf.contents s).under path) (Some bytes)
    pub quiet : shelf.faults s' ≡ shelf.faults s
    pub stays : shelf.contents s' ≡ shelf.contents s

  -- a path that is wanted was looked at: it was opened once, read, and handed back, and this came
  -- of it; or none is wanted
  abbrev pub Looks : Reach → Option Want → S → Answer → S → Type 0
  Looks IsRead None s a s' = (a ≡ unasked) × (s' ≡ s)
  Looks IsRead (Some w) s unasked s' = ⊥
  Looks IsRead (Some w) s missing s' = MissesThere s w.path s'
  Looks IsRead (Some w) s failed s' = FailsThere s w.path w.most s'
  Looks IsRead (Some w) s (content bytes) s' = ReadsThere IsRead s w.path bytes s'

-- ---- all items

module _ {Item State Found Stop : Type 0} (t : Task Item State Found Stop) where
  -- what came of looking at the path of an item was taken
  abbrev pub Takes : State → Item → Answer → State → Type 0
  Takes k i a k' = t.takes k i a (Ok tt) k'

  -- a path of which this came ends the pass at once, for this, and the state stays; or it does not
  abbrev pub StopsFor : Item → Answer → Option Stop → Type 0
  StopsFor i a (Some stop) =
      (t.is_hasty ≡ true) × (is_amiss a ≡ true) × ((k : State) → t.takes k i a (Err stop) k)
  StopsFor i a None = t.is_hasty ≡ true → is_amiss a ≡ false

  -- what came of the first items was taken
  abbrev pub TakesTo : State → List Answer → ℕ → State → Type 0
  TakesTo k all n k' = Chain Takes k (take n t.items) (take n all) k'

  -- it was, until it stopped at the item of a number, for what came of that
  pub record StopsTaking (k : State) (all : List Answer) (taken number : ℕ) (stop : Stop)
      (k' : State)
      : Type 0 where
    pub middle : State
    pub takes : TakesTo k all taken middle
    pub item : Item
    pub item_is : slice_get t.items number ≡ Some item
    pub answer : Answer
    pub answer_is : slice_get all number ≡ Some answer
    pub stops : t.takes middle item answer (Err stop) k'

  -- it stopped in its turn: what came of the items before it was taken
  pub record InTurn (all : List Answer) (taken number : ℕ) : Type 0 where
    pub now : number ≡ taken
    pub sure : t.is_hasty ≡ true → AreSure all

  -- it stopped at once: its path, the last that was looked at, is missing or failed
  pub record AtOnce (all : List Answer) (taken number : ℕ) : Type 0 where
    pub hasty : t.is_hasty ≡ true
    pub last : number + 1 ≡ length all
    pub after : taken ≤ number
    pub fails : (a : Answer) → slice_get all number ≡ Some a → is_amiss a ≡ true
    pub sure : AreSure (take number all)

module _ {S F : Type 0} (shelf : Ghosts S F) (seen : F → SourceSeen)
    {Item State Found Stop : Type 0}
    (t : Task Item State Found Stop) where
  -- the path of an item was looked at
  abbrev pub LooksFor : S → Item → Answer → S → Type 0
  LooksFor s i a s' = Looks shelf seen (t.reads i) (t.wants i) s a s'

  -- the paths of the first items were looked at in order, each once, and this came of them
  abbrev pub LooksTo : S → List Answer → S → Type 0
  LooksTo s all s' = Chain LooksFor s (take (length all) t.items) all s'

  -- the paths of all items were looked at in order, each once, and what came of them was taken in
  -- the same order
  pub record PassesAll (s : S) (k : State) (s' : S) (k' : State) : Type 0 where
    pub answers : List Answer
    pub looks : Chain LooksFor s t.items answers s'
    pub takes : Chain (Takes t) k t.items answers k'

  -- The paths of some first items were looked at in order, each once, and of the first of these was
  -- taken what came of it. Then it stopped at the item of this number, for what came of that. No
  -- more than 64 were looked at whose turn had not come, and these are such as may wait.
  pub record StopsPassing (s : S) (k : State) (number : ℕ) (stop : Stop) (s' : S) (k' : State)
      : Type 0 where
    pub answers : List Answer
    pub looks : LooksTo s answers s'
    pub taken : ℕ
    pub takes : StopsTaking t k answers taken number stop k'
    pub turn : InTurn t answers taken number ⊎ AtOnce t answers taken number
    pub few : length answers ≤ taken + 64
    pub wait : taken + 1 < length answers → (j : ℕ) (i : Item) → taken ≤ j → j < length answers
        → slice_get t.items j ≡ Some i → t.waits i
