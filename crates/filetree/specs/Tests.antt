-- Tests of a torrent in their order, each with its answer, and the first that holds.
use Rattle.std.specs.Prelude.{◌≡◌, ◌≢◌, ◌⊎◌, Bool, true, false, List, [], ◌∷◌, Result, Ok, Err, MatchResult}
use Rattle.filetree.specs.declared.refusal.Refusal.{Refusal}
use Rattle.filetree.specs.declared.refusal.Refusal.TheVariants as refusals

-- a test, and the answer if it holds
pub record TestRow : Type 1 where
  pub holds : Type 0
  pub answer : Refusal

-- r is the answer of the first row that holds
abbrev pub First : List TestRow → Refusal → Type 0
First [] r = ⊥
First (t ∷ ts) r = (t.holds × (r ≡ t.answer)) ⊎ ((t.holds → ⊥) × First ts r)

-- none of these tests holds
abbrev pub NoneHolds : List TestRow → Type 0
NoneHolds [] = Unit {0}
NoneHolds (t ∷ ts) = (t.holds → ⊥) × NoneHolds ts

-- ---- what a step of opening answers

-- a value for which none of the tests holds, or the answer of the first that does
abbrev pub Passes : {T : Type 0} → List TestRow → (T → Type 0) → Result T Refusal → Type 0
Passes rows Q (Ok x) = NoneHolds rows × Q x
Passes rows Q (Err r) = First rows r

-- a value for which none of the tests holds, or the answer of the first that does, or `NoMemory`
abbrev pub PassesUnlessNoMemory : {T : Type 0} → List TestRow → (T → Type 0) → Result T Refusal
    → Type 0
PassesUnlessNoMemory rows Q (Ok x) = NoneHolds rows × Q x
PassesUnlessNoMemory rows Q (Err r) = r ≢ refusals.NoMemory → First rows r

-- a step that makes one test
abbrev pub Tests : {T : Type 0} → Bool → Refusal → Result T Refusal → Type 0
Tests holds answer result =
    MatchResult result (λ _. holds ≡ false) (λ r. (r ≡ answer) × (holds ≡ true))

-- a step that makes no test
abbrev pub GivesUnlessNoMemory : {T : Type 0} → Result T Refusal → (T → Type 0) → Type 0
GivesUnlessNoMemory result Q = MatchResult result Q (λ r. r ≡ refusals.NoMemory)
