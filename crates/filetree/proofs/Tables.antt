-- Tables of tests, one behind the other.
use Rattle.std.proofs.Common.{List, [], ◌∷◌, ◌++◌, Result, Ok, Err, inl, inr}
use Rattle.filetree.specs.Tests.{TestRow, First, NoneHolds, Passes, PassesUnlessNoMemory, GivesUnlessNoMemory}
use Rattle.filetree.specs.declared.refusal.Refusal.{Refusal}

pub none_both : (xs ys : List TestRow) → NoneHolds xs → NoneHolds ys → NoneHolds (xs ++ ys)
none_both [] ys front back = back
none_both (x ∷ xs) ys front back = (front.0, none_both xs ys front.1 back)

pub first_front : (xs ys : List TestRow) (r : Refusal) → First xs r → First (xs ++ ys) r
first_front [] ys r first = absurd first
first_front (x ∷ xs) ys r first = elim first [ inl here ↦ inl here | inr later ↦ inr (later.0, first_front xs ys r later.1) ]

pub first_behind : (xs ys : List TestRow) (r : Refusal) → NoneHolds xs → First ys r → First (xs ++ ys) r
first_behind [] ys r none first = first
first_behind (x ∷ xs) ys r none first = inr (none.0, first_behind xs ys r none.1 first)

pub passes_behind : {T : Type 0} (xs ys : List TestRow) (Q : T → Type 0) (r : Result T Refusal) → NoneHolds xs → Passes ys Q r → Passes (xs ++ ys) Q r
passes_behind xs ys Q (Ok x) none passes = (none_both xs ys none passes.0, passes.1)
passes_behind xs ys Q (Err r) none passes = first_behind xs ys r none passes

-- what fails out of memory alone
pub passes_all : {T : Type 0} (xs : List TestRow) (Q : T → Type 0) (r : Result T Refusal) → NoneHolds xs → GivesUnlessNoMemory r Q → PassesUnlessNoMemory xs Q r
passes_all xs Q (Ok x) none made = (none, made)
passes_all xs Q (Err r) none made = λ memory. absurd (memory made)

-- the tests behind others that passed
pub passes_after : {T : Type 0} (xs ys : List TestRow) (Q : T → Type 0) (r : Result T Refusal) → NoneHolds xs → PassesUnlessNoMemory ys Q r
    → PassesUnlessNoMemory (xs ++ ys) Q r
passes_after xs ys Q (Ok x) none passes = (none_both xs ys none passes.0, passes.1)
passes_after xs ys Q (Err r) none passes = λ memory. first_behind xs ys r none (passes memory)
