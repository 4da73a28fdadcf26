-- What a call does to what a handle of C holds.
use Rattle.std.specs.Prelude.{◌≡◌, ◌⊎◌, ℕ, Option, Some, None, Result, Ok, Err}
use Rattle.btcheck_c.specs.declared.thing.Thing.{Thing}
use Rattle.btcheck_c.specs.declared.thing.Kind.{Kind}

-- a call on a handle: it holds nothing, before and after, and the status is 1; or it holds a thing,
-- before and after, and P says what the status is and what the thing is then
abbrev pub Through : (Kind → ℕ → Kind → Type 0) → Option Thing → ℕ → Option Thing → Type 0
Through P None status o' = (status ≡ 1) × (o' ≡ None)
Through P (Some t) status o' = (t' : Thing) × (o' ≡ Some t') × P t.kind status t'.kind

-- a call that fills an empty handle: P says what the status is and what the handle holds then; one
-- that is full stays as it is, and the status is 1
abbrev pub FillsHandle : (ℕ → Option Thing → Type 0) → Option Thing → ℕ → Option Thing → Type 0
FillsHandle P None status o' = P status o'
FillsHandle P (Some t) status o' = (status ≡ 1) × (o' ≡ Some t)

-- a thing of this kind is there now, or memory was refused for it and nothing has changed
abbrev pub IsHandleFilled : Kind → Option Thing → ℕ → Option Thing → Type 0
IsHandleFilled k o status o' =
    ((status ≡ 0) × (o' ≡ Some (record { kind = k }))) ⊎ ((status ≡ 2) × (o' ≡ o))

-- a thing of another kind than the call is for: it stays as it is, and the status is 1
abbrev pub IsWrongKind : Kind → ℕ → Kind → Type 0
IsWrongKind k status k' = (status ≡ 1) × (k' ≡ k)

-- ---- two handles

-- a call on two handles: one of them holds nothing, both stay as they are, and the status is 1; or
-- each holds a thing, before and after, and P says what the status is and what they are then
abbrev pub ThroughBoth : (Kind → Kind → ℕ → Kind → Kind → Type 0) → Option Thing → Option Thing
    → ℕ → Option Thing → Option Thing → Type 0
ThroughBoth P None q status o' q' = (status ≡ 1) × ((o' ≡ None) × (q' ≡ q))
ThroughBoth P (Some t) None status o' q' = (status ≡ 1) × ((o' ≡ Some t) × (q' ≡ None))
ThroughBoth P (Some t) (Some u) status o' q' = (t' : Thing) × ((u' : Thing) × ((o' ≡ Some t')
    × ((q' ≡ Some u') × P t.kind u.kind status t'.kind u'.kind)))

-- what a thing was begun from: the handle that held it holds it again
abbrev pub BegunFrom : {A : Type 0} → (Kind → Result A ℕ → Kind → Type 0) → Option Thing
    → Result A ℕ
    → Option Thing → Type 0
BegunFrom P None made o' = (made ≡ Err 1) × (o' ≡ None)
BegunFrom P (Some t) made o' = (t' : Thing) × (o' ≡ Some t') × P t.kind made t'.kind

-- a thing that was begun is in the handle, or memory was refused; or the status says why there is
-- none. Then the handle is empty as before
abbrev pub Kept : {A : Type 0} → (A → Kind) → Result A ℕ → ℕ → Option Thing → Type 0
Kept wrap (Ok a) status o' = IsHandleFilled (wrap a) None status o'
Kept wrap (Err s) status o' = (status ≡ s) × (o' ≡ None)

-- a thing that P says of what another handle holds is in the empty handle, or is not; one that is
-- full stays as it is, and so does the other one
abbrev pub Started : {A : Type 0} → (A → Kind) → (Kind → Result A ℕ → Kind → Type 0)
    → Option Thing → Option Thing → ℕ → Option Thing → Option Thing → Type 0
Started wrap P o (Some t) status h' o' = (status ≡ 1) × ((h' ≡ Some t) × (o' ≡ o))
Started {A} wrap P o None status h' o' =
    (made : Result A ℕ) × (BegunFrom P o made o' × Kept wrap made status h')
