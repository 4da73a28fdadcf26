-- What a session knows of one of its trees.
use Rattle.std.specs.Prelude.{◌≡◌, ℕ, slice_get, Some}
use Rattle.session.specs.Session.{SessionSeen, TreeState}

-- the state of tree n
abbrev pub HasState : SessionSeen → ℕ → (TreeState → Type 0) → Type 0
HasState S n P = (s : TreeState) × (slice_get S.trees n ≡ Some s) × P s
