-- The bytes that wait.
use Rattle.std.specs.Prelude.{◌≡◌, ◌++◌, List, ℕ, take}
use Rattle.short_pushes.specs.declared.waiting.Waiting.{Waiting}

-- the bytes that wait
abbrev pub held : Waiting → List ℕ
held w = take w.count w.room.items

-- bytes come after others
abbrev pub Appends : List ℕ → List ℕ → List ℕ → Type 0
Appends old bytes new = new ≡ old ++ bytes
