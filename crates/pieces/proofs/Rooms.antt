-- What memory stages take.
use Rattle.std.proofs.Common.{◌≡◌, ◌<◌, ◌≤◌, Option, Some, None, IfSome, refl, arith}
use Rattle.pieces.specs.Staged.{room_in}
use Rattle.pieces.specs.declared.stages.Stages.{Stages}

-- at most 64 MiB
pub room_most : (o : Option Stages) → room_in o ≤ 67108864
room_most None = omega arith
room_most (Some s) = omega (arith, s.store.exact, s.store.most)

-- if they take some, there are stages
pub room_worth : {P : Type 0} (o : Option Stages) → IfSome o (λ _. P) → 0 < room_in o → P
room_worth None is some = absurd (omega (arith, some))
room_worth (Some s) is some = is

-- if they take none, there are none
pub none_there : (o : Option Stages) → room_in o ≡ 0 → o ≡ None
none_there None none = refl
none_there (Some s) none = absurd (omega (arith, none, s.store.exact, s.store.some))
