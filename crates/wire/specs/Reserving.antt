-- What a reader does that is asked to take its room before it reads.
use Rattle.std.specs.Prelude.{◌≡◌, ◌≢◌, ◌⊎◌, ℕ, ◌<◌, Result, MatchResult}
use Rattle.wire.specs.Meaning.{max_kept}
use Rattle.wire.specs.Room.{GrowsToBound}
use Rattle.wire.specs.declared.fault.FrameFault.TheVariants as fault
use Rattle.wire.specs.declared.reader.State.{State}
use Rattle.wire.specs.declared.reader.State.TheVariants.{Open, Failed}

-- the reader was open and has all the room that it will need, and no more; or it was closed, and
-- its room is the same. It was not closed for being out of memory
pub record HasReserved (state : State) (old new : ℕ) : Type 0 where
  pub takes : state ≡ Open → GrowsToBound old new
  pub closed : state ≢ Open → new ≡ old
  pub memory : state ≢ Failed fault.NoMemory

-- the room is the same. The reader was out of memory before, or it was open and had less room than
-- it will need
pub record IsRefusedRoom (state : State) (old new : ℕ) : Type 0 where
  pub same : new ≡ old
  pub why : (state ≡ Failed fault.NoMemory) ⊎ ((state ≡ Open) × (old < max_kept))

-- what `reserve` answers, and what it does to the room
abbrev pub Reserves : {A E : Type 0} → State → ℕ → Result A E → ℕ → Type 0
Reserves state old result new =
    MatchResult result (λ _. HasReserved state old new) (λ _. IsRefusedRoom state old new)
