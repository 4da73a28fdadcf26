-- What reading a frame does to the room that a reader has for the bytes that it keeps.
use Rattle.std.specs.Prelude.{◌≡◌, ◌≢◌, ◌⊎◌, ℕ, max, Option, MatchOption, Result, MatchResult}
use Rattle.wire.specs.Meaning.{max_kept}
use Rattle.wire.specs.declared.fault.FrameFault.{FrameFault}
use Rattle.wire.specs.declared.fault.FrameFault.TheVariants as fault
use Rattle.wire.specs.declared.frame.Head.{Head}
use Rattle.wire.specs.declared.frame.Head.TheVariants.{KeepAlive, Kept, BadSize, Other}

-- the room holds the longest body that is kept, and has grown no further than that
abbrev pub GrowsToBound : ℕ → ℕ → Type 0
GrowsToBound old new = new ≡ max old max_kept

-- after a body with this head: the room has grown if the body is kept, and else is the same
abbrev pub RoomAfter : Head → ℕ → ℕ → Type 0
RoomAfter KeepAlive old new = new ≡ old
RoomAfter (Kept kind n) old new = GrowsToBound old new
RoomAfter (BadSize id n) old new = new ≡ old
RoomAfter (Other id n) old new = new ≡ old

-- after a body that was not read whole. Out of memory leaves the room as it was
abbrev pub RoomAfterFault : FrameFault → ℕ → ℕ → Type 0
RoomAfterFault why old new = (new ≡ old) ⊎ (GrowsToBound old new × (why ≢ fault.NoMemory))

-- after a call that reads a frame with this answer: at the end of the source the room is the same
abbrev pub RoomAfterCall : {X : Type 0} → (X → Head) → ℕ → ℕ → Result (Option X) FrameFault → Type 0
RoomAfterCall head_of old new result = MatchResult result
    (λ found. MatchOption found (new ≡ old) (λ x. RoomAfter (head_of x) old new))
    (λ why. RoomAfterFault why old new)

-- the same where the form of a record is answered beside the frame's direction and head
abbrev pub RoomAfterNext : {F D : Type 0} → ℕ → ℕ → Result (F × Option (D × Head)) FrameFault
    → Type 0
RoomAfterNext old new result = MatchResult result
    (λ next. MatchOption next.1 (new ≡ old) (λ found. RoomAfter found.1 old new))
    (λ why. RoomAfterFault why old new)
