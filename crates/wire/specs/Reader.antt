-- How far a reader of frames has come, what it holds, and what a call that asks it for the next
-- frame says.
use Rattle.std.specs.Prelude.{◌≡◌, ℕ, ◌≤◌, Bool, true, false, List, [], length, Option, is_some, Result, Ok, Err, IfOk, IfSome, vec_capacity}
use Rattle.std.specs.Borrow.{MutBor}
use Rattle.std.specs.Global.{Vec}
use Rattle.std.specs.Io.KnownBytes.{IsAtEnd}
use Rattle.benc.specs.Device.{SourceSeen}
use Rattle.wire.specs.Frames.{IsBody, frame}
use Rattle.wire.specs.Head.{IsBodyWithHead}
use Rattle.wire.specs.Meaning.{Means, max_kept}
use Rattle.wire.specs.Reading.{GaveFaultless, StopsInFrame}
use Rattle.wire.specs.Room.{RoomAfter, RoomAfterFault}
use Rattle.wire.specs.declared.fault.FrameFault.{FrameFault}
use Rattle.wire.specs.declared.fault.FrameFault.TheVariants as fault
use Rattle.wire.specs.declared.frame.Frame.{Frame}
use Rattle.wire.specs.declared.reader.FrameReader.{FrameReader}
use Rattle.wire.specs.declared.reader.State.TheVariants.{Open, Ended, Failed}

-- the source that the reader reads
abbrev pub source_of : {S B : Type 0} → FrameReader S B → S
source_of reader = reader.source.now

-- the reader has met neither the end of its source nor a fault
abbrev pub IsOpen : {S B : Type 0} → FrameReader S B → Type 0
IsOpen reader = reader.state ≡ Open

-- the reader's source ended between two frames
abbrev pub HasEnded : {S B : Type 0} → FrameReader S B → Type 0
HasEnded reader = reader.state ≡ Ended

-- the reader met this fault
abbrev pub HasFailed : {S B : Type 0} → FrameReader S B → FrameFault → Type 0
HasFailed reader why = reader.state ≡ Failed why

-- the frame that the reader read last has this body
abbrev pub HoldsBody : {S : Type 0} → FrameReader S (Vec ℕ) → List ℕ → Type 0
HoldsBody reader body = IsBodyWithHead reader.head reader.kept.items body

-- how many bytes of bodies the reader keeps, ids aside
abbrev pub kept_len : {S : Type 0} → FrameReader S (Vec ℕ) → ℕ
kept_len reader = length reader.kept.items

-- how many bytes the reader has taken room for
abbrev pub room : {S : Type 0} → FrameReader S (Vec ℕ) → ℕ
room reader = vec_capacity reader.kept

-- the reader's room holds the longest body that is kept, its id aside
abbrev pub HasRoom : {S : Type 0} → FrameReader S (Vec ℕ) → Type 0
HasRoom reader = max_kept ≤ room reader

-- nothing has changed but the room
pub record IsSameButRoom {S : Type 0} (old new : FrameReader S (Vec ℕ)) : Type 0 where
  pub source : new.source ≡ old.source
  pub state : new.state ≡ old.state
  pub head : new.head ≡ old.head
  pub kept : new.kept.items ≡ old.kept.items

-- the reader reads its source through this reference
abbrev pub ReadsThrough : {S B : Type 0} → FrameReader S B → MutBor S → Type 0
ReadsThrough reader source = reader.source.ghost_name ≡ source.ghost_name

-- the reader still reads its source through the same reference
abbrev pub KeepsSource : {S B : Type 0} → FrameReader S B → FrameReader S B → Type 0
KeepsSource old new = ReadsThrough new old.source

-- the next frame was read, whole, and the reader holds its body
pub record ReadsFrame {S : Type 0} (seen : S → SourceSeen) (old new : FrameReader S (Vec ℕ))
    : Type 0 where
  pub body : List ℕ
  pub fits : IsBody body
  pub gave : GaveFaultless (seen (source_of old)) (seen (source_of new)) (frame body)
  pub holds : HoldsBody new body
  pub stays : IsOpen new
  pub room : RoomAfter new.head (room old) (room new)

-- nothing was read, since the source has ended
pub record ReadsSourceEnd {S : Type 0} (seen : S → SourceSeen) (old new : FrameReader S (Vec ℕ))
    : Type 0 where
  pub gave : GaveFaultless (seen (source_of old)) (seen (source_of new)) []
  pub at_end : IsAtEnd (seen (source_of new)).left
  pub ended : HasEnded new
  pub room : room new ≡ room old

-- no whole frame was read, and this is why. Out of memory comes only without room
pub record FailsToRead {S : Type 0} (seen : S → SourceSeen) (old new : FrameReader S (Vec ℕ))
    (why : FrameFault) : Type 0 where
  pub stops : StopsInFrame (seen (source_of old)) (seen (source_of new)) why
  pub failed : HasFailed new why
  pub memory : why ≡ fault.NoMemory → ¬ HasRoom old
  pub room : RoomAfterFault why (room old) (room new)

-- what an open reader does: it reads the next frame, or the end, or it fails
abbrev pub ReadsNext : {S : Type 0} → (S → SourceSeen) → FrameReader S (Vec ℕ)
    → Result Bool FrameFault → FrameReader S (Vec ℕ) → Type 0
ReadsNext seen old (Ok true) new = ReadsFrame seen old new
ReadsNext seen old (Ok false) new = ReadsSourceEnd seen old new
ReadsNext seen old (Err why) new = FailsToRead seen old new why

-- what a reader does that is asked for the next frame, where `true` says that there is one: after
-- the end and after a fault it answers the same again, and stays as it is
pub record Advances {S : Type 0} (seen : S → SourceSeen) (old : FrameReader S (Vec ℕ))
    (result : Result Bool FrameFault) (new : FrameReader S (Vec ℕ)) : Type 0 where
  pub reads : IsOpen old → ReadsNext seen old result new
  pub ended_again : HasEnded old → (result ≡ Ok false) × (new ≡ old)
  pub failed_again : (why : FrameFault) → HasFailed old why → (result ≡ Err why) × (new ≡ old)
  pub source : KeepsSource old new
  pub bounded : kept_len old ≤ max_kept → kept_len new ≤ max_kept
  pub has_room : HasRoom old → room new ≡ room old

-- whether there is a frame, if the call did not fail
abbrev pub is_there : {X : Type 0} → Result (Option X) FrameFault → Result Bool FrameFault
is_there (Ok found) = Ok (is_some found)
is_there (Err why) = Err why

-- what a call that asks for the next frame answers, and what it leaves: the frame that it answers
-- is what the body means that the reader then holds
pub record AsksNext {S : Type 0} (seen : S → SourceSeen) (old : FrameReader S (Vec ℕ))
    (result : Result (Option Frame) FrameFault) (new : FrameReader S (Vec ℕ)) : Type 0 where
  pub advances : Advances seen old (is_there result) new
  pub means :
      IfOk result (λ found. IfSome found (λ f. (body : List ℕ) → HoldsBody new body → Means body f))
