-- What a reader of records holds, and what a call that asks it for the next frame says.
use Rattle.std.specs.Prelude.{◌≡◌, ℕ, ◌≤◌, Bool, true, false, List, Option, Some, Result, Ok, Err, IfOk, IfSome}
use Rattle.std.specs.Global.{Vec}
use Rattle.benc.specs.Device.{SourceSeen}
use Rattle.wire.specs.declared.form.Direction.{Direction}
use Rattle.wire.specs.declared.fault.FrameFault.{FrameFault}
use Rattle.wire.specs.declared.fault.FrameFault.TheVariants as fault
use Rattle.wire.specs.declared.form.Form.{Form}
use Rattle.wire.specs.declared.frame.Frame.{Frame}
use Rattle.wire.specs.declared.frame.Head.{Head}
use Rattle.wire.specs.declared.reader.FrameReader.{FrameReader}
use Rattle.wire.specs.declared.record_reader.RecordReader.{RecordReader}
use Rattle.wire.specs.Head.{IsBodyWithHead}
use Rattle.wire.specs.Meaning.{max_kept}
use Rattle.wire.specs.Reader.{IsOpen, HasEnded, HasFailed, HasRoom, HoldsBody, KeepsSource, is_there, kept_len, room}
use Rattle.wire.specs.Room.{RoomAfter, RoomAfterFault}
use Rattle.wire.specs.RecordReading.{EndsRecord, GaveFrame, StopsInRecord}
use Rattle.wire.specs.Records.{Directed, MeansDirected}

-- the source that the reader reads
abbrev pub record_source_of : {S B : Type 0} → RecordReader S B → S
record_source_of reader = reader.source.now

-- the form of the record, once it is known
abbrev pub form_of : {S B : Type 0} → RecordReader S B → Option Form
form_of reader = reader.form

-- the reader of a record's frames, their directions aside
abbrev pub frame_reader : {S B : Type 0} → RecordReader S B → FrameReader S B
frame_reader reader =
    record { source = reader.source; state = reader.state; head = reader.head; kept = reader.kept }

-- a direction and a head are those of a body whose bytes are kept
abbrev pub HasDirectedHead : List ℕ → Directed (List ℕ) → Direction × Head → Type 0
HasDirectedHead kept d found = (found.0 ≡ d.0) × IsBodyWithHead found.1 kept d.1

-- the frame that the reader read last has this direction and this body
abbrev pub HoldsDirected : {S : Type 0} → RecordReader S (Vec ℕ) → Directed (List ℕ) → Type 0
HoldsDirected reader d = (reader.direction ≡ d.0) × HoldsBody (frame_reader reader) d.1

-- the next frame was read, whole, and the reader holds its direction and its body
pub record ReadsDirected {S : Type 0} (seen : S → SourceSeen) (old new : RecordReader S (Vec ℕ))
    : Type 0 where
  pub form : Form
  pub directed : Directed (List ℕ)
  pub known : form_of new ≡ Some form
  pub gave :
      GaveFrame (form_of old) form directed (seen (record_source_of old))
      (seen (record_source_of new))
  pub holds : HoldsDirected new directed
  pub stays : IsOpen (frame_reader new)
  pub room : RoomAfter new.head (room (frame_reader old)) (room (frame_reader new))

-- no further frame was read, since the record has ended, between two frames
pub record ReadsRecordEnd {S : Type 0} (seen : S → SourceSeen) (old new : RecordReader S (Vec ℕ))
    : Type 0 where
  pub form : Form
  pub known : form_of new ≡ Some form
  pub ends : EndsRecord (form_of old) form (seen (record_source_of old))
      (seen (record_source_of new))
  pub ended : HasEnded (frame_reader new)
  pub room : room (frame_reader new) ≡ room (frame_reader old)

-- no whole frame was read, and this is why. Out of memory comes only without room
pub record FailsInRecord {S : Type 0} (seen : S → SourceSeen) (old new : RecordReader S (Vec ℕ))
    (why : FrameFault) : Type 0 where
  pub form : form_of new ≡ form_of old
  pub stops : StopsInRecord (form_of old) (seen (record_source_of old))
      (seen (record_source_of new)) why
  pub failed : HasFailed (frame_reader new) why
  pub memory : why ≡ fault.NoMemory → ¬ HasRoom (frame_reader old)
  pub room : RoomAfterFault why (room (frame_reader old)) (room (frame_reader new))

-- what an open reader does: it reads the next frame, or the end of the record, or it fails
abbrev pub ReadsNextInRecord : {S : Type 0} → (S → SourceSeen) → RecordReader S (Vec ℕ)
    → Result Bool FrameFault → RecordReader S (Vec ℕ) → Type 0
ReadsNextInRecord seen old (Ok true) new = ReadsDirected seen old new
ReadsNextInRecord seen old (Ok false) new = ReadsRecordEnd seen old new
ReadsNextInRecord seen old (Err why) new = FailsInRecord seen old new why

-- what a reader does that is asked for the next frame of a record, where `true` says that there is
-- one: after the end and after a fault it answers the same again, and stays as it is
pub record AdvancesInRecord {S : Type 0} (seen : S → SourceSeen) (old : RecordReader S (Vec ℕ))
    (result : Result Bool FrameFault) (new : RecordReader S (Vec ℕ)) : Type 0 where
  pub reads : IsOpen (frame_reader old) → ReadsNextInRecord seen old result new
  pub ended_again : HasEnded (frame_reader old) → (result ≡ Ok false) × (new ≡ old)
  pub failed_again :
      (why : FrameFault) → HasFailed (frame_reader old) why → (result ≡ Err why) × (new ≡ old)
  pub source : KeepsSource (frame_reader old) (frame_reader new)
  pub bounded : kept_len (frame_reader old) ≤ max_kept → kept_len (frame_reader new) ≤ max_kept
  pub has_room :
      HasRoom (frame_reader old) → room (frame_reader new) ≡ room (frame_reader old)

-- what a call that asks for the next frame of a record answers, and what it leaves: the frame that
-- it answers has the direction that the reader then holds, and is what its body means
pub record AsksNextInRecord {S : Type 0} (seen : S → SourceSeen) (old : RecordReader S (Vec ℕ))
    (result : Result (Option (Directed Frame)) FrameFault) (new : RecordReader S (Vec ℕ))
    : Type 0 where
  pub advances : AdvancesInRecord seen old (is_there result) new
  pub means :
      IfOk result (λ found. IfSome found (λ f. (d : Directed (List ℕ)) → HoldsDirected new d
      → MeansDirected d f))
