-- The laws of frames and of what they mean (BEP 3, BEP 52).
use Rattle.std.specs.Prelude.{◌≡◌, ℕ, ◌<◌, ◌++◌, List}
use Rattle.std.specs.List.{All, flat_map}
use Rattle.wire.specs.Frames.{Frames, IsBody, frame}
use Rattle.wire.specs.Meaning.{Means, MeansMessage, SameFrame}
use Rattle.wire.specs.declared.message.Message.{Message}
use Rattle.wire.specs.declared.frame.Frame.TheVariants as kept
use Rattle.wire.specs.declared.frame.Frame.{Frame as KeptFrame}

-- a stream has one list of frames and one rest
abbrev pub OneListOfFrames : Type 0
OneListOfFrames =
    (bytes : List ℕ) (bs cs : List (List ℕ)) (r s : List ℕ) → Frames bytes bs r → Frames bytes cs s
    → (bs ≡ cs) × (r ≡ s)

-- each list of bytes is the frames of a stream, and a rest
abbrev pub EachStreamHasFrames : Type 0
EachStreamHasFrames =
    (bytes : List ℕ) → All (λ b. b < 256) bytes
    → (bodies : List (List ℕ)) × (rest : List ℕ) × Frames bytes bodies rest

-- frames that were written, one after the other, are the first frames of the stream, whatever
-- follows them
abbrev pub FramesAfterFrames : Type 0
FramesAfterFrames =
    (bytes rest : List ℕ) (bodies more : List (List ℕ)) → All IsBody bodies → Frames bytes more rest
    → Frames (flat_map frame bodies ++ bytes) (bodies ++ more) rest

-- a body means one frame
abbrev pub OneMeaning : Type 0
OneMeaning = (body : List ℕ) (f g : KeptFrame) → Means body f → Means body g → SameFrame f g

-- a stream that begins with the frame of a message has that message as its first frame, and the
-- rest is what follows
abbrev pub WrittenIsRead : Type 0
WrittenIsRead =
    (m : Message) (body rest : List ℕ) (found : KeptFrame) (read after : List ℕ) → IsBody body
    → MeansMessage body m → IsBody read → Means read found
    → frame body ++ rest ≡ frame read ++ after
    → SameFrame found (kept.Message m) × (after ≡ rest)
