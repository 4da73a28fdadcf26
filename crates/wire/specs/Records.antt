-- The frames of a record, by one definition for its two forms. In form 2 the bytes begin with a
-- header, and before each frame stands a byte for its direction; in form 1 each frame came in.
use Rattle.std.specs.Prelude.{◌≡◌, ◌≢◌, ℕ, List, [], ◌∷◌, ◌++◌, codes, All}
use Rattle.std.specs.List.{flat_map}
use Rattle.wire.specs.Frames.{IsBody, IsPartial, frame}
use Rattle.wire.specs.declared.form.Direction.{Direction}
use Rattle.wire.specs.declared.form.Direction.TheVariants.{In, Out}
use Rattle.wire.specs.declared.form.Form.{Form}
use Rattle.wire.specs.declared.form.Form.TheVariants.{One, Two}
use Rattle.wire.specs.declared.frame.Frame.{Frame}
use Rattle.wire.specs.declared.frame.Frame.TheVariants as kept
use Rattle.wire.specs.declared.message.Message.{Message}
use Rattle.wire.specs.Meaning.{Means}

-- the number of a form
abbrev pub form_number : Form → ℕ
form_number One = 1
form_number Two = 2

-- a direction and what goes in it: a body, a message, or what is kept of a frame
abbrev pub Directed : Type 0 → Type 0
Directed X = Direction × X

-- the bytes with which each record of form 2 begins, and no other record does
abbrev pub header : List ℕ
header = 255 ∷ 255 ∷ 255 ∷ 255 ∷ codes "BTH2"

-- what a record of this form begins with
abbrev pub heading : Form → List ℕ
heading One = []
heading Two = header

-- the byte of a direction
abbrev pub direction_byte : Direction → ℕ
direction_byte In = 0
direction_byte Out = 1

-- the bytes of one frame of a record
abbrev pub record_frame : Form → Directed (List ℕ) → List ℕ
record_frame One d = frame d.1
record_frame Two d = direction_byte d.0 ∷ frame d.1

-- the body fits its length, and in form 1 it came in
abbrev pub MayStand : Form → Directed (List ℕ) → Type 0
MayStand One d = IsBody d.1 × (d.0 ≡ In)
MayStand Two d = IsBody d.1

-- the form of a record
abbrev pub HasForm : List ℕ → Form → Type 0
HasForm bytes One = (rest : List ℕ) → bytes ≢ header ++ rest
HasForm bytes Two = (rest : List ℕ) × (bytes ≡ header ++ rest)

-- no whole frame of this form stands at the front of these bytes
unfoldable pub IsCut : Form → List ℕ → Type 0
IsCut form bytes =
    (d : Directed (List ℕ)) (rest : List ℕ) → MayStand form d
    → bytes ≡ record_frame form d ++ rest → ⊥

-- the bytes are what the form begins with, the frames of these directions and bodies, one after
-- the other, and then a rest that begins with no whole frame
pub record RecordFrames (bytes : List ℕ) (form : Form) (frames : List (Directed (List ℕ)))
    (rest : List ℕ) : Type 0 where
  pub has_form : HasForm bytes form
  pub whole : bytes ≡ heading form ++ (flat_map (record_frame form) frames ++ rest)
  pub each : All (MayStand form) frames
  pub cut : IsCut form rest

-- what came in
abbrev pub came_in : {X : Type 0} → X → Directed X
came_in x = (In, x)

-- these bytes of a record of form 2 begin with a byte that is no direction
pub record IsBadDirection (rest : List ℕ) : Type 0 where
  pub byte : ℕ
  pub more : List ℕ
  pub begins : rest ≡ byte ∷ more
  pub not_in : byte ≢ 0
  pub not_out : byte ≢ 1

-- the rest of a record of form 2 is a direction, and less than a frame
pub record IsCutFrame (rest : List ℕ) : Type 0 where
  pub direction : Direction
  pub part : List ℕ
  pub begins : rest ≡ direction_byte direction ∷ part
  pub partial : IsPartial part

-- a frame with the same direction, which is what the body means
abbrev pub MeansDirected : Directed (List ℕ) → Directed Frame → Type 0
MeansDirected d f = (d.0 ≡ f.0) × Means d.1 f.1

-- the messages among frames: a frame of a wrong size holds none
abbrev pub messages_in : List Frame → List Message
messages_in [] = []
messages_in (kept.Message m ∷ fs) = m ∷ messages_in fs
messages_in (kept.BadSize id len ∷ fs) = messages_in fs

-- the messages among frames, with their directions
abbrev pub directed_messages : List (Directed Frame) → List (Directed Message)
directed_messages [] = []
directed_messages ((d, kept.Message m) ∷ fs) = (d, m) ∷ directed_messages fs
directed_messages ((d, kept.BadSize id len) ∷ fs) = directed_messages fs
