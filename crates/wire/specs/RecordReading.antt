-- What one call that asks for the next frame of a record meets, and why it stops.
use Rattle.std.specs.Prelude.{◌≡◌, ◌≢◌, ◌⊎◌, ℕ, ◌^◌, ◌<◌, ◌≤◌, List, [], ◌∷◌, ◌++◌, length, Option, Some, None, MatchOption}
use Rattle.std.specs.Io.KnownBytes.{IsAtEnd}
use Rattle.benc.specs.Device.{SourceSeen}
use Rattle.wire.specs.declared.form.Direction.{Direction}
use Rattle.wire.specs.declared.form.Form.{Form}
use Rattle.wire.specs.declared.form.Form.TheVariants.{One, Two}
use Rattle.wire.specs.declared.fault.FrameFault.{FrameFault}
use Rattle.wire.specs.declared.fault.FrameFault.TheVariants as fault
use Rattle.wire.specs.Frames.{IsPartial, four_bytes}
use Rattle.wire.specs.Meaning.{IsRightSize}
use Rattle.wire.specs.Reading.{Gave, GaveFaultless, CountsRead}
use Rattle.wire.specs.Records.{Directed, HasForm, IsBadDirection, IsCutFrame, MayStand, direction_byte, heading, record_frame}

-- what a call reads of a record: before the form is known, what the form begins with and then this
-- part, and these bytes have the form; later this part alone, in the form that is known
abbrev pub ReadsPart : Option Form → Form → List ℕ → List ℕ → Type 0
ReadsPart None form part bytes = (bytes ≡ heading form ++ part) × HasForm bytes form
ReadsPart (Some known) form part bytes = (form ≡ known) × (bytes ≡ part)

-- from old to new the source gave this part of a record
pub record GavePart (before : Option Form) (form : Form) (part : List ℕ) (old new : SourceSeen)
    : Type 0 where
  pub bytes : List ℕ
  pub reads : ReadsPart before form part bytes
  pub gave : Gave old new bytes

-- from old to new the source gave the next frame of the record, and no call failed
pub record GaveFrame (before : Option Form) (form : Form) (d : Directed (List ℕ))
    (old new : SourceSeen) : Type 0 where
  pub stands : MayStand form d
  pub part : GavePart before form (record_frame form d) old new
  pub faults : new.faults ≡ old.faults

-- from old to new the source gave no more of the record and has ended, between two frames
pub record EndsRecord (before : Option Form) (form : Form) (old new : SourceSeen) : Type 0 where
  pub part : GavePart before form [] old new
  pub faults : new.faults ≡ old.faults
  pub at_end : IsAtEnd new.left

-- some of a frame of this form and not all, or nothing
abbrev pub IsPart : Form → List ℕ → Type 0
IsPart One part = IsPartial part
IsPart Two part = (part ≡ []) ⊎ IsCutFrame part

-- what stands before the length of a frame
abbrev pub direction_mark : Form → Direction → List ℕ
direction_mark One d = []
direction_mark Two d = direction_byte d ∷ []

-- the length and the id of a frame whose body is to be kept, with what stands before them
pub record IsKeptHead (form : Form) (part : List ℕ) : Type 0 where
  pub direction : Direction
  pub len : ℕ
  pub id : ℕ
  pub bytes : part ≡ direction_mark form direction ++ (four_bytes len ++ id ∷ [])
  pub kept : IsRightSize id len

-- a byte that is no direction, and at most the four after it, where a length would stand
pub record IsOtherStart (part : List ℕ) : Type 0 where
  pub bad : IsBadDirection part
  pub few : length part ≤ 5

-- what was read when this fault came. A byte that is no direction is found before a body is read;
-- out of memory comes after the id of a frame whose body is to be kept
abbrev pub StopsAt : Form → List ℕ → FrameFault → Type 0
StopsAt form part fault.Truncated = IsPart form part × (part ≢ [])
StopsAt form part fault.Read = IsPart form part
StopsAt form part fault.NoMemory = IsKeptHead form part
StopsAt One part fault.BadDirection = ⊥
StopsAt Two part fault.BadDirection = IsOtherStart part

-- no whole frame came, and this is why
pub record StopsInRecord (before : Option Form) (old new : SourceSeen) (why : FrameFault)
    : Type 0 where
  pub form : Form
  pub rest : List ℕ
  pub part : GavePart before form rest old new
  pub faults : CountsRead old.faults new.faults why
  pub ended : why ≡ fault.Truncated → IsAtEnd new.left
  pub stops : StopsAt form rest why

-- the next frame of this form, with an answer that fits it, or the end of the source
abbrev pub GivesNext : {X : Type 0} → Option Form → Form → SourceSeen → SourceSeen
    → (Directed (List ℕ) → X → Type 0) → Option X → Type 0
GivesNext before form old new Fits found = MatchOption found
    (EndsRecord before form old new)
    (λ x. (d : Directed (List ℕ)) × GaveFrame before form d old new × Fits d x)

-- a direction and the length after it, or the end of the source
abbrev pub GivesStart : SourceSeen → SourceSeen → Option (Direction × ℕ) → Type 0
GivesStart old new found = MatchOption found
    (GaveFaultless old new [] × IsAtEnd new.left)
    (λ s. GaveFaultless old new (direction_byte s.0 ∷ four_bytes s.1) × (s.1 < 2 ^ 32))
