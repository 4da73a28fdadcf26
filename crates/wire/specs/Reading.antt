-- What a source gave on the way to an answer.
use Rattle.std.specs.Prelude.{◌≡◌, ◌≢◌, ℕ, ◌+◌, ◌^◌, ◌<◌, List, [], ◌∷◌, ◌++◌, length, Option, Result, MatchResult, MatchOption}
use Rattle.std.specs.Io.KnownBytes.{Consumes, IsAtEnd}
use Rattle.benc.specs.Device.{SourceSeen, one_more}
use Rattle.wire.specs.Frames.{IsBody, IsPartial, four_bytes, frame}
use Rattle.wire.specs.Meaning.{IsRightSize}
use Rattle.wire.specs.declared.fault.FrameFault.{FrameFault}
use Rattle.wire.specs.declared.fault.FrameFault.TheVariants as fault

-- from old to new the source gave these bytes
pub record Gave (old new : SourceSeen) (bytes : List ℕ) : Type 0 where
  pub given : Consumes old.left new.left bytes
  pub falls : new.limit + length bytes ≡ old.limit

-- from old to new the source gave these bytes, and no call failed
pub record GaveFaultless (old new : SourceSeen) (bytes : List ℕ) : Type 0 where
  pub gave : Gave old new bytes
  pub faults : new.faults ≡ old.faults

-- the count of a source's faults grows by one at `Read`, and else stays
abbrev pub CountsRead : ℕ → ℕ → FrameFault → Type 0
CountsRead old new fault.Read = new ≡ one_more old
CountsRead old new fault.Truncated = new ≡ old
CountsRead old new fault.NoMemory = new ≡ old
CountsRead old new fault.BadDirection = new ≡ old

-- from old to new the source gave these bytes of a frame, and then this came: `Truncated` at the
-- source's end, `Read` if a call failed. No byte of a frame is a direction
pub record GaveUntil (old new : SourceSeen) (bytes : List ℕ) (why : FrameFault) : Type 0 where
  pub gave : Gave old new bytes
  pub faults : CountsRead old.faults new.faults why
  pub ended : why ≡ fault.Truncated → IsAtEnd new.left
  pub no_direction : why ≢ fault.BadDirection

-- this many bytes were wanted, and this came before the last of them. Out of memory comes before
-- the first
pub record StopsShort (old new : SourceSeen) (wanted : ℕ) (why : FrameFault) : Type 0 where
  pub bytes : List ℕ
  pub gave : GaveUntil old new bytes why
  pub short : length bytes < wanted
  pub untouched : why ≡ fault.NoMemory → bytes ≡ []

-- the four bytes of a length came, or nothing came, at the end of the source
abbrev pub GivesLength : SourceSeen → SourceSeen → Option ℕ → Type 0
GivesLength old new found = MatchOption found
    (GaveFaultless old new [] × IsAtEnd new.left)
    (λ len. GaveFaultless old new (four_bytes len) × (len < 2 ^ 32))

-- a body of this length came, with an answer that fits it
abbrev pub GivesBody : {X : Type 0} → SourceSeen → SourceSeen → ℕ → (List ℕ → X → Type 0) → X
    → Type 0
GivesBody old new len Fits x = (body : List ℕ) × GaveFaultless old new body
    × (length body ≡ len) × Fits body x

-- these bytes came, or stopped short
abbrev pub GivesAll : {A : Type 0} → SourceSeen → SourceSeen → List ℕ → ℕ → Result A FrameFault
    → Type 0
GivesAll old new bytes wanted result =
    MatchResult result (λ _. GaveFaultless old new bytes) (StopsShort old new wanted)

-- a body of this length stopped short. Out of memory comes after the id of a message of a known
-- kind, if its body may have this length
pub record StopsInBody (old new : SourceSeen) (len : ℕ) (why : FrameFault) : Type 0 where
  pub bytes : List ℕ
  pub gave : GaveUntil old new bytes why
  pub short : length bytes < len
  pub growing : why ≡ fault.NoMemory → (id : ℕ) × (bytes ≡ id ∷ []) × IsRightSize id len

-- less than a length stopped short
pub record StopsInLength (old new : SourceSeen) (why : FrameFault) : Type 0 where
  pub bytes : List ℕ
  pub gave : GaveUntil old new bytes why
  pub short : length bytes < 4
  pub begun : why ≢ fault.Read → bytes ≢ []

-- no whole frame came, and this is why. Out of memory comes after the length and the id of a frame
-- whose body is to be kept
pub record StopsInFrame (old new : SourceSeen) (why : FrameFault) : Type 0 where
  pub bytes : List ℕ
  pub gave : GaveUntil old new bytes why
  pub partial : IsPartial bytes
  pub begun : why ≢ fault.Read → bytes ≢ []
  pub growing : why ≡ fault.NoMemory
      → (len id : ℕ) × (bytes ≡ four_bytes len ++ id ∷ []) × IsRightSize id len

-- one call gives the next frame, with an answer that fits its body, or the end of the source, or a
-- fault before a whole frame
abbrev pub Gives : {X : Type 0} → SourceSeen → SourceSeen → (List ℕ → X → Type 0)
    → Result (Option X) FrameFault → Type 0
Gives old new Fits result = MatchResult result
    (λ found. MatchOption found
    (GaveFaultless old new [] × IsAtEnd new.left)
    (λ x. (body : List ℕ) × IsBody body × GaveFaultless old new (frame body) × Fits body x))
    (StopsInFrame old new)
