-- What reading a source to its end found, and what took the bytes.
use Rattle.std.specs.Prelude.{◌≡◌, ℕ, ◌+◌, ◌<◌, ◌≤◌, List, length, take, Option, Some, None, Result, Ok, Err}
use Rattle.std.specs.Io.KnownBytes.{IsAtEnd}
use Rattle.benc.specs.Device.{SourceSeen, one_more}
use Rattle.folders.specs.declared.taking.ReadFault.{ReadFault}
use Rattle.folders.specs.declared.taking.ReadFault.TheVariants as fault
use Rattle.wire.specs.Reading.{Gave}

-- no more bytes than these were read
abbrev pub IsReadWithin : ℕ → SourceSeen → SourceSeen → Type 0
IsReadWithin bound old new = old.limit ≤ new.limit + bound

-- the source filled so much of the buffer; less than all of it only at its end
pub record Fills (old new : SourceSeen) (buffer : List ℕ) (count : ℕ) : Type 0 where
  pub bound : count ≤ length buffer
  pub gave : Gave old new (take count buffer)
  pub ended : count < length buffer → IsAtEnd new.left

-- all that the source had, and this many bytes, at most as many as the bound, went to the consumer
pub record TookAll {T : Type 0} (took : T → List ℕ → T → Type 0) (old new : SourceSeen) (bound : ℕ)
    (before after : T) (count : ℕ) : Type 0 where
  pub bytes : List ℕ
  pub count_is : length bytes ≡ count
  pub within : count ≤ bound
  pub gave : Gave old new bytes
  pub ended : IsAtEnd new.left
  pub taken : took before bytes after

-- the source gave more bytes than the bound
abbrev pub GaveMore : SourceSeen → SourceSeen → ℕ → Type 0
GaveMore old new bound = (bytes : List ℕ) × Gave old new bytes × (bound < length bytes)

-- the source was taken whole, or it has more bytes than the bound
abbrev pub ReadAll : {T : Type 0} → (T → List ℕ → T → Type 0) → SourceSeen → SourceSeen → ℕ
    → T → T → Option ℕ → Type 0
ReadAll took old new bound before after (Some count) = TookAll took old new bound before after count
ReadAll took old new bound before after None = GaveMore old new bound

-- the count of the source's faults grows by one if it failed, and else stays
abbrev pub CountsReading : {A : Type 0} → ℕ → ℕ → Result A ReadFault → Type 0
CountsReading old new (Ok n) = new ≡ old
CountsReading old new (Err fault.Device) = new ≡ one_more old
CountsReading old new (Err fault.NoMemory) = new ≡ old
