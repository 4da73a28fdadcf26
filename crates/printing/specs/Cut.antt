-- How a report of several texts was cut: its sink failed in one of them, or at the flush; and what
-- a flush does.
use Rattle.std.specs.Prelude.{◌≡◌, ℕ, List, true}
use Rattle.std.specs.Io.KnownBytes.{Appends, Keeps}
use Rattle.benc.specs.Device.{Broke, Sent, SinkSeen, one_more}

-- one text went out, and then a prefix of the next
abbrev pub BrokeAfter : List ℕ → List ℕ → SinkSeen → SinkSeen → Type 0
BrokeAfter first next old new = (mid : SinkSeen) × Sent old mid first × Broke mid new next

-- nothing was written, and one flush was made
pub record Flushed (old new : SinkSeen) : Type 0 where
  pub bytes : Keeps old.written new.written
  pub faults : new.faults ≡ old.faults
  pub flushes : new.flushes ≡ one_more old.flushes
  pub last : new.is_flushed ≡ true

-- nothing was written, and one flush failed
pub record FailedFlush (old new : SinkSeen) : Type 0 where
  pub bytes : Keeps old.written new.written
  pub faults : new.faults ≡ one_more old.faults
  pub flushes : new.flushes ≡ one_more old.flushes

-- all of the text went out, and its flush failed
pub record Unflushed (text : List ℕ) (old new : SinkSeen) : Type 0 where
  pub bytes : Appends old.written new.written text
  pub faults : new.faults ≡ one_more old.faults
  pub flushes : new.flushes ≡ one_more old.flushes
