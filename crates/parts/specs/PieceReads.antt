-- How an opened file is read for some of its pieces.
use Rattle.std.specs.Prelude.{◌≡◌, ℕ, ◌+◌, length, IsTrue, IfOk, IfSome, OnErr, Option, Result}
use Rattle.std.specs.Global.{Vec}
use Rattle.std.specs.Vec.{vec_capacity}
use Rattle.benc.specs.Device.{CountsFault, SourceSeen}
use Rattle.benc.specs.declared.device.DeviceFault.{DeviceFault}
use Rattle.folders.specs.TakeAll.{IsReadWithin}
use Rattle.folders.specs.Verdicts.{IsFileOf}
use Rattle.hashtree.specs.Bits.{AreClear}
use Rattle.opening.specs.Description.{Description, FileEntry}
use Rattle.parts.specs.FilePieces.{FindsPieces, HasNumbersBelow, TakesRowBytes}
use Rattle.parts.specs.Spans.{IsSpan, span_bytes}
use Rattle.parts.specs.declared.row.Found.{Found}
use Rattle.parts.specs.declared.places.Span.{Span}

-- the torrent has the file, and the file these pieces, and no bit is set
pub record MayReadPieces (t : Description) (f : FileEntry) (s : Span) (bits : Vec ℕ) : Type 0 where
  pub file : IsFileOf t f
  pub span : IsSpan t f s
  pub clear : AreClear bits.items

-- The pieces were read and judged, and the bits of those are set that are whole and good. If the
-- file ends with them its end was read too, and nothing else.
pub record ReadsPieces (t : Description) (f : FileEntry) (s : Span) (old_bits bits : Vec ℕ)
    (answer : Result (Option Found) DeviceFault) (old new : SourceSeen) : Type 0 where
  pub found : IfOk answer (FindsPieces t f s old.left bits.items)
  pub inside : IfOk answer (λ found. IfSome found (HasNumbersBelow s.to))
  pub room : vec_capacity bits ≡ vec_capacity old_bits
  pub count : length bits.items ≡ length old_bits.items
  pub no_further : IsReadWithin (span_bytes t f s + 1) old new
  pub own : (IsTrue s.ends → ⊥) → IsReadWithin (span_bytes t f s) old new
  pub taken : IfOk answer (TakesRowBytes (span_bytes t f s) old new)
  pub blamed : OnErr answer (IsReadWithin (span_bytes t f s) old new)
  pub counts : CountsFault old.faults new.faults answer
