-- Small files that are read whole into a room.
use Rattle.std.specs.Prelude.{◌≡◌, ℕ, ◌+◌, ◌≤◌, length, take, drop, Result, IfOk, OnErr}
use Rattle.benc.specs.Device.{CountsFault, SourceSeen}
use Rattle.benc.specs.declared.device.DeviceFault.{DeviceFault}
use Rattle.folders.specs.TakeAll.{Fills, IsReadWithin}
use Rattle.folders.specs.declared.room.RoomReader.{RoomReader}

-- there is room for the file and one byte more
abbrev pub FitsIn : RoomReader → Type 0
FitsIn r = r.at + r.size + 1 ≤ length r.room.items

-- the file was read into the room, at most to one byte past its stated size; what stands before it
-- in the room stays
pub record FillsRoom (r s : RoomReader) (answer : Result ℕ DeviceFault) (old new : SourceSeen)
    : Type 0 where
  pub filled : IfOk answer (Fills old new (take (r.size + 1) (drop r.at s.room.items)))
  pub no_further : IsReadWithin (r.size + 1) old new
  pub blamed : OnErr answer (IsReadWithin r.size old new)
  pub counts : CountsFault old.faults new.faults answer
  pub kept : take r.at s.room.items ≡ take r.at r.room.items
  pub count : length s.room.items ≡ length r.room.items
