-- The memory of a check.
use Rattle.std.specs.Prelude.{◌≡◌, ◌≤◌, [], length}
use Rattle.std.specs.Vec.{vec_capacity}
use Rattle.opening.specs.Description.{Description}
use Rattle.parts.specs.Telling.{HasBits}
use Rattle.parts.specs.declared.room.Room.{Room}
use Rattle.parts.specs.declared.telling.Telling.{Telling}

-- there is room for a verdict on each file, of which there is none yet, and for the bits of pieces
-- that are told of
pub record IsRoomFor (t : Description) (telling : Telling) (room : Room) : Type 0 where
  pub none : room.files.items ≡ []
  pub files : length t.files ≤ vec_capacity room.files
  pub bits : HasBits t telling (vec_capacity room.bits)
