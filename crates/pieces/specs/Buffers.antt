-- The buffer through which files are read.
use Rattle.std.specs.Prelude.{ℕ}
use Rattle.std.specs.Vec.{vec_capacity}
use Rattle.pieces.specs.declared.buffer.PieceBuffer.{PieceBuffer}

-- how many bytes of memory it takes
abbrev pub buffer_room : PieceBuffer → ℕ
buffer_room b = vec_capacity b.room
