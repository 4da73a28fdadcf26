-- What may be written.
use Rattle.std.specs.Prelude.{ℕ, ◌-◌, ◌/◌, ◌≤◌, length}
use Rattle.wire.specs.Meaning.{ask_size, max_body, min_piece}
use Rattle.wire.specs.declared.message.Message.{Message}
use Rattle.wire.specs.declared.message.Message.TheVariants as message

-- the most bytes of a block that is written
abbrev pub max_block : ℕ
max_block = max_body - min_piece

-- the most hashes of a hashes message that is written
abbrev pub max_hashes : ℕ
max_hashes = (max_body - ask_size) / 32

-- a message whose body is no longer than what a reader keeps
abbrev pub IsWritable : Message → Type 0
IsWritable (message.Piece index begin block) = length block.now ≤ max_block
IsWritable (message.Request ask) = Unit {0}
IsWritable (message.Hashes ask hashes) = length hashes.now ≤ max_hashes
IsWritable (message.Reject ask) = Unit {0}
IsWritable message.KeepAlive = Unit {0}
IsWritable (message.Other id len) = ⊥
