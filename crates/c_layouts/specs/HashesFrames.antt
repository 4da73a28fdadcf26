-- A hashes message as the bytes of its frame (BEP 3, "peer messages"; BEP 52, "hashes").
use Rattle.std.specs.Prelude.{◌≡◌, ◌⊎◌, ℕ, ◌+◌, ◌*◌, ◌<◌, List, ◌++◌, drop, length}
use Rattle.node_maps.specs.Digest.{Hash}
use Rattle.wire.specs.Frames.{IsBody, frame}
use Rattle.wire.specs.Meaning.{IsHashesBody}
use Rattle.wire.specs.declared.message.Ask.{Ask}

-- the most hashes that a body which a reader keeps can have
abbrev pub most_hashes : ℕ
most_hashes = 8224

-- how many bytes the frame of a hashes message has: the four that say its length, its id and five
-- fields, and 32 for each hash
abbrev pub frame_size : List Hash → ℕ
frame_size hashes = 53 + length hashes * 32

-- the frame of a body that means the message is at the front of the room, whose other bytes stay
pub record IsAtFront (ask : Ask) (hashes : List Hash) (room room' : List ℕ) : Type 0 where
  pub body : List ℕ
  pub fits : IsBody body
  pub means : IsHashesBody body ask hashes
  pub size_is : length (frame body) ≡ frame_size hashes
  pub room_is : room' ≡ frame body ++ drop (frame_size hashes) room

-- it is there; or the room is too small, and stays as it is. The size is written in both cases
abbrev pub HasFrame : Ask → List Hash → ℕ → List ℕ → List ℕ → ℕ → Type 0
HasFrame ask hashes status room room' size = (size ≡ frame_size hashes)
    × (((status ≡ 0) × IsAtFront ask hashes room room')
    ⊎ ((status ≡ 7) × ((length room < size) × (room' ≡ room))))
