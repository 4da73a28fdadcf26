-- The zeros that a client sends behind the end of a file, so that its last block is a whole one.
use Rattle.std.specs.Prelude.{◌≡◌, ◌⊎◌, ℕ, ◌-◌, ◌*◌, ◌<◌, ◌≤◌, List, length, take, drop, All, Some, slice_get}
use Rattle.std.specs.Borrow.{Bor}
use Rattle.hashtree.specs.Tree.{block_count}
use Rattle.opening.specs.Description.{Description, FileEntry}
use Rattle.opening.specs.Places.{place_of}
use Rattle.wire.specs.declared.message.Message.{Message}
use Rattle.wire.specs.declared.message.Message.TheVariants as message

-- from the block at this place, this many bytes of its file are left
pub record HasLeft (t : Description) (index begin left : ℕ) : Type 0 where
  pub file : ℕ
  pub number : ℕ
  pub entry : FileEntry
  pub at : place_of t index begin ≡ Some (file, number)
  pub there : slice_get t.files file ≡ Some entry
  pub left_is : left ≡ entry.length - 16384 * number

-- the bytes are more than this many, and at most as many as their blocks have if each is whole; all
-- bytes behind them are zeros
pub record IsPaddedTo (bytes : List ℕ) (left : ℕ) : Type 0 where
  pub more : left < length bytes
  pub within : length bytes ≤ 16384 * block_count left
  pub zeros : All (λ byte. byte ≡ 0) (drop left bytes)

-- the bytes at this place are padded: this many of them are the file's
abbrev pub IsPadded : Description → ℕ → ℕ → List ℕ → ℕ → Type 0
IsPadded t index begin bytes left = HasLeft t index begin left × IsPaddedTo bytes left

-- what is the file's of the bytes at this place: all of them, if they are not padded
abbrev pub IsUnpadded : Description → ℕ → ℕ → List ℕ → List ℕ → Type 0
IsUnpadded t index begin bytes cut =
    ((left : ℕ) × IsPadded t index begin bytes left × (cut ≡ take left bytes))
    ⊎ (((left : ℕ) → ¬ IsPadded t index begin bytes left) × (cut ≡ bytes))

-- the message without its padding, if it has any
abbrev pub IsWithoutPadding : Description → Message → Message → Type 0
IsWithoutPadding t (message.Piece index begin bytes) m = (cut : Bor (List ℕ))
    × (m ≡ message.Piece index begin cut) × IsUnpadded t index begin bytes.now cut.now
IsWithoutPadding t other m = m ≡ other
