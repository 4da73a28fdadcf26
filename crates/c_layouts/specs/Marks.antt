-- Which blocks and pieces of a session are marked as verified.
use Rattle.std.specs.Prelude.{◌≡◌, ◌⊎◌, ◌↔◌, ℕ, ◌+◌, ◌-◌, ◌*◌, ◌/◌, ◌<◌, ◌≤◌, true, List, ◌++◌, drop, length, slice_get, Option, Some, None}
use Rattle.std.specs.FinSet as set
use Rattle.hashtree.specs.Bits.{bit_of}
use Rattle.hashtree.specs.Tree.{block_count}
use Rattle.opening.specs.Description.{Description, FileEntry}
use Rattle.session.specs.Session.{SessionSeen, TreeState}
use Rattle.c_layouts.specs.Places.{IsPieceOf}
use Rattle.c_layouts.specs.Torrents.{torrent_piece_count}

-- ---- a file

-- how many leaves of a file's tree are marked; an empty file has no tree
abbrev pub HasTreeMarks : SessionSeen → Option ℕ → ℕ → Type 0
HasTreeMarks S (Some n) marked =
    (s : TreeState) × (slice_get S.trees n ≡ Some s) × (marked ≡ set.len s.marked)
HasTreeMarks S None marked = marked ≡ 0

-- how many blocks of file n are marked, and how many it has
pub record HasFileMarks (S : SessionSeen) (n marked blocks : ℕ) : Type 0 where
  pub file : FileEntry
  pub file_is : slice_get S.torrent.files n ≡ Some file
  pub marked_is : HasTreeMarks S file.tree marked
  pub blocks_is : blocks ≡ block_count file.length

-- ---- a piece

-- each leaf from one up to another is marked
abbrev pub AreLeavesMarked : TreeState → ℕ → ℕ → Type 0
AreLeavesMarked s from to = (b : ℕ) → from ≤ b → b < to → set.contains s.marked b ≡ true

-- where a piece of a file begins in it, in bytes
abbrev pub begin_of : Description → FileEntry → ℕ → ℕ
begin_of d f piece = (piece - f.first_piece) * d.piece_length

-- the piece is one of a file, and each block of the file that lies in it is marked
pub record IsWholePiece (S : SessionSeen) (piece : ℕ) : Type 0 where
  pub number : ℕ
  pub file : FileEntry
  pub file_is : slice_get S.torrent.files number ≡ Some file
  pub in_file : IsPieceOf S.torrent file piece
  pub tree : ℕ
  pub tree_is : file.tree ≡ Some tree
  pub state : TreeState
  pub state_is : slice_get S.trees tree ≡ Some state
  pub marked : (b : ℕ) → b < block_count file.length → begin_of S.torrent file piece ≤ 16384 * b
      → 16384 * b < begin_of S.torrent file piece + S.torrent.piece_length
      → set.contains state.marked b ≡ true

-- ---- a bitfield (BEP 3, "bitfield")

-- how many bytes it has: a bit for each piece
abbrev pub bitfield_size : Description → ℕ
bitfield_size d = (torrent_piece_count d + 7) / 8

-- a bit is set exactly if its piece is whole; so those past the last piece are clear
abbrev pub TellWholePieces : SessionSeen → List ℕ → Type 0
TellWholePieces S bits = (k : ℕ) → (bit_of bits k ≡ 1) ↔ IsWholePiece S k

-- the bitfield at the front of the room, whose other bytes stay
pub record HasBitsAtFront (S : SessionSeen) (room room' : List ℕ) : Type 0 where
  pub bits : List ℕ
  pub size_is : length bits ≡ bitfield_size S.torrent
  pub tell : TellWholePieces S bits
  pub room_is : room' ≡ bits ++ drop (length bits) room

-- it is there; or the room is too small, and stays as it is. The size is written in both cases
abbrev pub HasBitfield : SessionSeen → ℕ → List ℕ → List ℕ → ℕ → Type 0
HasBitfield S status room room' size = (size ≡ bitfield_size S.torrent)
    × (((status ≡ 0) × HasBitsAtFront S room room')
    ⊎ ((status ≡ 7) × ((length room < size) × (room' ≡ room))))
