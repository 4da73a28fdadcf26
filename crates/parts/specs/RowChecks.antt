-- Pieces of a file in a row, compared with their part of the piece layer, or the only piece of a
-- file with its root, and with their part of the version 1 pieces.
use Rattle.std.specs.Prelude.{◌≡◌, ◌↔◌, ℕ, ◌+◌, ◌-◌, ◌*◌, ◌<◌, ◌≤◌, min, ◌++◌, List, [], ◌∷◌, length, drop, slice_range, IsTrue, Option, Some, None}
use Rattle.std.specs.Io.KnownBytes.{IsAtEnd}
use Rattle.hashtree.specs.Tree.{block_count, height, root_of}
use Rattle.opening.specs.Description.{Description, FileEntry, TreeEntry, Version1}
use Rattle.opening.specs.Sound.{piece_layer}
use Rattle.benc.specs.Device.{SourceSeen}
use Rattle.folders.specs.CutFeeds.{CutsEndAt, IsCutGiven}
use Rattle.folders.specs.Folder.{tree_entry_of}
use Rattle.pieces.specs.declared.v1_feed.V1Feed.{V1Feed}
use Rattle.wire.specs.Reading.{Gave}
use Rattle.parts.specs.FilePieces.{AreJudgedFrom}
use Rattle.parts.specs.RowBits.{AreBitsOf}
use Rattle.parts.specs.declared.row.Found.{Found}
use Rattle.parts.specs.declared.places.Span.{Span}

-- these are the hashes of pieces of a file from one up to another, of this layer: a file of one
-- piece is compared with its root
pub record IsRowOf (t : Description) (f : FileEntry) (e : TreeEntry) (from to layer : ℕ)
    (hashes : List (List ℕ)) : Type 0 where
  pub at_root : f.length ≤ t.piece_length
      → (layer ≡ height (block_count f.length)) × (hashes ≡ e.root ∷ [])
  pub at_pieces : t.piece_length < f.length
      → (layer ≡ piece_layer t.piece_length) × (hashes ≡ slice_range e.layer from to)

-- this is the layer
abbrev pub IsRowLayer : Description → FileEntry → ℕ → Type 0
IsRowLayer t f layer = (f.length ≤ t.piece_length → layer ≡ height (block_count f.length))
    × (t.piece_length < f.length → layer ≡ piece_layer t.piece_length)

-- and these are the hashes
abbrev pub IsRowHashes : Description → FileEntry → TreeEntry → ℕ → ℕ → List (List ℕ) → Type 0
IsRowHashes t f e from to hashes = (f.length ≤ t.piece_length → hashes ≡ e.root ∷ [])
    × (t.piece_length < f.length → hashes ≡ slice_range e.layer from to)

-- the part of the version 1 stream that has these pieces of the torrent, and what is listed for it
abbrev pub stream_part : ℕ → Version1 → ℕ → ℕ → Version1
stream_part pl v from to = record {
  pieces = slice_range v.pieces from to;
  total = min v.total (pl * to) - pl * from;
}

-- the cuts, if there are some, are of that part, and were given nothing
pub record IsRowCuts (t : Description) (f : FileEntry) (s : Span) (v : Version1)
    (feed : Option V1Feed) : Type 0 where
  pub ends : CutsEndAt feed
      (stream_part t.piece_length v (f.first_piece + s.from) (f.first_piece + s.to)).total
  pub given : IsCutGiven feed
      (stream_part t.piece_length v (f.first_piece + s.from) (f.first_piece + s.to)).pieces
      t.piece_length []

-- how many bytes of a file the pieces have from one up to another
abbrev pub row_bytes : Description → FileEntry → ℕ → ℕ → ℕ
row_bytes t f from to = min (t.piece_length * to) f.length - t.piece_length * from

-- the source ended before the pieces did, and the bits tell which of them are whole and good
pub record EndsInRow (t : Description) (f : FileEntry) (from to : ℕ) (old new : SourceSeen)
    (bits : List ℕ) : Type 0 where
  pub own : List ℕ
  pub short : length own < row_bytes t f from to
  pub gave : Gave old new own
  pub ended : IsAtEnd new.left
  pub bits_of : (bytes : List ℕ) → drop (t.piece_length * from) bytes ≡ own
      → AreBitsOf t f from to bytes bits

-- the pieces from one up to another were read and judged
pub record ReadsRow (t : Description) (f : FileEntry) (from to : ℕ) (old new : SourceSeen)
    (bits : List ℕ) (found : Found) : Type 0 where
  pub own : List ℕ
  pub gave : Gave old new own
  pub judged : AreJudgedFrom t f from to own found.bad found.bad_cut
  pub bits_of : (bytes rest : List ℕ) → drop (t.piece_length * from) bytes ≡ own ++ rest
      → AreBitsOf t f from to bytes bits
  pub root : from < to → (e : TreeEntry) → tree_entry_of t f ≡ Some e
      → IsTrue found.root_is ↔ (root_of own ≡ e.root)

-- the pieces were read and judged, or the source ended before
abbrev pub JudgesPieces : Description → FileEntry → ℕ → ℕ → SourceSeen → SourceSeen → List ℕ
    → Option Found → Type 0
JudgesPieces t f from to old new bits None = EndsInRow t f from to old new bits
JudgesPieces t f from to old new bits (Some found) = ReadsRow t f from to old new bits found
