-- The pieces of a file in a row, as a part reads and judges them.
use Rattle.std.specs.Prelude.{◌≡◌, ◌≢◌, ◌↔◌, ℕ, ◌+◌, ◌*◌, ◌<◌, ◌≤◌, min, ◌++◌, List, length, drop, IsTrue, Option, Some, None, ⊤}
use Rattle.benc.specs.Device.{SourceSeen}
use Rattle.hashtree.specs.Tree.{root_of}
use Rattle.opening.specs.Description.{Description, FileEntry, TreeEntry, Version1}
use Rattle.folders.specs.Folder.{tree_entry_of}
use Rattle.folders.specs.Visits.{HadBytes}
use Rattle.parts.specs.Parts.{IsPieceGood, IsVersion1Good, piece_count}
use Rattle.parts.specs.RowBits.{AreBitsOf}
use Rattle.parts.specs.declared.row.Found.{Found}
use Rattle.parts.specs.declared.places.Span.{Span}

-- of these numbers, from one up to another, this is the first that is bad, or all are good
abbrev pub IsFirstBadNumber : ℕ → ℕ → (ℕ → Type 0) → Option ℕ → Type 0
IsFirstBadNumber from to IsGood None = (k : ℕ) → from ≤ k → k < to → IsGood k
IsFirstBadNumber from to IsGood (Some p) =
    (from ≤ p) × (p < to) × (IsGood p → ⊥) × ((k : ℕ) → from ≤ k → k < p → IsGood k)

-- of these pieces of a content, from one up to another, the first that is bad is this one; and so
-- of the version 1 pieces
abbrev pub AreFirstBad : Description → FileEntry → ℕ → ℕ → List ℕ → Option ℕ → Option ℕ → Type 0
AreFirstBad t f from to bytes bad bad_cut =
    IsFirstBadNumber from to (IsPieceGood t f bytes) bad
    × ((v : Version1) → t.v1 ≡ Some v
    → IsFirstBadNumber from to (IsVersion1Good t v f bytes) bad_cut)

-- These bytes were read from one of the pieces on, and the pieces before another are judged, for
-- each content that has these bytes there; if it has no further piece, it is as long as stated.
pub record AreJudgedFrom (t : Description) (f : FileEntry) (from to : ℕ) (given : List ℕ)
    (bad bad_cut : Option ℕ) : Type 0 where
  pub count : length given + t.piece_length * from ≡ min (t.piece_length * to) f.length
  pub judged : (bytes rest : List ℕ) → drop (t.piece_length * from) bytes ≡ given ++ rest
      → (to ≡ piece_count t f → length bytes ≡ f.length)
      → AreFirstBad t f from to bytes bad bad_cut

-- of a content that is not as long as stated the bits tell which pieces are good
pub record FoundOther (t : Description) (f : FileEntry) (s : Span) (bits bytes : List ℕ)
    : Type 0 where
  pub other : length bytes ≢ f.length
  pub bits_of : AreBitsOf t f s.from s.to bytes bits

-- what was found of these pieces of a content, to whose end was read if they go up to it
pub record FoundPieces (t : Description) (f : FileEntry) (s : Span) (bits : List ℕ) (found : Found)
    (bytes : List ℕ) : Type 0 where
  pub ends : IsTrue s.ends → length bytes ≡ f.length
  pub whole : min (t.piece_length * s.to) f.length ≤ length bytes
  pub judged : AreFirstBad t f s.from s.to bytes found.bad found.bad_cut
  pub bits_of : AreBitsOf t f s.from s.to bytes bits
  pub root : s.from ≡ 0 → IsTrue s.ends → (e : TreeEntry) → tree_entry_of t f ≡ Some e
      → IsTrue found.root_is ↔ (root_of bytes ≡ e.root)

-- this was found of a content
abbrev pub FoundOfPieces : Description → FileEntry → Span → List ℕ → Option Found → List ℕ
    → Type 0
FoundOfPieces t f s bits None bytes = FoundOther t f s bits bytes
FoundOfPieces t f s bits (Some found) bytes = FoundPieces t f s bits found bytes

-- what was found of a source that is to give a file from one of its pieces on, and had this to
-- give
abbrev pub FindsPieces : Description → FileEntry → Span → Option (List ℕ) → List ℕ → Option Found
    → Type 0
FindsPieces t f s left bits found =
    HadBytes left (t.piece_length * s.from) (FoundOfPieces t f s bits found)

-- exactly this many bytes were taken of a source for what was found, and else another number
abbrev pub TakesRowBytes : ℕ → SourceSeen → SourceSeen → Option Found → Type 0
TakesRowBytes size old new None = new.limit + size ≢ old.limit
TakesRowBytes size old new (Some found) = new.limit + size ≡ old.limit

-- a number is below this one, if there is one
abbrev pub IsBelow : ℕ → Option ℕ → Type 0
IsBelow n None = ⊤
IsBelow n (Some k) = k < n

-- what was found has numbers below this one
abbrev pub HasNumbersBelow : ℕ → Found → Type 0
HasNumbersBelow n found = IsBelow n found.bad × IsBelow n found.bad_cut
