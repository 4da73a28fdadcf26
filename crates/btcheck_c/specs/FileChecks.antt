-- What a check of some of a file's pieces in a row was given, and what it finds (BEP 52, "pieces
-- root" and "piece layers"). A file of one piece is compared by its root.
use Rattle.std.specs.Prelude.{◌≡◌, ◌≢◌, ◌↔◌, ℕ, ◌+◌, ◌-◌, ◌*◌, ◌<◌, ◌≤◌, List, [], ◌++◌, length, min}
use Rattle.std.specs.Prelude.{slice_range, Option, Some, None, MatchOption}
use Rattle.hashtree.specs.Bits.{AreClear, AreMarked, bit_of}
use Rattle.hashtree.specs.Difference.{IsComparison, IsFirstDifference}
use Rattle.hashtree.specs.Pieces.{piece_nodes}
use Rattle.hashtree.specs.Tree.{layer_of, root_of}
use Rattle.opening.specs.Description.{TreeEntry}
use Rattle.opening.specs.PieceLayers.{piece_layer}
use Rattle.pieces.specs.Marks.{AreMarkedWhole}
use Rattle.pieces.specs.Pieces.{pieces_of}
use Rattle.short_pushes.specs.RowChecks as rows
use Rattle.btcheck_c.specs.declared.file_check.FileCheck.{FileCheck}

-- how many bytes the check was given
abbrev pub check_bytes_given : FileCheck → ℕ
check_bytes_given c = rows.row_byte_count c.check

-- how many bytes are still to come
abbrev pub check_bytes_left : FileCheck → ℕ
check_bytes_left c = rows.shape_of_row c.check - check_bytes_given c

-- how many bytes the pieces from one number up to another have, of a file of n bytes
abbrev pub row_length : ℕ → ℕ → ℕ → ℕ → ℕ
row_length piece_length n from to = min (piece_length * to) n - piece_length * from

-- the check was given this content, and these bits tell which of its pieces are complete and good
abbrev pub IsGivenToCheck : FileCheck → List ℕ → List ℕ → Type 0
IsGivenToCheck c good content = rows.IsGivenRow c.check good content

-- the check compares with this root the one piece of the row, whose hash it does not look at
abbrev pub IsByRoot : TreeEntry → FileCheck → Type 0
IsByRoot e c = (c.root ≡ Some e.root) × (length (rows.hashes_of_row c.check) ≡ 1)

-- the check compares these pieces of a file with their hashes in the piece layer
pub record IsByLayer (piece_length : ℕ) (e : TreeEntry) (from to : ℕ) (c : FileCheck)
    : Type 0 where
  pub root : c.root ≡ None
  pub listed : length e.layer ≡ pieces_of piece_length e.length
  pub hashes : rows.hashes_of_row c.check ≡ slice_range e.layer from to

-- the check compares these pieces of a file with this tree, of a torrent with this piece length:
-- the only one by its root, else each by its node
pub record IsAgainst (piece_length : ℕ) (e : TreeEntry) (from to : ℕ) (c : FileCheck)
    : Type 0 where
  pub order : from < to
  pub within : to ≤ pieces_of piece_length e.length
  pub first : c.first ≡ from
  pub size : rows.shape_of_row c.check ≡ row_length piece_length e.length from to
  pub layer : rows.layer_of_row c.check ≡ piece_layer piece_length
  pub one : e.length ≤ piece_length → IsByRoot e c
  pub many : piece_length < e.length → IsByLayer piece_length e from to c

-- nothing was given yet to the check of these pieces of a file with this tree
pub record BeginsFile (piece_length : ℕ) (e : TreeEntry) (from to : ℕ) (c : FileCheck)
    : Type 0 where
  pub against : IsAgainst piece_length e from to c
  pub count : check_bytes_given c ≡ 0
  pub given : (good : List ℕ) → AreClear good → IsGivenToCheck c good []

-- the check was given these further bytes, and marked the bits
pub record FeedsFileCheck (old : FileCheck) (marked : List ℕ) (bytes : List ℕ) (new : FileCheck)
    (marks : List ℕ) : Type 0 where
  pub count : check_bytes_given new ≡ check_bytes_given old + length bytes
  pub against : (piece_length : ℕ) (e : TreeEntry) (from to : ℕ)
      → IsAgainst piece_length e from to old → IsAgainst piece_length e from to new
  pub bits : length marks ≡ length marked
  pub given : (content : List ℕ) → IsGivenToCheck old marked content
      → IsGivenToCheck new marks (content ++ bytes)

-- ---- the end

-- the content has the tree's root, or its only piece is bad
abbrev pub IsRootVerdict : TreeEntry → List ℕ → Option ℕ → Type 0
IsRootVerdict e content bad =
    MatchOption bad (root_of content ≡ e.root) (λ i. (i ≡ 0) × (root_of content ≢ e.root))

-- the nodes of the content's pieces are the tree's piece layer, or the first that is not is named
abbrev pub IsPieceVerdict : ℕ → TreeEntry → List ℕ → Option ℕ → Type 0
IsPieceVerdict piece_length e content bad =
    IsComparison (layer_of content (piece_layer piece_length)) e.layer bad

-- the content has the tree's length, and this is its first bad piece, if it has one
pub record IsContentVerdict (piece_length : ℕ) (e : TreeEntry) (content : List ℕ)
    (bad : Option ℕ) : Type 0 where
  pub whole : length content ≡ e.length
  pub one : e.length ≤ piece_length → IsRootVerdict e content bad
  pub many : piece_length < e.length → IsPieceVerdict piece_length e content bad

-- the nodes of a row are these hashes, or this is the number in the file of the first that is not
abbrev pub IsFirstFrom : ℕ → List (List ℕ) → List (List ℕ) → Option ℕ → Type 0
IsFirstFrom from nodes hashes None = nodes ≡ hashes
IsFirstFrom from nodes hashes (Some i) =
    (place : ℕ) × (i ≡ from + place) × IsFirstDifference nodes hashes place

-- bit k tells whether piece k of the row is the torrent's, as a bitfield has it (BEP 3); those past
-- the last piece are clear
pub record AreBitsOfRow (piece_length : ℕ) (e : TreeEntry) (from to : ℕ) (content good : List ℕ)
    : Type 0 where
  pub one : e.length ≤ piece_length → (k : ℕ) → k < 8 * length good
      → (bit_of good k ≡ 1) ↔ ((k ≡ 0) × (root_of content ≡ e.root))
  pub many : piece_length < e.length → AreMarked good (slice_range e.layer from to)
      (piece_nodes (piece_layer piece_length) content)

-- The content is these pieces of a file: this is the first bad one, if there is one, and the bits
-- tell which are good. All pieces of the file are the file.
pub record IsRowVerdict (piece_length : ℕ) (e : TreeEntry) (from to : ℕ) (content good : List ℕ)
    (bad : Option ℕ) : Type 0 where
  pub whole : length content ≡ row_length piece_length e.length from to
  pub bits : AreBitsOfRow piece_length e from to content good
  pub first : piece_length < e.length
      → IsFirstFrom from (piece_nodes (piece_layer piece_length) content)
      (slice_range e.layer from to) bad
  pub file : from ≡ 0 → to ≡ pieces_of piece_length e.length
      → IsContentVerdict piece_length e content bad

-- so it is of each content that the check was given
abbrev pub IsFileVerdict : FileCheck → List ℕ → List ℕ → Option ℕ → Type 0
IsFileVerdict c marked good bad = (piece_length : ℕ) (e : TreeEntry) (from to : ℕ)
    (content : List ℕ) → IsAgainst piece_length e from to c → IsGivenToCheck c marked content
    → IsRowVerdict piece_length e from to content good bad

-- ---- an early end

-- the content ends before these pieces do; the only piece of a file is then not there, and of more
-- pieces the bits tell which are whole and have their hash
pub record IsShortRow (piece_length : ℕ) (e : TreeEntry) (from to : ℕ) (content good : List ℕ)
    : Type 0 where
  pub short : length content < row_length piece_length e.length from to
  pub one : e.length ≤ piece_length → AreClear good
  pub many : piece_length < e.length
      → AreMarkedWhole good (slice_range e.layer from to) (piece_layer piece_length) content

-- so it is of each content that the check was given
abbrev pub IsShortFile : FileCheck → List ℕ → List ℕ → Type 0
IsShortFile c marked good = (piece_length : ℕ) (e : TreeEntry) (from to : ℕ) (content : List ℕ)
    → IsAgainst piece_length e from to c → IsGivenToCheck c marked content
    → IsShortRow piece_length e from to content good

-- the check of the same pieces, which was given nothing
abbrev pub BeginsFileAnew : FileCheck → FileCheck → Type 0
BeginsFileAnew old new = (piece_length : ℕ) (e : TreeEntry) (from to : ℕ)
    → IsAgainst piece_length e from to old → BeginsFile piece_length e from to new
