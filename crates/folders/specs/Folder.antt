-- What it means that a folder holds a torrent's files (BEP 52; for a hybrid BEP 3 and BEP 47 too).
use Rattle.std.specs.Prelude.{◌≡◌, ℕ, ◌+◌, ◌*◌, ◌<◌, ◌≤◌, List, [], length, take, drop, slice_index, slice_get, Option, Some, option_and_then}
use Rattle.hashtree.specs.Tree.{Fits}
use Rattle.opening.specs.Description.{Description, FileEntry, TreeEntry, Version1}
use Rattle.pieces.specs.Cuts.{cut_digests}

-- what stands at the path of each file of a torrent, by the file's number: its bytes, or nothing
abbrev pub Contents : Type 0
Contents = ℕ → Option (List ℕ)

-- the tree of a file; an empty file has none
abbrev pub tree_entry_of : Description → FileEntry → Option TreeEntry
tree_entry_of t f = option_and_then (slice_get t.trees) f.tree

-- these bytes are the file: none if its length is 0, else bytes that fit its tree
pub record IsGoodFile (t : Description) (f : FileEntry) (bytes : List ℕ) : Type 0 where
  pub empty : f.length ≡ 0 → bytes ≡ []
  pub fits : 0 < f.length
      → (e : TreeEntry) × (tree_entry_of t f ≡ Some e) × Fits bytes e.length e.root

-- where the file begins in the version 1 stream: at its first piece
abbrev pub stream_start_of : Description → FileEntry → ℕ
stream_start_of t f = f.first_piece * t.piece_length

-- a file with this content covers this byte of the version 1 stream
pub record Covers (t : Description) (contents : Contents) (i : ℕ) : Type 0 where
  pub number : ℕ
  pub file : FileEntry
  pub bytes : List ℕ
  pub there : slice_get t.files number ≡ Some file
  pub content : contents number ≡ Some bytes
  pub from : stream_start_of t file ≤ i
  pub to : i < stream_start_of t file + length bytes

-- this part of the stream is a file's, at its start
abbrev pub StandsInStream : Description → FileEntry → List ℕ → List ℕ → Type 0
StandsInStream t f bytes stream = take (length bytes) (drop (stream_start_of t f) stream) ≡ bytes

-- the version 1 stream: as long as stated, each file that is not empty at its start, and zeros
-- elsewhere
pub record IsStream (t : Description) (contents : Contents) (total : ℕ) (stream : List ℕ) : Type 0
  where
    pub length_is : length stream ≡ total
    pub file_at : (n : ℕ) (f : FileEntry) (bytes : List ℕ) → slice_get t.files n ≡ Some f
        → contents n ≡ Some bytes → 0 < length bytes → StandsInStream t f bytes stream
    pub zeros : (i : ℕ) → i < total → (Covers t contents i → ⊥) → slice_index stream i ≡ 0

-- the version 1 pieces are good: the SHA-1 digests of the stream's cuts are those of `pieces`
abbrev pub V1Good : Description → Version1 → Contents → Type 0
V1Good t v contents =
    (stream : List ℕ) × IsStream t contents v.total stream
    × (cut_digests t.piece_length stream ≡ v.pieces)

-- the folder is good: each file has a content, which is the file; and for a hybrid the version 1
-- pieces are good
pub record GoodFolder (t : Description) (contents : Contents) : Type 0 where
  pub files : (file : ℕ) (entry : FileEntry) → slice_get t.files file ≡ Some entry
      → (bytes : List ℕ) × (contents file ≡ Some bytes) × IsGoodFile t entry bytes
  pub version1 : (part : Version1) → t.v1 ≡ Some part → V1Good t part contents
