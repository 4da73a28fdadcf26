-- A part of a check of a folder: some of the torrent's places, and what was found there. Each piece
-- is a place, numbered as the torrent numbers its pieces (BEP 52, "piece length"). An empty file
-- stands at the place at which it begins, and there is one place more for those that begin after
-- the last piece.
use Rattle.std.specs.Prelude.{◌≡◌, ◌≢◌, ℕ, ◌+◌, ◌-◌, ◌*◌, ◌<◌, ◌≤◌, min, List, length, take, drop, replicate, ◌++◌}
use Rattle.std.specs.Prelude.{slice_get, sum_by, Option, Some, None, is_some, ⊤}
use Rattle.std.specs.List.{list_all}
use Rattle.sha1.specs.Sha1.{sha1}
use Rattle.hashtree.specs.Tree.{root_of}
use Rattle.opening.specs.Description.{Description, FileEntry, TreeEntry, Version1}
use Rattle.pieces.specs.Pieces.{pieces_of}
use Rattle.folders.specs.Folder.{Contents, tree_entry_of}
use Rattle.folders.specs.Verdicts.{IsListedNode, is_checked, is_whole}
use Rattle.folders.specs.declared.report.FileVerdict.{FileVerdict}
use Rattle.folders.specs.declared.report.FileVerdict.TheVariants as file
use Rattle.folders.specs.declared.report.V1Verdict.{V1Verdict}
use Rattle.folders.specs.declared.report.V1Verdict.TheVariants as version1
use Rattle.parts.specs.declared.places.Places.{Places}

-- ---- places

-- the place is among these
abbrev pub Holds : Places → ℕ → Type 0
Holds r place = (r.from ≤ place) × (place < r.to)

-- how many pieces a file has
abbrev pub piece_count : Description → FileEntry → ℕ
piece_count t f = pieces_of t.piece_length f.length

-- the last place of a file
abbrev pub last_place : Description → FileEntry → ℕ
last_place t f = f.first_piece + (piece_count t f - 1)

-- how many places a torrent has
abbrev pub place_count : Description → ℕ
place_count t = sum_by (λ f. pieces_of t.piece_length f.length) t.files + 1

-- a place of the file is among these
abbrev pub Touches : Description → Places → FileEntry → Type 0
Touches t r f = (x : ℕ) × (f.first_piece ≤ x) × (x ≤ last_place t f) × Holds r x

-- ---- a file

-- the node over this piece is the one of the piece layer; a file that has no layer has one piece,
-- whose root is the tree's
pub record IsPieceGood (t : Description) (f : FileEntry) (bytes : List ℕ) (k : ℕ) : Type 0 where
  pub tree : TreeEntry
  pub tree_is : tree_entry_of t f ≡ Some tree
  pub only : tree.length ≤ t.piece_length → root_of bytes ≡ tree.root
  pub listed : t.piece_length < tree.length → IsListedNode t.piece_length tree bytes k

-- if the file's last place is among these, there are as many bytes as stated
abbrev pub EndsRight : Description → Places → FileEntry → List ℕ → Type 0
EndsRight t r f bytes = Holds r (last_place t f) → length bytes ≡ f.length

-- of these bytes the pieces among these places are there whole, and good
pub record IsGoodIn (t : Description) (r : Places) (f : FileEntry) (bytes : List ℕ) : Type 0 where
  pub end : EndsRight t r f bytes
  pub whole : (k : ℕ) → k < piece_count t f → Holds r (f.first_piece + k)
      → min (t.piece_length * (k + 1)) f.length ≤ length bytes
  pub pieces : (k : ℕ) → k < piece_count t f → Holds r (f.first_piece + k)
      → IsPieceGood t f bytes k

-- of these bytes the pieces among these places are there whole, and this one of the torrent is the
-- first that is not good
pub record IsBadIn (t : Description) (r : Places) (f : FileEntry) (bytes : List ℕ) (p : ℕ) : Type 0
  where
    pub end : EndsRight t r f bytes
    pub whole : (k : ℕ) → k < piece_count t f → Holds r (f.first_piece + k)
        → min (t.piece_length * (k + 1)) f.length ≤ length bytes
    pub place : ℕ
    pub place_is : p ≡ f.first_piece + place
    pub inside : place < piece_count t f
    pub held : Holds r p
    pub same_before : (k : ℕ) → k < place → Holds r (f.first_piece + k) → IsPieceGood t f bytes k
    pub differs : IsPieceGood t f bytes place → ⊥

-- a file's content as the verdict of a part has it; of a file that has no place there, `Good`
-- says nothing
abbrev pub IsPartVerdict : Description → Places → FileEntry → Option (List ℕ) → FileVerdict → Type 0
IsPartVerdict t r f content file.Missing = content ≡ None
IsPartVerdict t r f content file.Unreadable = ⊤
IsPartVerdict t r f content file.WrongLength =
    (bytes : List ℕ) × (content ≡ Some bytes) × (length bytes ≢ f.length)
IsPartVerdict t r f content (file.Bad p) =
    (bytes : List ℕ) × (content ≡ Some bytes) × IsBadIn t r f bytes p
IsPartVerdict t r f content file.Good =
    Touches t r f → (bytes : List ℕ) × (content ≡ Some bytes) × IsGoodIn t r f bytes

-- ---- the version 1 pieces of a hybrid

-- the version 1 piece that begins with this piece of a file: the file's bytes there, and then zeros
-- up to the piece length, or to the stream's end if that comes before
abbrev pub version1_piece : Description → Version1 → FileEntry → List ℕ → ℕ → List ℕ
version1_piece t v f bytes k =
    let own = take t.piece_length (drop (t.piece_length * k) bytes) in
    let size = min t.piece_length (v.total - t.piece_length * (f.first_piece + k)) in
    own ++ replicate (size - length own) 0

-- its digest is the one that is listed
abbrev pub IsVersion1Good : Description → Version1 → FileEntry → List ℕ → ℕ → Type 0
IsVersion1Good t v f bytes k =
    slice_get v.pieces (f.first_piece + k) ≡ Some (sha1 (version1_piece t v f bytes k))

-- piece k of file n is this piece of the torrent, and the file has these bytes
pub record IsPieceAt (t : Description) (contents : Contents) (p n k : ℕ) (f : FileEntry)
    (bytes : List ℕ) : Type 0 where
  pub there : slice_get t.files n ≡ Some f
  pub content : contents n ≡ Some bytes
  pub inside : k < piece_count t f
  pub piece_is : p ≡ f.first_piece + k

-- the version 1 pieces among these places, as the verdict of a part has them
abbrev pub IsPartV1 : Description → Version1 → Places → Contents → V1Verdict → Type 0
IsPartV1 t v r contents version1.NotChecked = ⊤
IsPartV1 t v r contents version1.Good = (p n k : ℕ) (f : FileEntry) (bytes : List ℕ)
    → IsPieceAt t contents p n k f bytes → Holds r p → IsVersion1Good t v f bytes k
IsPartV1 t v r contents (version1.Bad q) =
    Holds r q × (q < place_count t - 1)
    × ((n k : ℕ) (f : FileEntry) (bytes : List ℕ)
    → IsPieceAt t contents q n k f bytes → IsVersion1Good t v f bytes k → ⊥)
    × ((p n k : ℕ) (f : FileEntry) (bytes : List ℕ)
    → IsPieceAt t contents p n k f bytes → Holds r p → p < q → IsVersion1Good t v f bytes k)

-- ---- a part's report

-- what a part reports: its places, a verdict for each file of the torrent, and for a hybrid one on
-- the version 1 pieces
pub record PartReport : Type 0 where
  pub places : Places
  pub files : List FileVerdict
  pub v1 : Option V1Verdict

-- each verdict is true of the contents; the version 1 pieces were compared exactly if no
-- file was found that is missing, unreadable, or of another length
pub record IsTruePart (t : Description) (contents : Contents) (p : PartReport) : Type 0 where
  pub count : length p.files ≡ length t.files
  pub hybrid : is_some p.v1 ≡ is_some t.v1
  pub checked : (v : V1Verdict) → p.v1 ≡ Some v → is_checked v ≡ list_all is_whole p.files
  pub each : (n : ℕ) (f : FileEntry) (v : FileVerdict) → slice_get t.files n ≡ Some f
      → slice_get p.files n ≡ Some v → IsPartVerdict t p.places f (contents n) v
  pub version1 : (v : Version1) (verdict : V1Verdict) → t.v1 ≡ Some v → p.v1 ≡ Some verdict
      → IsPartV1 t v p.places contents verdict

-- each place of the torrent is among those of one of the parts
abbrev pub AreAllPlaces : Description → List PartReport → Type 0
AreAllPlaces t parts = (x : ℕ) → x < place_count t
    → (i : ℕ) × (p : PartReport) × (slice_get parts i ≡ Some p) × Holds p.places x
