-- What the verdicts of a report say of the folder's contents.
use Rattle.std.specs.Prelude.{◌≡◌, ◌≢◌, ℕ, ◌+◌, ◌<◌, ◌≤◌, Bool, true, false, ◌&&◌, List, length, slice_get, Option, Some, None, is_some, ⊤, count_by}
use Rattle.std.specs.Prelude.{if◌then◌else◌}
use Rattle.std.specs.List.{list_all}
use Rattle.hashtree.specs.Tree.{root_of, node}
use Rattle.opening.specs.Description.{Description, FileEntry, TreeEntry, Version1}
use Rattle.opening.specs.Sound.{piece_layer}
use Rattle.pieces.specs.Cuts.{cut_digests, IsFirstDifference}
use Rattle.folders.specs.Folder.{Contents, GoodFolder, IsGoodFile, IsStream, V1Good, tree_entry_of}
use Rattle.folders.specs.Shelf.{more}
use Rattle.folders.specs.declared.report.FileVerdict.{FileVerdict}
use Rattle.folders.specs.declared.report.FileVerdict.TheVariants as file
use Rattle.folders.specs.declared.report.V1Verdict.{V1Verdict}
use Rattle.folders.specs.declared.report.V1Verdict.TheVariants as version1

-- the hash that is listed for a piece of a tree is the node over that piece of these bytes
abbrev pub IsListedNode : ℕ → TreeEntry → List ℕ → ℕ → Type 0
IsListedNode piece_length e bytes k =
    slice_get e.layer k ≡ Some (node bytes (piece_layer piece_length) k)

-- the first piece of a tree whose node is not the one of the piece layer; a file that has no layer
-- has one piece
pub record IsFirstBadPiece (piece_length : ℕ) (e : TreeEntry) (bytes : List ℕ) (k : ℕ) : Type 0
  where
    pub only : e.length ≤ piece_length → k ≡ 0
    pub same_before : piece_length < e.length → (j : ℕ) → j < k
        → IsListedNode piece_length e bytes j
    pub within : piece_length < e.length → k < length e.layer
    pub differs : piece_length < e.length → IsListedNode piece_length e bytes k → ⊥

-- bytes of the right length and with another root, whose first bad piece is this one of the torrent
pub record IsBad (t : Description) (f : FileEntry) (bytes : List ℕ) (p : ℕ) : Type 0 where
  pub tree : TreeEntry
  pub tree_is : tree_entry_of t f ≡ Some tree
  pub length_is : length bytes ≡ f.length
  pub root_differs : root_of bytes ≢ tree.root
  pub place : ℕ
  pub place_is : p ≡ f.first_piece + place
  pub first : IsFirstBadPiece t.piece_length tree bytes place

-- a file's content as a verdict states it; a file that could not be read may have any
abbrev pub IsVerdict : Description → FileEntry → Option (List ℕ) → FileVerdict → Type 0
IsVerdict t f content file.Missing = content ≡ None
IsVerdict t f content file.Unreadable = ⊤
IsVerdict t f content file.WrongLength =
    (bytes : List ℕ) × (content ≡ Some bytes) × (length bytes ≢ f.length)
IsVerdict t f content (file.Bad p) = (bytes : List ℕ) × (content ≡ Some bytes) × IsBad t f bytes p
IsVerdict t f content file.Good = (bytes : List ℕ) × (content ≡ Some bytes) × IsGoodFile t f bytes

-- its content is the file
abbrev pub is_good : FileVerdict → Bool
is_good file.Good = true
is_good file.Missing = false
is_good file.Unreadable = false
is_good file.WrongLength = false
is_good (file.Bad p) = false

-- the file was read whole, and has the right length
abbrev pub is_whole : FileVerdict → Bool
is_whole file.Good = true
is_whole file.Missing = false
is_whole file.Unreadable = false
is_whole file.WrongLength = false
is_whole (file.Bad p) = true

-- its opening or one of its reads failed
abbrev pub is_unreadable : FileVerdict → Bool
is_unreadable file.Good = false
is_unreadable file.Missing = false
is_unreadable file.Unreadable = true
is_unreadable file.WrongLength = false
is_unreadable (file.Bad p) = false

-- this piece of the version 1 stream is the first whose SHA-1 digest is not the one in `pieces`
abbrev pub IsFirstBadV1Piece : Description → Version1 → Contents → ℕ → Type 0
IsFirstBadV1Piece t v contents i =
    (stream : List ℕ) × IsStream t contents v.total stream
    × IsFirstDifference (cut_digests t.piece_length stream) v.pieces i

-- the version 1 stream as a verdict states it: compared if every file was read whole
abbrev pub IsV1Verdict : Description → Version1 → Contents → V1Verdict → Type 0
IsV1Verdict t v contents version1.Good = V1Good t v contents
IsV1Verdict t v contents (version1.Bad i) = IsFirstBadV1Piece t v contents i
IsV1Verdict t v contents version1.NotChecked = ⊤

-- the version 1 pieces were compared
abbrev pub is_checked : V1Verdict → Bool
is_checked version1.Good = true
is_checked (version1.Bad i) = true
is_checked version1.NotChecked = false

-- there is no version 1 stream, or its pieces are good
abbrev pub stream_is_good : Option V1Verdict → Bool
stream_is_good None = true
stream_is_good (Some version1.Good) = true
stream_is_good (Some (version1.Bad i)) = false
stream_is_good (Some version1.NotChecked) = false

-- all verdicts are good
abbrev pub is_yes : List FileVerdict → Option V1Verdict → Bool
is_yes files v1 = list_all is_good files && stream_is_good v1

-- how many files could not be read
abbrev pub unreadable_count : List FileVerdict → ℕ
unreadable_count files = count_by is_unreadable files

-- one failure is counted for each unreadable file, and no file is unreadable if the count stays
pub record CountsUnreadable (old new : ℕ) (files : List FileVerdict) : Type 0 where
  pub counted : new ≡ more old (unreadable_count files)
  pub readable : new ≡ old → unreadable_count files ≡ 0

-- one fault for a file that could not be read
abbrev pub fault_count : FileVerdict → ℕ
fault_count v = (if is_unreadable v then 1 else 0)

-- a verdict for each file, and for a hybrid one on its version 1 pieces, which were checked
-- exactly if all files were read whole
pub record HasVerdicts (t : Description) (files : List FileVerdict) (v1 : Option V1Verdict) : Type 0
  where
    pub count : length files ≡ length t.files
    pub hybrid : is_some v1 ≡ is_some t.v1
    pub checked : (v : V1Verdict) → v1 ≡ Some v → is_checked v ≡ list_all is_whole files

-- each file's verdict is true of what stands at the file's path
abbrev pub AreVerdicts : Description → Contents → List FileVerdict → Type 0
AreVerdicts t contents files = (n : ℕ) (f : FileEntry) (v : FileVerdict)
    → slice_get t.files n ≡ Some f → slice_get files n ≡ Some v → IsVerdict t f (contents n) v

-- each verdict is true of the contents
pub record AreTrueVerdicts (t : Description) (contents : Contents) (files : List FileVerdict)
    (v1 : Option V1Verdict) : Type 0 where
  pub each : AreVerdicts t contents files
  pub version1 : (v : Version1) (verdict : V1Verdict) → t.v1 ≡ Some v → v1 ≡ Some verdict
      → IsV1Verdict t v contents verdict

-- what is known of a shelf or a source, if it is: of a path what stands there, nothing or a file
-- with these bytes; of a source the bytes that it has
abbrev pub Agrees : {A : Type 0} → Option A → A → Type 0
Agrees {A} known content = (there : A) → known ≡ Some there → there ≡ content

-- the contents of the torrent's files are those that are known of a shelf's paths
abbrev pub AgreeWith : Description → (List (List ℕ) → Option (Option (List ℕ))) → Contents → Type 0
AgreeWith t under contents = (n : ℕ) (f : FileEntry) → slice_get t.files n ≡ Some f
    → Agrees (under f.path) (contents n)

-- What a report says of a shelf of whose paths this is known. There are contents, which are the
-- known ones where they are known: each verdict is true of them; a yes means that they
-- are a good folder; and if they are and no file was unreadable, it is a yes.
pub record IsTrueOfFolder (t : Description) (under : List (List ℕ) → Option (Option (List ℕ)))
    (files : List FileVerdict) (v1 : Option V1Verdict) : Type 0 where
  pub contents : Contents
  pub agree : AgreeWith t under contents
  pub are_true : AreTrueVerdicts t contents files v1
  pub sure : is_yes files v1 ≡ true → GoodFolder t contents
  pub enough : GoodFolder t contents → unreadable_count files ≡ 0 → is_yes files v1 ≡ true

-- a file of the torrent
abbrev pub IsFileOf : Description → FileEntry → Type 0
IsFileOf t f = (n : ℕ) × (slice_get t.files n ≡ Some f)
