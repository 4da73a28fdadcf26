-- What the calls for the check of a file's bytes do, of all its pieces or of some in a row (BEP 52,
-- "pieces root" and "piece layers").
use Rattle.std.specs.Prelude.{◌≡◌, ◌⊎◌, ℕ, ◌<◌, ◌≤◌, List, [], length, slice_get, Option, Some, None, Result, Ok, Err}
use Rattle.std.specs.Borrow.{Bor}
use Rattle.opening.specs.Description.{Description, FileEntry, TreeEntry}
use Rattle.opening.specs.Seen.{tree_entry}
use Rattle.opening.specs.Sound.{IsSoundTree}
use Rattle.opening.specs.declared.torrent.TreeInfo.{TreeInfo}
use Rattle.pieces.specs.Pieces.{pieces_of}
use Rattle.btcheck_c.specs.FileChecks.{BeginsFile, BeginsFileAnew, FeedsFileCheck, IsFileVerdict, IsShortFile, check_bytes_left}
use Rattle.btcheck_c.specs.Holds.{IsWrongKind, Started}
use Rattle.btcheck_c.specs.declared.file_check.FileCheck.{FileCheck}
use Rattle.btcheck_c.specs.declared.thing.Thing.{Thing}
use Rattle.btcheck_c.specs.declared.thing.Kind.{Kind}
use Rattle.btcheck_c.specs.declared.thing.Kind.TheVariants as kind

-- ---- beginning

-- file n of the torrent has this tree
pub record IsFileTree (d : Description) (n : ℕ) (e : TreeEntry) : Type 0 where
  pub file : FileEntry
  pub tree : ℕ
  pub file_is : slice_get d.files n ≡ Some file
  pub tree_is : file.tree ≡ Some tree
  pub entry_is : slice_get d.trees tree ≡ Some e

-- file n has no tree, or there is none
abbrev pub HasNoTreeStatus : Description → ℕ → ℕ → Type 0
HasNoTreeStatus d n status = ((status ≡ 5) × (length d.files ≤ n))
    ⊎ ((status ≡ 4) × ((f : FileEntry) × (slice_get d.files n ≡ Some f) × (f.tree ≡ None)))

-- the tree of file n, which is sound; or there is none
abbrev pub FindsTree : Description → ℕ → Result (Bor TreeInfo) ℕ → Type 0
FindsTree d n (Ok tree) = IsFileTree d n (tree_entry tree.now)
    × IsSoundTree d.piece_length (tree_entry tree.now)
FindsTree d n (Err status) = HasNoTreeStatus d n status

-- file n has a tree, but memory for its check was refused
abbrev pub HasNoRoom : Description → ℕ → ℕ → Type 0
HasNoRoom d n status = (status ≡ 2) × ((e : TreeEntry) × IsFileTree d n e)

-- a check of file n that was given nothing; or there is none
abbrev pub ChecksFile : Description → ℕ → Result FileCheck ℕ → Type 0
ChecksFile d n (Ok c) = (e : TreeEntry) × IsFileTree d n e
    × BeginsFile d.piece_length e 0 (pieces_of d.piece_length e.length) c
ChecksFile d n (Err status) = HasNoTreeStatus d n status ⊎ HasNoRoom d n status

-- the file has these pieces, from one number up to another, at least one
abbrev pub HasPieces : Description → TreeEntry → ℕ → ℕ → Type 0
HasPieces d e from to = (from < to) × (to ≤ pieces_of d.piece_length e.length)

-- a check of these pieces of file n that was given nothing; or there is none, or it has not these
-- pieces, or it has them, but memory for the check was refused
abbrev pub ChecksPieces : Description → ℕ → ℕ → ℕ → Result FileCheck ℕ → Type 0
ChecksPieces d n from to (Ok c) = (e : TreeEntry) × IsFileTree d n e × HasPieces d e from to
    × BeginsFile d.piece_length e from to c
ChecksPieces d n from to (Err status) = HasNoTreeStatus d n status
    ⊎ (((status ≡ 5) × ((e : TreeEntry) × IsFileTree d n e × ¬ HasPieces d e from to))
    ⊎ ((status ≡ 2) × ((e : TreeEntry) × IsFileTree d n e × HasPieces d e from to)))

-- so the session's torrent has it, and the session stays as it is
abbrev pub StartsCheck : ℕ → Kind → Result FileCheck ℕ → Kind → Type 0
StartsCheck n (kind.Session S) made k' = (k' ≡ kind.Session S) × ChecksFile S.torrent n made
StartsCheck n k made k' = (made ≡ Err 1) × (k' ≡ k)

abbrev pub StartsPieces : ℕ → ℕ → ℕ → Kind → Result FileCheck ℕ → Kind → Type 0
StartsPieces n from to (kind.Session S) made k' =
    (k' ≡ kind.Session S) × ChecksPieces S.torrent n from to made
StartsPieces n from to k made k' = (made ≡ Err 1) × (k' ≡ k)

-- a check that P says of the session is in the empty handle, or is not; one that is full stays as
-- it is, and so does the session
abbrev pub CheckStarted : (Kind → Result FileCheck ℕ → Kind → Type 0) → Option Thing
    → Option Thing → ℕ → Option Thing → Option Thing → Type 0
CheckStarted P = Started kind.Check P

-- ---- the file's bytes

-- the check takes the bytes, and marks the bits; or they are more than are still to come, and check
-- and bits stay as they are
abbrev pub PushesBits : List ℕ → List ℕ → List ℕ → Kind → ℕ → Kind → Type 0
PushesBits bytes marked marks (kind.Check c) status k' =
    ((status ≡ 0)
    × ((c' : FileCheck) × (k' ≡ kind.Check c') × FeedsFileCheck c marked bytes c' marks))
    ⊎ ((status ≡ 3) × ((check_bytes_left c < length bytes) × (k' ≡ kind.Check c)))
PushesBits bytes marked marks k status k' = IsWrongKind k status k'

-- so it is where no bits are lent
abbrev pub PushesFile : List ℕ → Kind → ℕ → Kind → Type 0
PushesFile bytes = PushesBits bytes [] []

-- ---- the end

-- each piece is the torrent's, or this is the first that is not
abbrev pub HasBadPiece : Option ℕ → ℕ → ℕ → Type 0
HasBadPiece None status piece = status ≡ 0
HasBadPiece (Some i) status piece = (status ≡ 10) × (piece ≡ i)

-- the check has this verdict, and begins anew
abbrev pub HasCheckEnded : List ℕ → List ℕ → ℕ → FileCheck → ℕ → Kind → Type 0
HasCheckEnded marked good piece c status k' = (check_bytes_left c ≡ 0) × ((bad : Option ℕ)
    × HasBadPiece bad status piece × (IsFileVerdict c marked good bad
    × ((c' : FileCheck) × (k' ≡ kind.Check c') × BeginsFileAnew c c')))

-- the check has a verdict; or bytes are still to come, and it stays as it is
abbrev pub EndsCheck : ℕ → Kind → ℕ → Kind → Type 0
EndsCheck piece (kind.Check c) status k' = HasCheckEnded [] [] piece c status k'
    ⊎ ((status ≡ 9) × ((0 < check_bytes_left c) × (k' ≡ kind.Check c)))
EndsCheck piece k status k' = IsWrongKind k status k'

-- the check has a verdict; or bytes are still to come, the bits tell which pieces are whole and
-- good, and it begins anew
abbrev pub EndsBits : List ℕ → List ℕ → ℕ → Kind → ℕ → Kind → Type 0
EndsBits marked good piece (kind.Check c) status k' = HasCheckEnded marked good piece c status k'
    ⊎ ((status ≡ 9) × ((0 < check_bytes_left c) × (IsShortFile c marked good
    × ((c' : FileCheck) × (k' ≡ kind.Check c') × BeginsFileAnew c c'))))
EndsBits marked good piece k status k' = IsWrongKind k status k'
