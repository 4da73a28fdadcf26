-- What the calls on a torrent's files write.
use Rattle.std.specs.Prelude.{◌≡◌, ◌⊎◌, ℕ, ◌≤◌, List, length, slice_get, Some}
use Rattle.opening.specs.Description.{Description, FileEntry}
use Rattle.c_layouts.specs.Files.{IsFileInfo}
use Rattle.c_layouts.specs.Paths.{joined_path_text, HasPath}
use Rattle.c_layouts.specs.declared.file_info.FileInfo.{FileInfo}
use Rattle.btcheck_c.specs.Holds.{IsWrongKind}
use Rattle.btcheck_c.specs.declared.thing.Kind.{Kind}
use Rattle.btcheck_c.specs.declared.thing.Kind.TheVariants as kind

-- how many files and trees the torrent has
abbrev pub WritesCounts : ℕ → ℕ → Kind → ℕ → Kind → Type 0
WritesCounts files trees (kind.Session S) status k' = (k' ≡ kind.Session S) × ((status ≡ 0)
    × ((files ≡ length S.torrent.files) × (trees ≡ length S.torrent.trees)))
WritesCounts files trees k status k' = IsWrongKind k status k'

-- ---- a file

-- file n is written, or there is none
abbrev pub WritesFile : ℕ → FileInfo → Kind → ℕ → Kind → Type 0
WritesFile n out (kind.Session S) status k' = (k' ≡ kind.Session S)
    × (((status ≡ 0) × IsFileInfo S.torrent n out)
    ⊎ ((status ≡ 5) × (length S.torrent.files ≤ n)))
WritesFile n out k status k' = IsWrongKind k status k'

-- ---- a path

-- the path of file n, or that there is none
abbrev pub HasFilePath : Description → ℕ → ℕ → List ℕ → List ℕ → ℕ → Type 0
HasFilePath d n status room room' len =
    ((f : FileEntry) × (slice_get d.files n ≡ Some f)
    × HasPath (joined_path_text f.path) status room room' len)
    ⊎ ((status ≡ 5) × (length d.files ≤ n))

-- the path of file n of the session's torrent
abbrev pub WritesPath : ℕ → List ℕ → List ℕ → ℕ → Kind → ℕ → Kind → Type 0
WritesPath n room room' len (kind.Session S) status k' = (k' ≡ kind.Session S)
    × HasFilePath S.torrent n status room room' len
WritesPath n room room' len k status k' = IsWrongKind k status k'

-- ---- info-hashes

-- the digests of the info dictionary: SHA-256 (BEP 52, "infohash") and SHA-1 (BEP 3)
abbrev pub WritesInfoHashes : List ℕ → List ℕ → Kind → ℕ → Kind → Type 0
WritesInfoHashes v2 v1 (kind.Session S) status k' = (k' ≡ kind.Session S) × ((status ≡ 0)
    × ((v2 ≡ S.torrent.info_hash_v2) × (v1 ≡ S.torrent.info_hash_v1)))
WritesInfoHashes v2 v1 k status k' = IsWrongKind k status k'
