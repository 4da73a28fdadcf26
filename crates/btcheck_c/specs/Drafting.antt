-- What the calls that make a torrent do (BEP 52, "metainfo files").
use Rattle.std.specs.Prelude.{◌≡◌, ◌≢◌, ◌⊎◌, ℕ, ◌+◌, ◌<◌, Bool, List, length, Option, Some, None, Result, Ok, Err}
use Rattle.benc.specs.Text.{spelling}
use Rattle.c_layouts.specs.Drafts.{HasDraftStatus}
use Rattle.c_layouts.specs.Paths.{HasPath}
use Rattle.drafting.specs.Coming.{FeedsFile, FileTakesMemory, HasFileRefused, IsNewFile, IsSameKind, file_bytes_left}
use Rattle.drafting.specs.Drafted.{AddsFile, IsFileForDraft, new_rows}
use Rattle.drafting.specs.declared.coming_file.ComingFile.{ComingFile}
use Rattle.drafts.specs.Finishing.{finish_rows}
use Rattle.drafts.specs.Outline.{Outline, empty_outline}
use Rattle.drafts.specs.Written.{value_of}
use Rattle.filetree.specs.Tests.{First, NoneHolds}
use Rattle.filetree.specs.declared.refusal.Refusal.{Refusal}
use Rattle.btcheck_c.specs.Holds.{IsWrongKind, Started}
use Rattle.btcheck_c.specs.declared.thing.Thing.{Thing}
use Rattle.btcheck_c.specs.declared.thing.Kind.{Kind}
use Rattle.btcheck_c.specs.declared.thing.Kind.TheVariants as kind

-- ---- beginning

-- a draft of no files is in the handle; or memory was refused, or the draft is, by the first test
-- that holds, and nothing is
abbrev pub DraftMade : List ℕ → ℕ → Bool → ℕ → Option Thing → Type 0
DraftMade name piece_length hybrid status o' =
    (NoneHolds (new_rows name piece_length) × ((status ≡ 0)
    × (o' ≡ Some (record { kind = kind.Draft (empty_outline name piece_length hybrid) }))))
    ⊎ ((o' ≡ None) × ((NoneHolds (new_rows name piece_length) × (status ≡ 2))
    ⊎ ((r : Refusal) × (First (new_rows name piece_length) r × HasDraftStatus r status))))

-- a file for the draft, of which nothing came; and the draft stays as it is
abbrev pub StartsFile : Kind → Result ComingFile ℕ → Kind → Type 0
StartsFile (kind.Draft d) (Ok f) k' =
    (k' ≡ kind.Draft d) × IsNewFile d.piece_length d.hybrid f
StartsFile (kind.Draft d) (Err status) k' = ⊥
StartsFile k made k' = (made ≡ Err 1) × (k' ≡ k)

-- such a file is in the empty handle, or is not; one that is full stays as it is, and so does the
-- draft
abbrev pub FileStarted : Option Thing → Option Thing → ℕ → Option Thing → Option Thing → Type 0
FileStarted = Started kind.File StartsFile

-- ---- the file's bytes

-- the file takes the bytes; or they are too many, and it stays as it is; or memory was refused, and
-- every later call says so
abbrev pub PushesPart : List ℕ → Kind → ℕ → Kind → Type 0
PushesPart bytes (kind.File f) status k' =
    ((status ≡ 0) × ((g : ComingFile) × (k' ≡ kind.File g)
    × IsSameKind f g × FeedsFile f bytes g))
    ⊎ (((status ≡ 3) × ((file_bytes_left f < length bytes) × (k' ≡ kind.File f)))
    ⊎ ((status ≡ 2) × ((g : ComingFile) × (k' ≡ kind.File g)
    × IsSameKind f g × HasFileRefused g × FileTakesMemory f bytes)))
PushesPart bytes k status k' = IsWrongKind k status k'

-- ---- adding

-- the status of what was added, or of the refusal
abbrev pub HasStatus : Result (Unit {0}) Refusal → ℕ → Type 0
HasStatus (Ok u) status = status ≡ 0
HasStatus (Err r) status = HasDraftStatus r status

-- the draft d takes or refuses the file f; one that is for other drafts stays as it is, and so does
-- the draft
abbrev pub AddsFileTo : List ℕ → Outline → ComingFile → ℕ → Outline → ComingFile → Type 0
AddsFileTo path d f status e g =
    (IsFileForDraft d f × ((answer : Result (Unit {0}) Refusal)
    × (AddsFile d f path e g answer × HasStatus answer status)))
    ⊎ ((status ≡ 1) × ((IsFileForDraft d f → ⊥) × ((e ≡ d) × (g ≡ f))))

-- a call on a draft and a file; things of other kinds stay as they are, and the status is 1
abbrev pub OnDraft : (Outline → ComingFile → ℕ → Outline → ComingFile → Type 0) → Kind → Kind → ℕ
    → Kind → Kind → Type 0
OnDraft P (kind.Draft d) (kind.File f) status k' l' = (e : Outline) × ((g : ComingFile)
    × ((k' ≡ kind.Draft e) × ((l' ≡ kind.File g) × P d f status e g)))
OnDraft P k l status k' l' = (status ≡ 1) × ((k' ≡ k) × (l' ≡ l))

-- a call on a draft, and on what another handle holds: where that one has no file, draft and handle
-- stay as they are, and the status is 1
abbrev pub WithFile : (Outline → ComingFile → ℕ → Outline → ComingFile → Type 0) → Outline
    → Option Thing → ℕ → Outline → Option Thing → Type 0
WithFile P d None status e q' = (status ≡ 1) × ((e ≡ d) × (q' ≡ None))
WithFile P d (Some u) status e q' = (u' : Thing) × ((q' ≡ Some u')
    × OnDraft P (kind.Draft d) u.kind status (kind.Draft e) u'.kind)

-- ---- the torrent

-- the text of the torrent is written, or has no room; or memory for it was refused, or the first
-- test holds
abbrev pub DraftWritten : Outline → ℕ → List ℕ → List ℕ → ℕ → Type 0
DraftWritten d status room room' len =
    (NoneHolds (finish_rows d) × HasPath (spelling (value_of d)) status room room' len)
    ⊎ ((NoneHolds (finish_rows d) × (status ≡ 2))
    ⊎ ((r : Refusal) × (First (finish_rows d) r × HasDraftStatus r status)))

-- so it is of the draft, which stays as it is
abbrev pub FinishesDraft : List ℕ → List ℕ → ℕ → Kind → ℕ → Kind → Type 0
FinishesDraft room room' len (kind.Draft d) status k' =
    (k' ≡ kind.Draft d) × DraftWritten d status room room' len
FinishesDraft room room' len k status k' = IsWrongKind k status k'
