-- What the making of a torrent in parts answers.
use Rattle.std.specs.Prelude.{◌≡◌, ◌⊎◌, ℕ, ◌^◌, ◌<◌, List, [], String, length, slice_get, Some, Result, Ok, Err}
use Rattle.std.specs.Global.{Global, Vec}
use Rattle.std.specs.Prelude.{false, map, true}
use Rattle.benc.specs.Device.{BrokeOrUnflushed, SentAndFlushed, SinkSeen}
use Rattle.drafts.specs.Outline.{Outline}
use Rattle.filetree.specs.declared.refusal.Refusal.{Refusal}
use Rattle.filetree.specs.declared.refusal.Refusal.TheVariants as refusals
use Rattle.folders.specs.Shelf.{CountsListing, IsListed, path_bytes}
use Rattle.folders.specs.declared.shelf.Shelf.{Ghosts}
use Rattle.folders.specs.declared.shelf_fault.ShelfFault.{ShelfFault}
use Rattle.gathering.specs.Gathering.{IsListedAs}
use Rattle.gathering.specs.declared.part_fault.PartFault.{PartFault}
use Rattle.gathering.specs.declared.part_fault.PartFault.TheVariants as hashing
use Rattle.part_texts.specs.Listings.{Inventory, Listed}
use Rattle.part_texts.specs.Readings.{CanBeListed}
use Rattle.part_texts.specs.Texts.{listing_text}
use Rattle.pieces.specs.Pieces.{IsPieceLength}
use Rattle.printing.specs.declared.fault.Fault.{Fault}
use Rattle.printing.specs.declared.fault.Fault.TheVariants as faults
use Rattle.torrent_lines.specs.Refused.{refusal_text}
use Rattle.assembling.specs.declared.fault.AssembleFault.{AssembleFault}
use Rattle.assembling.specs.declared.fault.AssembleFault.TheVariants as assembling
use Rattle.commands.specs.Outcomes.{IsListingFault, IsUnprinted, NamesSink, answer_status}

-- there is no torrent of this piece length: the refusal was printed, and the status is that of no;
-- or its line broke off
pub record RefusesPieceLength (piece_length : ℕ) (out out' : SinkSeen) (status : ℕ) : Type 0 where
  pub illegal : IsPieceLength piece_length → ⊥
  pub printed : SentAndFlushed out out' (refusal_text refusals.PieceLength [])
  pub status_is : status ≡ answer_status false

pub record StopsRefusing (piece_length : ℕ) (out out' : SinkSeen) (f : Fault) : Type 0 where
  pub illegal : IsPieceLength piece_length → ⊥
  pub unprinted : IsUnprinted refusals.PieceLength (refusal_text refusals.PieceLength []) out out' f

-- ---- the listing

-- the shelf was asked for its listing, answered with this fault, and was asked nothing else
pub record IsUnlisted {S F : Type 0} (shelf : Ghosts S F) (piece_length : ℕ) (old new : S)
    (why : ShelfFault) : Type 0 where
  pub legal : IsPieceLength piece_length
  pub answered : shelf.lists old (Err why) new
  pub listed : IsListed (shelf.contents old).listing (Err why)
  pub counted : CountsListing (shelf.faults old) (shelf.faults new) (Err why)

-- What listing a shelf did, by its answer: it answered the paths, in the order of the file tree,
-- and printed nothing; or there is no torrent of the piece length, and the shelf was not looked at;
-- or why it could not be listed.
abbrev pub ListsFiles : {S F : Type 0} → Ghosts S F → S → S → (piece_length : ℕ) → Fault → SinkSeen
    → SinkSeen → Result (Result (Vec (Vec (String Global))) ℕ) Fault → Type 0
ListsFiles shelf old new piece_length unlisted out out' (Ok (Ok paths)) =
    IsPieceLength piece_length × IsListedAs shelf old (map path_bytes paths.items) new
    × (shelf.faults new ≡ shelf.faults old) × (out' ≡ out)
ListsFiles shelf old new piece_length unlisted out out' (Ok (Err status)) =
    (new ≡ old) × RefusesPieceLength piece_length out out' status
ListsFiles shelf old new piece_length unlisted out out' (Err f) =
    ((new ≡ old) × StopsRefusing piece_length out out' f)
    ⊎ ((g : ShelfFault) × IsUnlisted shelf piece_length old new g × IsListingFault unlisted g f
    × (out' ≡ out))

-- ---- a part

-- the fault is that the file at this place cannot be read, or that memory was refused
abbrev pub NamesFile : List Listed → ℕ → Fault → Type 0
NamesFile files place f = (f ≡ faults.NoMemory)
    ⊎ ((file : Listed) × (path : Vec (String Global)) × (slice_get files place ≡ Some file)
    × (path_bytes path ≡ file.path) × (f ≡ faults.ReadBelow path))

-- the fault is that by which the hashing of these files stopped
abbrev pub NamesFault : List Listed → PartFault → Fault → Type 0
NamesFault files hashing.PieceLength f = ⊥
NamesFault files (hashing.Device place) f = NamesFile files place f
NamesFault files (hashing.Changed place) f = NamesFile files place f
NamesFault files hashing.NoMemory f = f ≡ faults.NoMemory

-- What hashing a part did, by its answer: it is the part's text, and nothing was printed; or there
-- is no torrent of the piece length; or why it stopped, and nothing was printed.
abbrev pub AnswersPart : (Result (Vec ℕ) PartFault → Type 0) → Inventory → SinkSeen → SinkSeen
    → Result (Result (Vec ℕ) ℕ) Fault → Type 0
AnswersPart Hashes l out out' (Ok (Ok text)) = Hashes (Ok text) × (out' ≡ out)
AnswersPart Hashes l out out' (Ok (Err status)) =
    Hashes (Err hashing.PieceLength) × RefusesPieceLength l.piece_length out out' status
AnswersPart Hashes l out out' (Err f) =
    (Hashes (Err hashing.PieceLength) × StopsRefusing l.piece_length out out' f)
    ⊎ ((why : PartFault) × Hashes (Err why) × NamesFault l.files why f × (out' ≡ out))

-- what was hashed can be assembled: the listing can be read again, and its text is short enough
abbrev pub CanBeAssembled : Inventory → Type 0
CanBeAssembled l = CanBeListed l × (length (listing_text l) < 2 ^ 64)

-- What writing the text of a part to the sink with this path did, by its answer: it went out and
-- was flushed, with status 0; or it broke off, or its flush failed, and the fault names the sink.
abbrev pub WritesPart : (text path : List ℕ) → SinkSeen → SinkSeen → Result ℕ Fault → Type 0
WritesPart text path out out' (Ok status) =
    (status ≡ answer_status true) × SentAndFlushed out out' text
WritesPart text path out out' (Err f) = NamesSink path f × BrokeOrUnflushed out out' text

-- ---- the assembly

-- the fault that is answered and not printed: the texts are not those of all parts of one folder
abbrev pub IsOfTexts : AssembleFault → Type 0
IsOfTexts (assembling.Refused r path) = ⊥
IsOfTexts assembling.NoMemory = ⊥
IsOfTexts (assembling.NoPart place) = Unit {0}
IsOfTexts (assembling.OtherFolder number) = Unit {0}
IsOfTexts (assembling.OtherCount place) = Unit {0}
IsOfTexts (assembling.Twice number) = Unit {0}
IsOfTexts (assembling.Missing number parts) = Unit {0}

-- What assembling a draft did, by its answer: the draft, and nothing was printed; or a refusal,
-- which was printed, with status 1; or why the texts are not those of all parts of one folder, and
-- nothing was printed; or memory was refused, or the line of the refusal broke off.
abbrev pub AssemblesDraft : (Result Outline AssembleFault → Type 0) → SinkSeen → SinkSeen
    → Result (Result (Result Outline ℕ) AssembleFault) Fault → Type 0
AssemblesDraft Assembled out out' (Ok (Ok (Ok draft))) = Assembled (Ok draft) × (out' ≡ out)
AssemblesDraft Assembled out out' (Ok (Ok (Err status))) = (status ≡ answer_status false)
    × (r : Refusal) × (path : Vec (String Global)) × Assembled (Err (assembling.Refused r path))
    × SentAndFlushed out out' (refusal_text r (path_bytes path))
AssemblesDraft Assembled out out' (Ok (Err fault)) =
    IsOfTexts fault × Assembled (Err fault) × (out' ≡ out)
AssemblesDraft Assembled out out' (Err f) =
    (Assembled (Err assembling.NoMemory) × (f ≡ faults.NoMemory) × (out' ≡ out))
    ⊎ ((r : Refusal) × (path : Vec (String Global)) × Assembled (Err (assembling.Refused r path))
    × IsUnprinted r (refusal_text r (path_bytes path)) out out' f)
