-- How a part visits the listed files: each of which it has a byte, or the end, is opened once, at
-- the first of its pieces, read so far and no further, and handed back; no other is opened. `shelf`
-- and `opens_at` stand for what the shelf's type says of its shelves, and `seen` for what its files
-- say.
use Rattle.std.specs.Prelude.{◌≡◌, ◌⊎◌, ℕ, ◌<◌, true, List, [], ◌∷◌, take, slice_get, Option, Some, None, Result, Ok, Err}
use Rattle.std.specs.Global.{Vec}
use Rattle.benc.specs.Device.{SourceSeen, one_more}
use Rattle.benc.specs.declared.device.DeviceFault.{DeviceFault}
use Rattle.chains.specs.Chain.{Chain}
use Rattle.folders.specs.Seeking.{from_offset}
use Rattle.folders.specs.SeekVisits.{HandsBackAt}
use Rattle.folders.specs.Shelf.{IsFound}
use Rattle.folders.specs.TakeAll.{IsReadWithin}
use Rattle.folders.specs.declared.shelf.Shelf.{Ghosts}
use Rattle.part_texts.specs.Divisions.{bytes_of, capped, hashed, offset_of, span_of, total_of}
use Rattle.part_texts.specs.Listings.{Inventory, Listed}
use Rattle.part_texts.specs.declared.division.Span.{Span}
use Rattle.pieces.specs.Pieces.{IsPieceLength}
use Rattle.gathering.specs.Parts.{IsPartText}
use Rattle.gathering.specs.PartRows.{EndsElsewhere, GivesRow}
use Rattle.gathering.specs.declared.part_fault.PartFault.{PartFault}
use Rattle.gathering.specs.declared.part_fault.PartFault.TheVariants as fault

-- ---- shares

-- a listed file, and what a part has of it
pub record Share : Type 0 where
  pub file : Listed
  pub span : Span

-- a part's shares of these files, before which there are this many bytes
abbrev pub shares_of : (piece_length total parts part before : ℕ) → List Listed → List Share
shares_of piece_length total parts part before [] = []
shares_of piece_length total parts part before (f ∷ fs) =
    record { file = f; span = span_of piece_length total parts before f.bytes part }
    ∷ shares_of piece_length total parts part (capped before (hashed f.bytes)) fs

-- a part's shares of what was listed
abbrev pub part_shares : Inventory → (part parts : ℕ) → List Share
part_shares l part parts = shares_of l.piece_length (total_of l.files) parts part 0 l.files

-- how many bytes a share has, and at which of the file's bytes it begins
abbrev pub share_size : ℕ → Share → ℕ
share_size piece_length x = bytes_of piece_length x.file.bytes x.span

abbrev pub share_offset : ℕ → Share → ℕ
share_offset piece_length x = offset_of piece_length x.span

-- the part has a byte of the file, or its end
abbrev pub IsTouched : ℕ → Share → Type 0
IsTouched piece_length x = (0 < share_size piece_length x) ⊎ (x.span.ends ≡ true)

module _ {S F : Type 0} (shelf : Ghosts S F)
    (opens_at : S → List (List ℕ) → ℕ → Result (Option F) DeviceFault → S → Type 0)
    (seen : F → SourceSeen) where
  -- ---- one share

  -- the file was opened once, at the first of the share's pieces, read so, and handed back; what it
  -- gives is what is known of it from there on
  pub record ReadsShare (piece_length : ℕ) (IsRead : SourceSeen → SourceSeen → Type 0) (s : S)
      (x : Share) (s' : S) : Type 0 where
    pub file : F
    pub found : IsFound (from_offset (share_offset piece_length x)
        ((shelf.contents s).under x.file.path)) (Some (seen file).left)
    pub handed : HandsBackAt opens_at shelf.closes seen IsRead s x.file.path
        (share_offset piece_length x) file s'

  -- this row was read of a share, and nothing else; a share without a byte and without the file's
  -- end was not looked at
  pub record VisitsShare (piece_length : ℕ) (s : S) (x : Share) (row : List ℕ) (s' : S) : Type 0
    where
      pub touched : IsTouched piece_length x → ReadsShare piece_length (λ old new.
          GivesRow (share_size piece_length x) x.span.ends old new row) s x s'
      pub other : (IsTouched piece_length x → ⊥) → (s' ≡ s) × (row ≡ [])
      pub quiet : shelf.faults s' ≡ shelf.faults s

  -- the opening failed, or a read did, before a byte behind the share; that is one fault
  pub record FailsAtShare (piece_length : ℕ) (s : S) (x : Share) (s' : S) : Type 0 where
    pub touched : IsTouched piece_length x
    pub counted : shelf.faults s' ≡ one_more (shelf.faults s)
    pub failed : ((e : DeviceFault)
        × opens_at s x.file.path (share_offset piece_length x) (Err e) s')
        ⊎ ReadsShare piece_length (IsReadWithin (share_size piece_length x)) s x s'

  -- nothing was there, or the file is not as long as it is listed: it ended within the share, or
  -- had one byte more, where it was to end
  pub record MissesShare (piece_length : ℕ) (s : S) (x : Share) (s' : S) : Type 0 where
    pub touched : IsTouched piece_length x
    pub quiet : shelf.faults s' ≡ shelf.faults s
    pub why : (opens_at s x.file.path (share_offset piece_length x) (Ok None) s'
        × IsFound (from_offset (share_offset piece_length x)
        ((shelf.contents s).under x.file.path)) None)
        ⊎ ReadsShare piece_length (EndsElsewhere (share_size piece_length x) x.span.ends) s x s'

  -- memory was refused: before the file was opened, or once its row was read
  pub record LacksMemoryAtShare (piece_length : ℕ) (s : S) (x : Share) (s' : S) : Type 0 where
    pub touched : IsTouched piece_length x
    pub why : (s' ≡ s) ⊎ ((row : List ℕ) × VisitsShare piece_length s x row s')

  -- ---- all shares

  -- the shares before that of the file at this place were visited in turn, without a fault, and
  -- this happened at that one
  pub record StopsAtShare (piece_length : ℕ) (shares : List Share) (old : S) (place : ℕ)
      (Why : S → Share → Type 0) : Type 0 where
    pub rows : List (List ℕ)
    pub mid : S
    pub before : Chain (VisitsShare piece_length) old (take place shares) rows mid
    pub quiet : shelf.faults mid ≡ shelf.faults old
    pub share : Share
    pub there : slice_get shares place ≡ Some share
    pub why : Why mid share

  -- where it stopped
  abbrev pub StopsIn : ℕ → List Share → S → S → PartFault → Type 0
  StopsIn piece_length shares old new fault.PieceLength = ⊥
  StopsIn piece_length shares old new (fault.Device place) =
      StopsAtShare piece_length shares old place (λ mid x. FailsAtShare piece_length mid x new)
  StopsIn piece_length shares old new (fault.Changed place) =
      StopsAtShare piece_length shares old place (λ mid x. MissesShare piece_length mid x new)
  StopsIn piece_length shares old new fault.NoMemory = (place : ℕ)
      × StopsAtShare piece_length shares old place (λ mid x.
      LacksMemoryAtShare piece_length mid x new)

  module _ (l : Inventory) (part parts : ℕ) where
    -- all shares were visited in turn, without a fault, and this is the text of what was read
    pub record HashesAll (old new : S) (text : List ℕ) : Type 0 where
      pub legal : IsPieceLength l.piece_length
      pub is : IsPartText (shelf.contents old).under l part parts text
      pub visited : Chain (VisitsShare l.piece_length) old (part_shares l part parts) is.rows new
      pub quiet : shelf.faults new ≡ shelf.faults old

    -- What hashing the part, counted from 0, of this many did, by its answer: it is the part's
    -- text; or there is no torrent of the piece length, and the shelf was not looked at; or at
    -- which file it stopped; or memory was refused, before the shelf was looked at, or at a file.
    abbrev pub HashesPart : S → S → Result (Vec ℕ) PartFault → Type 0
    HashesPart old new (Ok text) = HashesAll old new text.items
    HashesPart old new (Err fault.PieceLength) = (IsPieceLength l.piece_length → ⊥) × (new ≡ old)
    HashesPart old new (Err (fault.Device place)) = IsPieceLength l.piece_length
        × StopsIn l.piece_length (part_shares l part parts) old new (fault.Device place)
    HashesPart old new (Err (fault.Changed place)) = IsPieceLength l.piece_length
        × StopsIn l.piece_length (part_shares l part parts) old new (fault.Changed place)
    HashesPart old new (Err fault.NoMemory) = IsPieceLength l.piece_length × ((new ≡ old)
        ⊎ StopsIn l.piece_length (part_shares l part parts) old new fault.NoMemory)
