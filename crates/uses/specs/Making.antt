-- What is made of a folder.
use Rattle.std.specs.Prelude.{◌≡◌, ◌⊎◌, ◌^◌, ◌<◌, ℕ, List, length, slice_get, take, Some, Result, Err, IfErr, ⊤}
use Rattle.assembling.specs.AllTexts.{AreAllNumbers, AreTextsOf}
use Rattle.assembling.specs.Assembly.{AreHeld, Assembles}
use Rattle.assembling.specs.Outcome.{BlamesNoText}
use Rattle.assembling.specs.declared.fault.AssembleFault.{AssembleFault}
use Rattle.benc.specs.Device.{SinkSeen, SourceSeen, SentAndFlushed}
use Rattle.benc.specs.Text.{spelling}
use Rattle.drafts.specs.Outline.{Outline}
use Rattle.drafts.specs.Written.{torrent_of, value_of}
use Rattle.filetree.specs.declared.refusal.Refusal.{Refusal}
use Rattle.filetree.specs.declared.refusal.Refusal.TheVariants as refusals
use Rattle.folders.specs.Shelf.{IsListed, ShelfContents, path_bytes}
use Rattle.folders.specs.Verdicts.{Agrees}
use Rattle.folders.specs.declared.shelf.Shelf.{Ghosts}
use Rattle.gathering.specs.Gathered.{Gathered, RefusesContent}
use Rattle.gathering.specs.Gathering.{AreContentsUnder, FailsAt, FaultsAtPath, IsSortedListing, Misses}
use Rattle.gathering.specs.declared.gather_fault.GatherFault.{GatherFault}
use Rattle.gathering.specs.declared.gather_fault.GatherFault.TheVariants as fault
use Rattle.opening.specs.Description.{Description}
use Rattle.gathering.specs.Parts.{KnownPaths}
use Rattle.part_texts.specs.Listings.{Inventory}
use Rattle.part_texts.specs.Readings.{CanBeListed}
use Rattle.part_texts.specs.Texts.{listing_text}
use Rattle.pieces.specs.Pieces.{IsPieceLength}
use Rattle.uses.specs.Torrents.{IsOpened, IsUnlessNoMemory}

-- ---- a draft of a folder

-- the files under these paths, of contents that are the known ones where any are known, were added
-- one after the other to a draft of no files
pub record AreDrafted (there : ShelfContents) (empty : Outline) (paths : List (List (List ℕ)))
    (d : Outline) : Type 0 where
  pub contents : List (List ℕ)
  pub are : AreContentsUnder there.under paths contents
  pub gathered : Gathered empty paths contents d

-- the draft of all files that are listed, in the order of the file tree
pub record IsDraftOfAll (there : ShelfContents) (empty : Outline) (d : Outline) : Type 0 where
  pub paths : List (List (List ℕ))
  pub listed : IsSortedListing there.listing paths
  pub drafted : AreDrafted there empty paths d

-- the file under this path, one of those that are listed, has a content that the draft of those
-- before it refuses so
pub record IsFirstRefused (there : ShelfContents) (empty : Outline) (path : List (List ℕ))
    (r : Refusal) : Type 0 where
  pub paths : List (List (List ℕ))
  pub listed : IsSortedListing there.listing paths
  pub number : ℕ
  pub is_path : slice_get paths number ≡ Some path
  pub before : Outline
  pub drafted : AreDrafted there empty (take number paths) before
  pub content : List ℕ
  pub is_content : Agrees (there.under path) (Some content)
  pub refuses : RefusesContent before path content r

-- why there is no draft: there is none of this piece length; or a file is refused, the first one;
-- or nothing was there under a path, or it could not be opened or read, the first one; or the
-- folder could not be listed; or memory was refused
abbrev pub IsFirstFault : {S F : Type 0} → Ghosts S F → (F → SourceSeen) → Outline → S → S
    → GatherFault → Type 0
IsFirstFault shelf seen empty old new (fault.Refused r path) =
    (¬ IsPieceLength empty.piece_length × (r ≡ refusals.PieceLength))
    ⊎ IsFirstRefused (shelf.contents old) empty (path_bytes path) r
IsFirstFault shelf seen empty old new (fault.Changed path) =
    FaultsAtPath shelf seen empty old (path_bytes path)
    (λ mid. Misses shelf seen mid (path_bytes path) new)
IsFirstFault shelf seen empty old new (fault.Device path) =
    FaultsAtPath shelf seen empty old (path_bytes path)
    (λ mid. FailsAt shelf seen mid (path_bytes path) new)
IsFirstFault shelf seen empty old new (fault.List f) = IsListed (shelf.contents old).listing (Err f)
IsFirstFault shelf seen empty old new fault.NoMemory = ⊤

-- ---- its text

-- exactly the draft's text went out, with one flush at its end; and what comes of opening that text
-- is the draft's torrent, unless memory is refused
pub record IsTorrentOf (d : Outline) (out out' : SinkSeen) : Type 0 where
  pub text : List ℕ
  pub text_is : text ≡ spelling (value_of d)
  pub written : SentAndFlushed out out' text
  pub opens : (result : Result Description Refusal) → IsOpened text result
      → IsUnlessNoMemory (torrent_of d) result

-- ---- in parts

-- these are the texts of all parts of one folder, each once and in any order; its files have these
-- contents
pub record AreAllTexts (under : KnownPaths) (l : Inventory) (contents texts : List (List ℕ))
    : Type 0 where
  pub listed : CanBeListed l
  pub short : length (listing_text l) < 2 ^ 64
  pub parts : ℕ
  pub few : parts < 2 ^ 64
  pub held : AreHeld under l.files contents
  pub numbers : List ℕ
  pub all : AreAllNumbers parts numbers
  pub are : AreTextsOf under l parts numbers texts

-- of all texts of a folder comes the draft that `gather` makes of its files, or what such a draft
-- refuses; or memory was refused, and no text is to blame
abbrev pub IsMadeOfParts : List (List ℕ) → Result Outline AssembleFault → Type 0
IsMadeOfParts texts result = (under : KnownPaths) (l : Inventory) (contents : List (List ℕ))
    → AreAllTexts under l contents texts → Assembles l contents result × IfErr result BlamesNoText
