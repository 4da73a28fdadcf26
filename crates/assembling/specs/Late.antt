-- Why no torrent is assembled of the texts of all parts: what stops it behind their fronts.
use Rattle.std.specs.Prelude.{◌≡◌, ◌≢◌, ◌⊎◌, ℕ, ◌^◌, ◌<◌, ◌≤◌, List, take, slice_get, Some}
use Rattle.drafts.specs.Adding.{add_rows}
use Rattle.drafts.specs.Outline.{Outline, OutlineFile}
use Rattle.filetree.specs.Tests.{First}
use Rattle.filetree.specs.declared.refusal.Refusal.{Refusal}
use Rattle.filetree.specs.declared.refusal.Refusal.TheVariants as refusals
use Rattle.part_texts.specs.Listings.{Inventory, Listed}
use Rattle.part_texts.specs.Readings.{CanBeListed}
use Rattle.part_texts.specs.Texts.{listing_text}
use Rattle.pieces.specs.Pieces.{IsPieceLength}
use Rattle.assembling.specs.Added.{HasAdded}
use Rattle.assembling.specs.Assembly.{RefusesPieces, listed_draft}
use Rattle.assembling.specs.Fronts.{AreAllParts, Front, IsFront}
use Rattle.assembling.specs.Sizes.{AreOfSize, IsOfSize}
use Rattle.assembling.specs.Whole.{IsWhole}
use Rattle.assembling.specs.declared.rows.FileRows.{FileRows}

-- the texts are those of all parts of what was listed so: exactly its text stands in each
pub record AreAllOf (texts : List (List ℕ)) (l : Inventory) : Type 0 where
  pub can : CanBeListed l
  pub parts : ℕ
  pub all : AreAllParts parts (listing_text l) texts

-- ---- a text that is none of a part

-- the texts are those of all parts of one whole, in which no listing stands, and this one is that
-- of the first part
pub record HasNoListing (texts : List (List ℕ)) (place : ℕ) : Type 0 where
  pub parts : ℕ
  pub listing : List ℕ
  pub all : AreAllParts parts listing texts
  pub none : (l : Inventory) → CanBeListed l → listing ≢ listing_text l
  pub text : List ℕ
  pub there : slice_get texts place ≡ Some text
  pub front : Front
  pub begins : IsFront text front
  pub first : front.part ≡ 0

-- the texts are those of all parts of one listing, of whose piece length there is a torrent; this
-- one is not as long as the listing asks for, and those of all parts before its own are
pub record IsFirstOfOtherSize (texts : List (List ℕ)) (place : ℕ) : Type 0 where
  pub listing : Inventory
  pub all : AreAllOf texts listing
  pub legal : IsPieceLength listing.piece_length
  pub text : List ℕ
  pub there : slice_get texts place ≡ Some text
  pub front : Front
  pub begins : IsFront text front
  pub other : IsOfSize listing text → ⊥
  pub before : (i : ℕ) (earlier : List ℕ) (f : Front) → slice_get texts i ≡ Some earlier
      → IsFront earlier f → f.part < front.part → IsOfSize listing earlier

-- ---- a file that is refused

-- the file is given to the draft with a root that is over nodes of all its pieces, and this is the
-- answer of the first test of the draft that holds of it
pub record IsRefusedWhole (d : Outline) (f : Listed) (r : Refusal) : Type 0 where
  pub given : OutlineFile
  pub rows : FileRows
  pub path : given.path ≡ f.path
  pub bytes : given.length ≡ f.bytes
  pub whole : IsWhole d.piece_length d.hybrid f.bytes rows given.root
  pub first : First (add_rows d given) r

-- a file that is listed above 2^46 bytes is refused for its length, and any other by the draft
abbrev pub RefusesWhole : Outline → Listed → Refusal → Type 0
RefusesWhole d f r =
    ((2 ^ 46 < f.bytes) × (r ≡ refusals.Length)) ⊎ ((f.bytes ≤ 2 ^ 46) × IsRefusedWhole d f r)

-- the files before that of this path were added, in the order of the listing, and it was refused
pub record RefusesNext (l : Inventory) (path : List (List ℕ)) (r : Refusal) : Type 0 where
  pub number : ℕ
  pub file : Listed
  pub there : slice_get l.files number ≡ Some file
  pub path_is : path ≡ file.path
  pub draft : Outline
  pub before : HasAdded (listed_draft l) (take number l.files) draft
  pub why : RefusesWhole draft file r

-- each text is as long as the listing asks for, and a file was refused in its turn
pub record RefusesInTurn (texts : List (List ℕ)) (l : Inventory) (path : List (List ℕ))
    (r : Refusal) : Type 0 where
  pub legal : IsPieceLength l.piece_length
  pub sizes : AreOfSize l texts
  pub next : RefusesNext l path r

-- the texts are those of all parts of one listing, of whose piece length there is no torrent; or a
-- file is refused
pub record RefusesParts (texts : List (List ℕ)) (path : List (List ℕ)) (r : Refusal) : Type 0 where
  pub listing : Inventory
  pub all : AreAllOf texts listing
  pub why : RefusesPieces listing path r ⊎ RefusesInTurn texts listing path r
