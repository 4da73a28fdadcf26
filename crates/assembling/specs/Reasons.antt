-- Why no torrent is assembled: what stands in the first text at which it stops.
use Rattle.std.specs.Prelude.{◌≡◌, ◌≢◌, ◌⊎◌, ℕ, ◌+◌, ◌<◌, List, [], take, slice_get, Some, ⊤}
use Rattle.folders.specs.Shelf.{path_bytes}
use Rattle.gathering.specs.Parts.{KnownPaths}
use Rattle.part_texts.specs.Listings.{Inventory}
use Rattle.part_texts.specs.Readings.{CanBeListed}
use Rattle.assembling.specs.Assembly.{IsTruePartText}
use Rattle.assembling.specs.Fronts.{AreOfOne, Front, HasPart, IsFront}
use Rattle.assembling.specs.Late.{HasNoListing, IsFirstOfOtherSize, RefusesParts}
use Rattle.assembling.specs.declared.fault.AssembleFault.{AssembleFault}
use Rattle.assembling.specs.declared.fault.AssembleFault.TheVariants as fault

-- the texts before this one are of different parts of one whole, and this holds of their fronts and
-- the text at the place
pub record StopsAtText (texts : List (List ℕ)) (place : ℕ) (Why : List Front → List ℕ → Type 0)
    : Type 0 where
  pub fronts : List Front
  pub before : AreOfOne (take place texts) fronts
  pub text : List ℕ
  pub there : slice_get texts place ≡ Some text
  pub why : Why fronts text

-- it does not begin as a part's text
abbrev pub HasNoFront : List Front → List ℕ → Type 0
HasNoFront fronts text = (f : Front) → IsFront text f → ⊥

-- it is of another number of parts than the first
abbrev pub IsOfOtherCount : List Front → List ℕ → Type 0
IsOfOtherCount fronts text = (f first : Front) × IsFront text f
    × (slice_get fronts 0 ≡ Some first) × (f.parts ≢ first.parts)

-- it is of the part with this number, from 1, of as many parts, and of another listing than the
-- first
abbrev pub IsOfOtherFolder : ℕ → List Front → List ℕ → Type 0
IsOfOtherFolder number fronts text = (f first : Front) × IsFront text f
    × (slice_get fronts 0 ≡ Some first) × (f.part + 1 ≡ number) × (f.parts ≡ first.parts)
    × (f.listing ≢ first.listing)

-- it is of as many parts as the first, and of the same listing
abbrev pub IsAsFirst : List Front → Front → Type 0
IsAsFirst fronts f = (first : Front) → slice_get fronts 0 ≡ Some first
    → (f.parts ≡ first.parts) × (f.listing ≡ first.listing)

-- it is of the part with this number, from 1, of as many parts and of the same listing as the
-- first, and one before it is of this part too
abbrev pub IsThereTwice : ℕ → List Front → List ℕ → Type 0
IsThereTwice number fronts text = (f : Front) × IsFront text f × (f.part + 1 ≡ number)
    × IsAsFirst fronts f × HasPart fronts f.part

-- it is no whole text of a part: of no folder that can be listed, whatever its files hold
abbrev pub IsNoPart : List ℕ → Type 0
IsNoPart text =
    (l : Inventory) (under : KnownPaths) → CanBeListed l → IsTruePartText under l text → ⊥

-- the text at this place is none
abbrev pub IsNoPartAt : List (List ℕ) → ℕ → Type 0
IsNoPartAt texts place = (text : List ℕ) × (slice_get texts place ≡ Some text) × IsNoPart text

-- all texts are of different parts of one whole of this many, and none is of the part with this
-- number, from 1, but of each before it; of no text there is one part, which is missing
pub record IsMissing (texts : List (List ℕ)) (number parts : ℕ) : Type 0 where
  pub fronts : List Front
  pub are : AreOfOne texts fronts
  pub of : (i : ℕ) (f : Front) → slice_get fronts i ≡ Some f → f.parts ≡ parts
  pub none : texts ≡ [] → parts ≡ 1
  pub before : (part : ℕ) → part + 1 < number → HasPart fronts part
  pub missing : (i : ℕ) (f : Front) → slice_get fronts i ≡ Some f → f.part + 1 ≢ number
  pub within : (0 < number) × (number < parts + 1)

-- why it stops at a fault
abbrev pub HasReason : List (List ℕ) → AssembleFault → Type 0
HasReason texts (fault.NoPart place) = IsNoPartAt texts place
    × (StopsAtText texts place HasNoFront ⊎ HasNoListing texts place
    ⊎ IsFirstOfOtherSize texts place)
HasReason texts (fault.OtherFolder number) =
    (place : ℕ) × StopsAtText texts place (IsOfOtherFolder number)
HasReason texts (fault.OtherCount place) = StopsAtText texts place IsOfOtherCount
HasReason texts (fault.Twice number) = (place : ℕ) × StopsAtText texts place (IsThereTwice number)
HasReason texts (fault.Missing number parts) = IsMissing texts number parts
HasReason texts (fault.Refused r path) = RefusesParts texts (path_bytes path) r
HasReason texts fault.NoMemory = ⊤
