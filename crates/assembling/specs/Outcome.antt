-- What the assembly of a torrent did, by its answer.
use Rattle.std.specs.Prelude.{ℕ, List, IfErr, IfOk, Result, ⊤}
use Rattle.drafts.specs.Outline.{Outline}
use Rattle.gathering.specs.Parts.{KnownPaths}
use Rattle.part_texts.specs.Listings.{Inventory}
use Rattle.part_texts.specs.Readings.{CanBeListed}
use Rattle.part_texts.specs.Texts.{listing_text}
use Rattle.assembling.specs.Added.{IsDraftOf}
use Rattle.assembling.specs.Adding.{AreNoWrite}
use Rattle.assembling.specs.Assembly.{AreHeld, AreTrueParts, Assembles}
use Rattle.assembling.specs.Fronts.{AreAllParts, IsOfListing}
use Rattle.assembling.specs.Late.{AreAllOf}
use Rattle.assembling.specs.Reasons.{HasReason}
use Rattle.assembling.specs.Sizes.{AreOfSize}
use Rattle.assembling.specs.declared.fault.AssembleFault.{AssembleFault}
use Rattle.assembling.specs.declared.fault.AssembleFault.TheVariants as fault

-- the texts are those of all parts of one whole
abbrev pub AreWhole : List (List ℕ) → Type 0
AreWhole texts = (parts : ℕ) × (listing : List ℕ) × AreAllParts parts listing texts

-- the texts are those of all parts of one listing
abbrev pub AreOfOneListing : List (List ℕ) → Type 0
AreOfOneListing texts = (l : Inventory) × AreAllOf texts l

-- no text is refused as none of a part
abbrev pub TakesTexts : AssembleFault → Type 0
TakesTexts (fault.NoPart place) = ⊥
TakesTexts e = ⊤

-- no text is to blame: the piece length or a file was refused, or memory was
abbrev pub BlamesNoText : AssembleFault → Type 0
BlamesNoText (fault.Refused r path) = ⊤
BlamesNoText fault.NoMemory = ⊤
BlamesNoText e = ⊥

-- A draft comes only of the texts of all parts of one listing, whose text stands in each byte for
-- byte; each is as long as the listing asks for, and the draft holds its files. A fault comes only
-- for its reason, and never that of a failed write. If each text says what is true of the same
-- contents, then the draft is that which is gathered of these, a refusal is the first of such a
-- draft, and no text is refused as none of a part. If they are the texts of all parts too, then no
-- text is to blame at all.
pub record IsAssembled (texts : List (List ℕ)) (result : Result Outline AssembleFault) : Type 0
  where
    pub all : IfOk result (λ _. AreOfOneListing texts)
    pub reason : IfErr result (HasReason texts)
    pub no_write : IfErr result AreNoWrite
    pub draft : (l : Inventory) → CanBeListed l → IsOfListing (listing_text l) texts
        → IfOk result (IsDraftOf l)
    pub long : (l : Inventory) → CanBeListed l → IsOfListing (listing_text l) texts
        → IfOk result (λ _. AreOfSize l texts)
    pub gathers : (l : Inventory) (under : KnownPaths) (contents : List (List ℕ)) → CanBeListed l
        → AreHeld under l.files contents → AreTrueParts under l texts → Assembles l contents result
    pub takes : (l : Inventory) (under : KnownPaths) → CanBeListed l → AreTrueParts under l texts
        → IfErr result TakesTexts
    pub whole : (l : Inventory) (under : KnownPaths) → CanBeListed l → AreTrueParts under l texts
        → AreWhole texts → IfErr result BlamesNoText
