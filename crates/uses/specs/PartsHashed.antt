-- What follows of the texts of a torrent's parts.
use Rattle.std.specs.Prelude.{◌≡◌, ℕ, ◌^◌, ◌<◌, List, Result, IfErr, IfOk, length}
use Rattle.assembling.specs.AllTexts.{AreAllNumbers, AreTextsOf}
use Rattle.assembling.specs.Assembly.{AreHeld, listed_draft, paths_of}
use Rattle.assembling.specs.Outcome.{BlamesNoText}
use Rattle.assembling.specs.declared.fault.AssembleFault.{AssembleFault}
use Rattle.drafts.specs.Outline.{Outline}
use Rattle.drafts.specs.Written.{value_of}
use Rattle.gathering.specs.Gathered.{Gathered}
use Rattle.gathering.specs.Parts.{IsPartText, KnownPaths}
use Rattle.part_texts.specs.Listings.{Inventory, inventory}
use Rattle.part_texts.specs.Readings.{CanBeListed}
use Rattle.part_texts.specs.Texts.{listing_text}
use Rattle.part_texts.specs.declared.listing.Listing.{Listing}

-- this is the text of the part, counted from 0, of this many, true of what is known of the files;
-- and what was listed can be listed
pub record IsTextOfPart (listing : Listing) (part parts : ℕ) (under : KnownPaths) (text : List ℕ)
    : Type 0 where
  pub is : IsPartText under (inventory listing) part parts text
  pub can : CanBeListed (inventory listing)
  pub short : length (listing_text (inventory listing)) < 2 ^ 64

-- texts of all parts of a folder with known contents, in any order
pub record AreAllTextsOf (under : KnownPaths) (l : Inventory) (contents : List (List ℕ))
    (texts : List (List ℕ)) : Type 0 where
  pub parts : ℕ
  pub numbers : List ℕ
  pub small : parts < 2 ^ 64
  pub can : CanBeListed l
  pub short : length (listing_text l) < 2 ^ 64
  pub held : AreHeld under l.files contents
  pub all : AreAllNumbers parts numbers
  pub are : AreTextsOf under l parts numbers texts

-- of such texts no one is to blame; and a draft is written as each that is gathered of the contents
abbrev pub MakesTheTorrent : List (List ℕ) → Result Outline AssembleFault → Type 0
MakesTheTorrent texts result = (under : KnownPaths) (l : Inventory) (contents : List (List ℕ))
    → AreAllTextsOf under l contents texts
    → IfErr result BlamesNoText × IfOk result (λ d. (e : Outline)
    → Gathered (listed_draft l) (paths_of l.files) contents e → value_of d ≡ value_of e)
