-- What is assembled of all that was hashed of one folder.
use Rattle.std.specs.Prelude.{◌≡◌, ℕ, ◌^◌, ◌<◌, List, [], ◌∷◌, length, slice_get, Some, Result, IfErr}
use Rattle.drafts.specs.Outline.{Outline}
use Rattle.gathering.specs.Parts.{IsPartText, KnownPaths}
use Rattle.part_texts.specs.Listings.{Inventory}
use Rattle.part_texts.specs.Readings.{CanBeListed}
use Rattle.part_texts.specs.Texts.{listing_text}
use Rattle.assembling.specs.Assembly.{AreHeld, Assembles}
use Rattle.assembling.specs.Outcome.{BlamesNoText, IsAssembled}
use Rattle.assembling.specs.declared.fault.AssembleFault.{AssembleFault}

-- each text is that of the part of this number, counted from 0
abbrev pub AreTextsOf : KnownPaths → Inventory → (parts : ℕ) → List ℕ → List (List ℕ) → Type 0
AreTextsOf under l parts [] [] = Unit {0}
AreTextsOf under l parts [] (t ∷ ts) = ⊥
AreTextsOf under l parts (n ∷ ns) [] = ⊥
AreTextsOf under l parts (n ∷ ns) (t ∷ ts) =
    (n < parts) × IsPartText under l n parts t × AreTextsOf under l parts ns ts

-- these are the numbers of all parts, each once, in any order
pub record AreAllNumbers (parts : ℕ) (numbers : List ℕ) : Type 0 where
  pub some : 0 < parts
  pub apart : (i j n : ℕ) → slice_get numbers i ≡ Some n → slice_get numbers j ≡ Some n → i ≡ j
  pub all : (n : ℕ) → n < parts → (i : ℕ) × (slice_get numbers i ≡ Some n)

-- Of the texts of all parts of a folder with known contents, in any order, the draft is assembled
-- that is gathered of these contents; or what such a draft refuses is refused, or memory is.
abbrev pub AllTextsAssemble : Type 0
AllTextsAssemble = (under : KnownPaths) (l : Inventory) (contents : List (List ℕ)) (parts : ℕ)
    (numbers : List ℕ) (texts : List (List ℕ)) (result : Result Outline AssembleFault)
    → CanBeListed l → length (listing_text l) < 2 ^ 64 → parts < 2 ^ 64
    → AreHeld under l.files contents → AreAllNumbers parts numbers
    → AreTextsOf under l parts numbers texts → IsAssembled texts result
    → Assembles l contents result × IfErr result BlamesNoText
