-- What follows of a folder from a yes.
use Rattle.std.specs.Prelude.{ℕ, List}
use Rattle.opening.specs.Description.{Description}
use Rattle.folders.specs.Folder.{Contents, GoodFolder}
use Rattle.part_reports.specs.declared.kind.Kind.TheVariants.{Plain}
use Rattle.part_laws.specs.ApartTexts.{AreReportedApart, AreMadeOfTexts}

-- if each of the texts was true where it was written, the pieces that they speak of are all files
-- of the torrent
abbrev pub HoldAllApart : Description → List (List ℕ) → Type 0
HoldAllApart t texts = (own : ℕ → Contents) → AreReportedApart t texts own
    → (contents : Contents) × GoodFolder t contents × AreMadeOfTexts Plain t texts own contents
