-- The laws of a check in parts.
use Rattle.std.specs.Prelude.{◌≡◌, ◌↔◌, IsTrue, true, ◌⊎◌, ℕ, ◌<◌, List, [], ◌∷◌, ◌++◌, length, Option, Some, slice_get}
use Rattle.opening.specs.Description.{Description, FileEntry}
use Rattle.opening.specs.Sound.{IsSound}
use Rattle.folders.specs.Folder.{Contents, GoodFolder}
use Rattle.folders.specs.Verdicts.{HasVerdicts, AreTrueVerdicts, is_yes, unreadable_count}
use Rattle.folders.specs.declared.report.FileVerdict.{FileVerdict}
use Rattle.folders.specs.declared.report.V1Verdict.{V1Verdict}
use Rattle.parts.specs.Collisions.{FileCollides}
use Rattle.folders.specs.declared.report.FileVerdict.TheVariants as file
use Rattle.folders.specs.declared.report.V1Verdict.TheVariants as version1
use Rattle.parts.specs.Joins.{IsJoin, IsWorst, NoWorse, NoWorseV1, says_of, says_of_v1}
use Rattle.parts.specs.Worse.{worse, worse_v1}
use Rattle.parts.specs.PartLines.{has_place}
use Rattle.parts.specs.Parts.{AreAllPlaces, PartReport, IsTruePart, Touches}
use Rattle.parts.specs.Shares.{share}
use Rattle.parts.specs.declared.places.Places.{Places}

-- what `check` reports of a folder with these contents
pub record IsReportOfContents (t : Description) (contents : Contents) (files : List FileVerdict)
    (v1 : Option V1Verdict) : Type 0 where
  pub has : HasVerdicts t files v1
  pub are_true : AreTrueVerdicts t contents files v1

-- The verdicts of the parts make the report: of parts that have all places of the torrent, and that
-- are each true of the same contents, the join is what a check reports of them, or a collision is
-- named.
abbrev pub PartsMakeTheReport : Type 0
PartsMakeTheReport =
    (t : Description) (contents : Contents) (parts : List PartReport) (files : List FileVerdict)
    (v1 : Option V1Verdict) → IsSound t → AreAllPlaces t parts
    → ((i : ℕ) (p : PartReport) → slice_get parts i ≡ Some p → IsTruePart t contents p)
    → IsJoin t parts files v1
    → IsReportOfContents t contents files v1 ⊎ FileCollides t contents

-- A yes of the parts is a yes: of parts that have all places of the torrent, and that are each true
-- of the same contents, a join that says yes means that the folder is good. No collision excuses
-- it.
abbrev pub YesOfParts : Type 0
YesOfParts =
    (t : Description) (contents : Contents) (parts : List PartReport) (files : List FileVerdict)
    (v1 : Option V1Verdict) → IsSound t → AreAllPlaces t parts
    → ((i : ℕ) (p : PartReport) → slice_get parts i ≡ Some p → IsTruePart t contents p)
    → IsJoin t parts files v1 → is_yes files v1 ≡ true → GoodFolder t contents

-- contents have one report, if none of the files was unreadable
abbrev pub ReportIsOne : Type 0
ReportIsOne = (t : Description) (contents : Contents) (files others : List FileVerdict)
    (v1 other_v1 : Option V1Verdict) → IsSound t
    → IsReportOfContents t contents files v1 → IsReportOfContents t contents others other_v1
    → unreadable_count files ≡ 0 → unreadable_count others ≡ 0
    → (files ≡ others) × (v1 ≡ other_v1)

-- the worse of what parts say of a file, joined, and of what one more says is their join
abbrev pub WorseJoins : Type 0
WorseJoins = (parts : List PartReport) (p : PartReport) (n : ℕ) (w : FileVerdict)
    → IsWorst NoWorse file.Good (says_of n) parts w
    → IsWorst NoWorse file.Good (says_of n) (parts ++ p ∷ []) (worse w (says_of n p))

-- the same of what they say of the version 1 pieces
abbrev pub WorseJoinsV1 : Type 0
WorseJoinsV1 = (parts : List PartReport) (p : PartReport) (w : V1Verdict)
    → IsWorst NoWorseV1 version1.Good says_of_v1 parts w
    → IsWorst NoWorseV1 version1.Good says_of_v1 (parts ++ p ∷ []) (worse_v1 w (says_of_v1 p))

-- The shares of all parts have all places: of as many parts as there are shares, each of which has
-- its own.
abbrev pub SharesHaveAllPlaces : Type 0
SharesHaveAllPlaces = (t : Description) (parts : List PartReport) → 0 < length parts
    → ((i : ℕ) (p : PartReport) → slice_get parts i ≡ Some p → p.places ≡ share t i (length parts))
    → AreAllPlaces t parts

-- the test of whether a file has a place among some says whether there is one
abbrev pub PlacesAreTested : Type 0
PlacesAreTested = (t : Description) (r : Places) (f : FileEntry)
    → IsTrue (has_place t r f) ↔ Touches t r f
