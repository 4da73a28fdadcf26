-- A folder that is gathered and written, and then opened and checked.
use Rattle.std.specs.Prelude.{◌≡◌, ◌≢◌, ℕ, Bool, true, List, Option, Some, None, slice_get}
use Rattle.benc.specs.Text.{spelling}
use Rattle.drafts.specs.Finishing.{finish_rows}
use Rattle.drafts.specs.Outline.{Outline, empty_outline}
use Rattle.drafts.specs.Written.{torrent_of, value_of}
use Rattle.filetree.specs.Tests.{NoneHolds}
use Rattle.folders.specs.Shelf.{KnownPaths}
use Rattle.folders.specs.Verdicts.{IsTrueOfFolder, is_yes, unreadable_count}
use Rattle.folders.specs.declared.report.FileVerdict.{FileVerdict}
use Rattle.folders.specs.declared.report.V1Verdict.{V1Verdict}
use Rattle.gathering.specs.Gathered.{Gathered}
use Rattle.gathering.specs.Gathering.{AreContentsUnder}
use Rattle.opening.specs.Describes.{Describes}
use Rattle.opening.specs.Description.{Description}

-- what stands at each of these paths is known
abbrev pub KnowsEach : KnownPaths → List (List (List ℕ)) → Type 0
KnowsEach under paths = (n : ℕ) (p : List (List ℕ)) → slice_get paths n ≡ Some p → under p ≢ None

-- the files of these paths and contents were gathered in the draft d; the contents are those that
-- are known of this shelf
pub record IsGatheredFrom (under : KnownPaths) (d : Outline) : Type 0 where
  pub name : List ℕ
  pub piece_length : ℕ
  pub hybrid : Bool
  pub paths : List (List (List ℕ))
  pub contents : List (List ℕ)
  pub gathered : Gathered (empty_outline name piece_length hybrid) paths contents d
  pub are : AreContentsUnder under paths contents
  pub known : KnowsEach under paths

-- each report that a check of this torrent gives of what is known of the shelf, if no file was
-- unreadable, says that all files, and a hybrid's version 1 pieces, are good
abbrev pub ChecksGood : Description → KnownPaths → Type 0
ChecksGood t under =
    (files : List FileVerdict) (v1 : Option V1Verdict) → IsTrueOfFolder t under files v1
    → unreadable_count files ≡ 0 → is_yes files v1 ≡ true

-- a draft that was gathered, and may be written, is opened as its torrent, and as no other, and
-- that torrent checks good against what the draft was gathered from
abbrev pub RoundTrips : Outline → Type 0
RoundTrips d =
    (under : KnownPaths) → IsGatheredFrom under d → NoneHolds (finish_rows d)
    → Describes (spelling (value_of d)) (torrent_of d)
    × ((t : Description) → Describes (spelling (value_of d)) t
    → (t ≡ torrent_of d) × ChecksGood t under)
