-- What the check of a part finds of each file, and of all of them on a shelf.
use Rattle.std.specs.Prelude.{◌≡◌, ℕ, ◌+◌, ◌<◌, List, Option, Some, ⊤}
use Rattle.opening.specs.Description.{Description, FileEntry, Version1}
use Rattle.folders.specs.Folder.{Contents}
use Rattle.folders.specs.Verdicts.{AgreeWith, Agrees, IsVerdict, is_checked, is_whole}
use Rattle.folders.specs.declared.report.FileVerdict.{FileVerdict}
use Rattle.folders.specs.declared.report.V1Verdict.{V1Verdict}
use Rattle.folders.specs.declared.report.V1Verdict.TheVariants as version1
use Rattle.parts.specs.Parts.{Holds, IsVersion1Good, IsTruePart, piece_count, place_count}
use Rattle.parts.specs.Telling.{MarksIn}
use Rattle.parts.specs.declared.places.Places.{Places}
use Rattle.parts.specs.declared.verdicts.Verdicts.{Verdicts}

-- piece k of the file is among these places, and the file has these bytes
pub record HasPieceIn (t : Description) (r : Places) (f : FileEntry) (content : Option (List ℕ))
    (k : ℕ) (bytes : List ℕ) : Type 0 where
  pub content_is : content ≡ Some bytes
  pub inside : k < piece_count t f
  pub held : Holds r (f.first_piece + k)

-- the version 1 pieces that begin with a file's pieces among these places, as a verdict has them
abbrev pub IsFileV1 : Description → Version1 → Places → FileEntry → Option (List ℕ) → V1Verdict
    → Type 0
IsFileV1 t v r f content version1.NotChecked = ⊤
IsFileV1 t v r f content version1.Good = (k : ℕ) (bytes : List ℕ)
    → HasPieceIn t r f content k bytes → IsVersion1Good t v f bytes k
IsFileV1 t v r f content (version1.Bad q) =
    (k : ℕ) × (bytes : List ℕ) × (q ≡ f.first_piece + k) × HasPieceIn t r f content k bytes
    × (IsVersion1Good t v f bytes k → ⊥)
    × ((j : ℕ) → j < k → HasPieceIn t r f content j bytes → IsVersion1Good t v f bytes j)

-- What was found of a file under whose path a shelf holds this, of its pieces among these places.
-- It has this content, which is the known one; both verdicts are true of it; the file's says so
-- much; and if it is one whose bad pieces are printed, these bits tell which of those among the
-- places are good.
pub record FindsAs (r : Places) (Says : FileEntry → Option (List ℕ) → FileVerdict → Type 0)
    (t : Description) (f : FileEntry) (known : Option (Option (List ℕ))) (bits : List ℕ)
    (found : Verdicts) : Type 0
  where
    pub content : Option (List ℕ)
    pub agrees : Agrees known content
    pub verdict : Says f content found.file
    pub version1 : (v : Version1) → t.v1 ≡ Some v → IsFileV1 t v r f content found.v1
    pub checked : is_checked found.v1 ≡ is_whole found.file
    pub marks : MarksIn t r f content found.file bits

-- all places of a torrent
abbrev pub all_places : Description → Places
all_places t = record { from = 0; to = place_count t }

-- so a check finds a whole file
abbrev pub FindsWhole : Description → FileEntry → Option (Option (List ℕ)) → List ℕ → Verdicts
    → Type 0
FindsWhole t f known bits found = FindsAs (all_places t) (IsVerdict t) t f known bits found

-- What the report of a part says of a shelf that holds this. There are contents, which are the
-- shelf's as far as those are known, and each verdict is true of them.
pub record IsTrueOfPlaces (t : Description) (r : Places)
    (under : List (List ℕ) → Option (Option (List ℕ))) (files : List FileVerdict)
    (v1 : Option V1Verdict) : Type 0 where
  pub contents : Contents
  pub agree : AgreeWith t under contents
  pub are_true : IsTruePart t contents (record { places = r; files = files; v1 = v1 })
