-- What the parts of a check make together if each saw contents of its own, as on machines that each
-- have a folder.
use Rattle.std.specs.Prelude.{◌≡◌, ℕ, ◌+◌, ◌<◌, true, List, slice_get, Option, Some}
use Rattle.opening.specs.Description.{Description, FileEntry}
use Rattle.opening.specs.Sound.{IsSound}
use Rattle.pieces.specs.Cuts.{cut}
use Rattle.folders.specs.Folder.{Contents, GoodFolder}
use Rattle.folders.specs.Verdicts.{is_yes}
use Rattle.folders.specs.declared.report.FileVerdict.{FileVerdict}
use Rattle.folders.specs.declared.report.V1Verdict.{V1Verdict}
use Rattle.parts.specs.Joins.{IsJoin}
use Rattle.parts.specs.Parts.{AreAllPlaces, Holds, IsTruePart, PartReport, piece_count}

-- each part is true of contents of its own
abbrev pub AreTrueApart : Description → List PartReport → (ℕ → Contents) → Type 0
AreTrueApart t parts own = (i : ℕ) (p : PartReport) → slice_get parts i ≡ Some p
    → IsTruePart t (own i) p

-- piece k of file n is among a part's places, and is these bytes in the part's own contents
pub record HasOwnPiece (t : Description) (parts : List PartReport) (own : ℕ → Contents) (n : ℕ)
    (f : FileEntry) (k : ℕ) (piece : List ℕ) : Type 0 where
  pub number : ℕ
  pub part : PartReport
  pub part_is : slice_get parts number ≡ Some part
  pub held : Holds part.places (f.first_piece + k)
  pub bytes : List ℕ
  pub there : own number n ≡ Some bytes
  pub piece_is : piece ≡ cut t.piece_length bytes k

-- each piece of these contents is one of a part's own, among whose places it is
abbrev pub AreMadeOf : Description → List PartReport → (ℕ → Contents) → Contents → Type 0
AreMadeOf t parts own contents = (n : ℕ) (f : FileEntry) (bytes : List ℕ) (k : ℕ)
    → slice_get t.files n ≡ Some f → contents n ≡ Some bytes → k < piece_count t f
    → HasOwnPiece t parts own n f k (cut t.piece_length bytes k)

-- A yes of the parts is a yes also if each saw contents of its own: their pieces together are a
-- good folder. No collision excuses it.
abbrev pub YesOfPartsApart : Type 0
YesOfPartsApart = (t : Description) (parts : List PartReport) (own : ℕ → Contents)
    (files : List FileVerdict) (v1 : Option V1Verdict) → IsSound t → AreAllPlaces t parts
    → AreTrueApart t parts own → IsJoin t parts files v1 → is_yes files v1 ≡ true
    → (contents : Contents) × GoodFolder t contents × AreMadeOf t parts own contents
