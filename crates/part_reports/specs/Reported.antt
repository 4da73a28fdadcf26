-- What a part can report.
use Rattle.std.specs.Prelude.{◌≡◌, ℕ, ◌+◌, ◌-◌, ◌<◌, ◌≤◌, true, List, length, slice_get, Option, Some, is_some, ⊤}
use Rattle.std.specs.List.{list_all}
use Rattle.opening.specs.Description.{Description, FileEntry}
use Rattle.folders.specs.Verdicts.{is_checked, is_whole}
use Rattle.folders.specs.declared.report.FileVerdict.{FileVerdict}
use Rattle.folders.specs.declared.report.FileVerdict.TheVariants as file
use Rattle.folders.specs.declared.report.V1Verdict.{V1Verdict}
use Rattle.folders.specs.declared.report.V1Verdict.TheVariants as version1
use Rattle.parts.specs.PartLines.{has_place}
use Rattle.parts.specs.Parts.{Holds, piece_count, place_count}
use Rattle.parts.specs.declared.places.Places.{Places}

-- a piece of the file, by the torrent's number, that is among these places
pub record IsPieceIn (t : Description) (r : Places) (f : FileEntry) (p : ℕ) : Type 0 where
  pub from : f.first_piece ≤ p
  pub to : p < f.first_piece + piece_count t f
  pub held : Holds r p

-- A part with these places can say this of a file: of one that has no place there only that it is
-- good, and that it is bad only at a piece that is the file's and among the places.
abbrev pub CanSay : Description → Places → FileEntry → FileVerdict → Type 0
CanSay t r f file.Good = ⊤
CanSay t r f file.Missing = has_place t r f ≡ true
CanSay t r f file.Unreadable = has_place t r f ≡ true
CanSay t r f file.WrongLength = has_place t r f ≡ true
CanSay t r f (file.Bad p) = (has_place t r f ≡ true) × IsPieceIn t r f p

-- the same of the version 1 pieces, of which there are this many: that they are bad only at one of
-- them that is among the places
abbrev pub CanSayV1 : Places → ℕ → V1Verdict → Type 0
CanSayV1 r pieces version1.Good = ⊤
CanSayV1 r pieces version1.NotChecked = ⊤
CanSayV1 r pieces (version1.Bad q) = Holds r q × (q < pieces)

-- a part can say these verdicts of the first of these files
abbrev pub CanSayAll : Description → Places → List FileEntry → List FileVerdict → Type 0
CanSayAll t r fs verdicts = (n : ℕ) (f : FileEntry) (v : FileVerdict) → slice_get fs n ≡ Some f
    → slice_get verdicts n ≡ Some v → CanSay t r f v

-- These are verdicts that a part with these places can report: one for each file, and one on the
-- version 1 pieces exactly of a hybrid, which were compared exactly if no file is missing,
-- unreadable or of another length.
pub record CanReport (t : Description) (r : Places) (files : List FileVerdict)
    (v1 : Option V1Verdict) : Type 0 where
  pub count : length files ≡ length t.files
  pub hybrid : is_some v1 ≡ is_some t.v1
  pub says : CanSayAll t r t.files files
  pub says_v1 : (v : V1Verdict) → v1 ≡ Some v → CanSayV1 r (place_count t - 1) v
  pub checked : (v : V1Verdict) → v1 ≡ Some v → is_checked v ≡ list_all is_whole files
