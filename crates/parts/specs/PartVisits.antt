-- How the check of a part visits a path: it is opened once, at the first of the file's pieces among
-- the part's places, and what was opened is read and handed back; a file that has no place there is
-- not opened. `opens_at` and `closes` stand for what contracts see of the shelf's type, and
-- `seen` for what they see of its files.
use Rattle.std.specs.Prelude.{◌≡◌, ℕ, ◌*◌, List, Option, Result}
use Rattle.benc.specs.Device.{SourceSeen}
use Rattle.benc.specs.declared.device.DeviceFault.{DeviceFault}
use Rattle.opening.specs.Description.{Description, FileEntry}
use Rattle.folders.specs.Visits.{Extent, IsReadOf, VisitsOnce}
use Rattle.folders.specs.declared.report.FileVerdict.{FileVerdict}
use Rattle.folders.specs.declared.report.FileVerdict.TheVariants.{Good}
use Rattle.parts.specs.Parts.{Holds, IsPartVerdict, Touches, last_place}
use Rattle.parts.specs.Spans.{bytes_in_places, first_in}
use Rattle.parts.specs.declared.places.Places.{Places}

-- the bytes of a file that are among these places, and whether its last place is
abbrev pub extent_in : Description → Places → FileEntry → Extent
extent_in t r f = record {
  offset = t.piece_length * first_in r f;
  size = bytes_in_places t r f;
  ends = Holds r (last_place t f);
}

module _ {S F : Type 0}
    (opens_at : S → List (List ℕ) → ℕ → Result (Option F) DeviceFault → S → Type 0)
    (closes : S → F → S → Type 0) (seen : F → SourceSeen) where
  -- the path of a file was opened once, at the first of its pieces among these places, and what was
  -- opened was read for this verdict
  abbrev pub OpensPart : Description → Places → S → FileEntry → FileVerdict → S → Type 0
  OpensPart t r s f = VisitsOnce (opens_at s f.path (t.piece_length * first_in r f)) closes seen
      (IsReadOf (extent_in t r f) (IsPartVerdict t r f))

  -- a file was visited for this verdict: it was opened once if it has a place among these, else not
  -- at all
  pub record VisitsPart (t : Description) (r : Places) (s : S) (f : FileEntry) (v : FileVerdict)
      (s' : S) : Type 0 where
    pub touched : Touches t r f → OpensPart t r s f v s'
    pub other : (Touches t r f → ⊥) → (s' ≡ s) × (v ≡ Good)
