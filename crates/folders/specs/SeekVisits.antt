-- How a path of a shelf is visited from one of the file's bytes on: it is opened once, there, and
-- what was opened is read and handed back. `shelf`, `opens_at` and `closes` stand for what the
-- shelf's type says of its shelves, and `seen` for what its files say.
use Rattle.std.specs.Prelude.{ℕ, List, Option, Result}
use Rattle.benc.specs.Device.{SourceSeen}
use Rattle.benc.specs.declared.device.DeviceFault.{DeviceFault}
use Rattle.folders.specs.Seeking.{from_offset}
use Rattle.folders.specs.Visits.{HandsBack, ReadsKnown, VisitsKnown}
use Rattle.folders.specs.declared.shelf.Shelf.{Ghosts}

-- the file that stands at this path was opened at this byte, read so, and handed back
abbrev pub HandsBackAt : {S F : Type 0}
    → (S → List (List ℕ) → ℕ → Result (Option F) DeviceFault → S → Type 0)
    → (S → F → S → Type 0) → (F → SourceSeen) → (SourceSeen → SourceSeen → Type 0) → S
    → List (List ℕ) → ℕ → F → S → Type 0
HandsBackAt opens_at closes seen IsRead s path offset =
    HandsBack (opens_at s path offset) closes seen IsRead

module _ {S F : Type 0} (shelf : Ghosts S F)
    (opens_at : S → List (List ℕ) → ℕ → Result (Option F) DeviceFault → S → Type 0)
    (seen : F → SourceSeen) where
  -- the file at this path was opened at this byte, read for this answer, and handed back
  abbrev pub ReadsFoundAt : {A : Type 0} → (A → SourceSeen → SourceSeen → Type 0) → S
      → List (List ℕ) → ℕ → A → S → Type 0
  ReadsFoundAt IsReadAs s path offset = ReadsKnown shelf seen (opens_at s path offset)
      (from_offset offset ((shelf.contents s).under path)) IsReadAs s

  -- the path was opened once, at this byte, and what was found was read for this answer
  abbrev pub VisitsForAt : {A : Type 0} → (A → SourceSeen → SourceSeen → Type 0) → S
      → List (List ℕ) → ℕ → Result (Option A) DeviceFault → S → Type 0
  VisitsForAt IsReadAs s path offset = VisitsKnown shelf seen (opens_at s path offset)
      (from_offset offset ((shelf.contents s).under path)) IsReadAs s
