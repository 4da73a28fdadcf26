-- What visiting the paths of a shelf gave, and what was added to a draft. Public clauses do not
-- name these.
use Rattle.std.specs.Prelude.{◌≡◌, ◌⊎◌, ℕ, ◌+◌, ◌≤◌, List, length, take, drop, slice_get, Some, Result, Ok, Err}
use Rattle.benc.specs.Device.{SourceSeen}
use Rattle.drafts.specs.Outline.{Outline}
use Rattle.folders.specs.declared.shelf.Shelf.{Ghosts}
use Rattle.gathering.specs.Gathering.{FailsAt, Gathers, GathersAll, HappensBefore, HasGathered, LacksMemoryAt, Misses, Reads, ReadsAhead, RefusesAt}
use Rattle.gathering.specs.declared.file_fault.FileFault.{FileFault}
use Rattle.gathering.specs.declared.file_fault.FileFault.TheVariants as file
use Rattle.gathering.specs.declared.gather_fault.GatherFault.{GatherFault}
use Rattle.passes.specs.declared.stopped.Stopped.{Stopped}

-- no path has more components than this
abbrev pub ArePathsWithin : List (List (List ℕ)) → ℕ → Type 0
ArePathsWithin paths room = (n : ℕ) (path : List (List ℕ)) → slice_get paths n ≡ Some path
    → length path ≤ room

module _ {S F : Type 0} (shelf : Ghosts S F) (seen : F → SourceSeen) where
  -- a path was read, and what is on the shelf stays
  pub record ReadsStill (s : S) (path : List (List ℕ)) (content : List ℕ) (s' : S) : Type 0 where
    pub reads : Reads shelf seen s path content s'
    pub stays : shelf.contents s' ≡ shelf.contents s

  -- no file was read under this path
  abbrev pub FaultsWith : FileFault → S → List (List ℕ) → S → Type 0
  FaultsWith (file.Refused r) s path s' = ⊥
  FaultsWith file.Device s path s' = FailsAt shelf seen s path s'
  FaultsWith file.NoMemory s path s' = ⊥
  FaultsWith file.Changed s path s' = Misses shelf seen s path s'

  -- why the file under a path was not added to the draft d, once it was read
  abbrev pub DeclinesAt : FileFault → Outline → List (List ℕ) → S → S → Type 0
  DeclinesAt (file.Refused r) d path s s' = RefusesAt shelf seen d path r s s'
  DeclinesAt file.Device d path s s' = ⊥
  DeclinesAt file.NoMemory d path s s' = LacksMemoryAt shelf seen d path s s'
  DeclinesAt file.Changed d path s s' = ⊥

  -- the draft that was given is `empty`
  module _ (empty : Outline) where
    -- the first paths were added, and the draft did not take the next one
    pub record StopsAdding (old : S) (paths : List (List (List ℕ))) (new : S)
        (stop : Stopped FileFault)
        : Type 0 where
      pub path : List (List ℕ)
      pub there : slice_get paths stop.number ≡ Some path
      pub draft : Outline
      pub mid : S
      pub before : HasGathered shelf seen empty old old (take stop.number paths) mid draft
      pub why : HappensBefore shelf seen (DeclinesAt stop.stop draft path mid)
          (drop (stop.number + 1) paths) new

    -- the first paths were added, some were read, and no file was read under the next one
    pub record StopsVisiting (old : S) (paths : List (List (List ℕ))) (new : S)
        (stop : Stopped FileFault)
        : Type 0 where
      pub path : List (List ℕ)
      pub there : slice_get paths stop.number ≡ Some path
      pub gathered : ℕ
      pub draft : Outline
      pub between : S
      pub before : HasGathered shelf seen empty old old (take gathered paths) between draft
      pub mid : S
      pub ahead : ReadsAhead shelf seen between (drop gathered paths) mid
      pub number_is : stop.number ≡ gathered + ahead.count
      pub why : FaultsWith stop.stop mid path new

    -- all paths were added, or it stopped at one
    abbrev pub AddsAll : S → List (List (List ℕ)) → Outline → S
        → Result (Unit {0}) (Stopped FileFault)
        → Type 0
    AddsAll old paths d new (Ok u) = HasGathered shelf seen empty old old paths new d
    AddsAll old paths d new (Err stop) =
        StopsAdding old paths new stop ⊎ StopsVisiting old paths new stop

    -- all listed files were added, or why not
    abbrev pub GathersInto : S → S → Outline → Result (Unit {0}) GatherFault → Type 0
    GathersInto old new d (Ok u) = GathersAll shelf seen empty old new d
    GathersInto old new d (Err f) = Gathers shelf seen empty old new (Err f)
