-- What a draft makes of a content that was found. Public clauses do not name these.
use Rattle.std.specs.Prelude.{◌⊎◌, ℕ, ◌^◌, ◌≤◌, List, length, Result, Ok, Err}
use Rattle.drafts.specs.Outline.{Outline}
use Rattle.gathering.specs.Gathered.{DraftAdds, DraftTakes, KeepsDigests, RefusesContent}
use Rattle.gathering.specs.Reading.{Finds}
use Rattle.gathering.specs.declared.file_fault.FileFault.{FileFault}
use Rattle.gathering.specs.declared.file_fault.FileFault.TheVariants as file
use Rattle.gathering.specs.declared.hashing.FileHashes.{FileHashes}

-- the draft d does not take this content under a path: it refuses it, or is out of memory
abbrev pub Declines : FileFault → Outline → List (List ℕ) → List ℕ → Type 0
Declines (file.Refused r) d path content = RefusesContent d path content r
Declines file.Device d path content = ⊥
Declines file.NoMemory d path content =
    (length content ≤ 2 ^ 46)
    × (KeepsDigests d.piece_length d.hybrid content ⊎ DraftTakes d path content)
Declines file.Changed d path content = ⊥

-- this content was added to the draft d, which is e then, or why not
abbrev pub AddsFound : Outline → List (List ℕ) → List ℕ → Outline → Result (Unit {0}) FileFault
    → Type 0
AddsFound d path content e (Ok u) = DraftAdds d path content e
AddsFound d path content e (Err f) = Declines f d path content

-- this was found of some content
abbrev pub IsFoundOfContent : Outline → Result FileHashes FileFault → Type 0
IsFoundOfContent d found = (content : List ℕ) × Finds d.piece_length d.hybrid content found
