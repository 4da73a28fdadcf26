-- How the files of a torrent are visited one after the other, and told of in the same order.
use Rattle.std.specs.Prelude.{◌≡◌, ℕ, ◌+◌, ◌<◌, List, [], ◌∷◌, ◌++◌, length, map, take, slice_get, Option, Some, Result, Ok, Err}
use Rattle.benc.specs.Device.{Broke, Sent, SinkSeen, SourceSeen}
use Rattle.benc.specs.declared.device.DeviceFault.{DeviceFault}
use Rattle.chains.specs.Chain.{Chain}
use Rattle.lines.specs.Rows.{Spelling}
use Rattle.folders.specs.Folder.{Contents}
use Rattle.folders.specs.Shelf.{ShelfContents, more}
use Rattle.folders.specs.Verdicts.{AgreeWith, Agrees, CountsUnreadable, HasVerdicts, IsVerdict, fault_count}
use Rattle.folders.specs.Visits.{Visits}
use Rattle.folders.specs.declared.report.FileVerdict.{FileVerdict}
use Rattle.folders.specs.declared.report.Report.{Report}
use Rattle.folders.specs.declared.report.V1Verdict.{V1Verdict}
use Rattle.folders.specs.declared.shelf.Shelf.{Ghosts}
use Rattle.opening.specs.Description.{Description, FileEntry, Version1}
use Rattle.parts.specs.Finding.{FindsAs, all_places}
use Rattle.parts.specs.Parts.{IsPartV1, IsPartVerdict}
use Rattle.parts.specs.PartVisits.{VisitsPart}
use Rattle.parts.specs.Telling.{MarksIn, MarksOf, Tells, TellsFirst, TellsNothing}
use Rattle.parts.specs.declared.places.Places.{Places}
use Rattle.parts.specs.declared.telling.Telling.{Telling}
use Rattle.parts.specs.declared.verdicts.Verdicts.{Verdicts}

-- How a check visits files: what its shelf holds, and how many faults it had; the places that are
-- checked; what a verdict says of a file's content; and one visit.
pub record Visiting (S : Type 0) : Type 1 where
  pub contents : S → ShelfContents
  pub faults : S → ℕ
  pub places : Places
  pub says : FileEntry → Option (List ℕ) → FileVerdict → Type 0
  pub visits : S → FileEntry → FileVerdict → S → Type 0

-- the visits of whole files
abbrev pub whole_visiting : {S F : Type 0} → Ghosts S F → (F → SourceSeen) → Description
    → Visiting S
whole_visiting shelf seen t = record {
  contents = shelf.contents;
  faults = shelf.faults;
  places = all_places t;
  says = IsVerdict t;
  visits = Visits shelf seen t;
}

-- the visits of the check of these places
abbrev pub part_visiting : {S F : Type 0} → Ghosts S F
    → (S → List (List ℕ) → ℕ → Result (Option F) DeviceFault → S → Type 0) → (F → SourceSeen)
    → Places → Description → Visiting S
part_visiting shelf opens_at seen r t = record {
  contents = shelf.contents;
  faults = shelf.faults;
  places = r;
  says = IsPartVerdict t r;
  visits = VisitsPart opens_at shelf.closes seen t r;
}

-- the verdicts of some files, of what is told of each
abbrev pub verdicts_in : List (FileVerdict × List ℕ) → List FileVerdict
verdicts_in told = map (λ x. x.0) told

-- each of the first files is told of so, if these are the files' contents
abbrev pub AreTold : Spelling → Description → Telling → Contents → List (FileVerdict × List ℕ)
    → Type 0
AreTold spelled t telling contents told = (n : ℕ) (f : FileEntry) (x : FileVerdict × List ℕ)
    → slice_get t.files n ≡ Some f → slice_get told n ≡ Some x
    → Tells spelled t telling f (contents n) x.0 x.1

module _ {S : Type 0} (V : Visiting S) where
  -- what a visit finds of a file under whose path a shelf holds this
  abbrev pub Finds : Description → FileEntry → Option (Option (List ℕ)) → List ℕ → Verdicts
      → Type 0
  Finds t f known bits found = FindsAs V.places V.says t f known bits found

  -- a file was visited once, for these verdicts, which are true of what stands at its path
  pub record VisitsFile (t : Description) (s : S) (f : FileEntry) (bits : List ℕ) (v : Verdicts)
      (s' : S) : Type 0 where
    pub finds : Finds t f ((V.contents s).under f.path) bits v
    pub visits : V.visits s f v.file s'
    pub counts : V.faults s' ≡ more (V.faults s) (fault_count v.file)
    pub stays : V.contents s' ≡ V.contents s

  -- the bits are those that are told of, if any are
  abbrev pub TellsOwn : Description → Telling → Type 0
  TellsOwn t told = (n : ℕ) (f : FileEntry) (content : Option (List ℕ)) (v : FileVerdict)
      (bits : List ℕ) → slice_get t.files n ≡ Some f → MarksIn t V.places f content v bits
      → MarksOf t told f content v bits

  -- this was said of a file with this content, and told of it
  abbrev pub SaysAndTells : Spelling → Description → Telling → FileEntry → Option (List ℕ)
      → FileVerdict × List ℕ → Type 0
  SaysAndTells spelled t told f content x =
      V.says f content x.0 × Tells spelled t told f content x.0 x.1

  -- a file was visited for this verdict; then this went out
  pub record VisitsOne (old : S × SinkSeen) (f : FileEntry) (x : FileVerdict × List ℕ)
      (new : S × SinkSeen) : Type 0 where
    pub visits : V.visits old.0 f x.0 new.0
    pub told : Sent old.1 new.1 x.1

  -- all files were visited and told of, in order, for these verdicts, which are true of
  -- contents that are the shelf's as far as those are known; and what was told is true of the same
  pub record VisitsAll (spelled : Spelling) (t : Description) (telling : Telling)
      (verdicts : List FileVerdict) (v1 : Option V1Verdict) (old new : S × SinkSeen) : Type 0
    where
      pub has : HasVerdicts t verdicts v1
      pub contents : Contents
      pub agree : AgreeWith t (V.contents old.0).under contents
      pub told : List (FileVerdict × List ℕ)
      pub verdicts_are : verdicts_in told ≡ verdicts
      pub each : (n : ℕ) (f : FileEntry) (x : FileVerdict × List ℕ) → slice_get t.files n ≡ Some f
          → slice_get told n ≡ Some x → SaysAndTells spelled t telling f (contents n) x
      pub version1 : (v : Version1) (a : V1Verdict) → t.v1 ≡ Some v → v1 ≡ Some a
          → IsPartV1 t v V.places contents a
      pub visited : Chain VisitsOne old t.files told new
      pub counts : CountsUnreadable (V.faults old.0) (V.faults new.0) verdicts

  -- after all that is told of the files before it, a file was visited, and what is told of it broke
  -- off; no later file was visited
  pub record StopsAtFile (spelled : Spelling) (t : Description) (telling : Telling)
      (old new : S × SinkSeen) : Type 0
    where
      pub some : TellsNothing telling → ⊥
      pub told : List (FileVerdict × List ℕ)
      pub between : S × SinkSeen
      pub before : Chain VisitsOne old (take (length told) t.files) told between
      pub file : FileEntry
      pub file_is : slice_get t.files (length told) ≡ Some file
      pub verdict : FileVerdict
      pub visits : V.visits between.0 file verdict new.0
      pub text : List ℕ
      pub broke : Broke between.1 new.1 text
      pub contents : Contents
      pub agree : (n : ℕ) (f : FileEntry) → n < length told + 1 → slice_get t.files n ≡ Some f
          → Agrees ((V.contents old.0).under f.path) (contents n)
      pub each : (n : ℕ) (f : FileEntry) (x : FileVerdict × List ℕ) → slice_get t.files n ≡ Some f
          → slice_get told n ≡ Some x → SaysAndTells spelled t telling f (contents n) x
      pub says : V.says file (contents (length told)) verdict
      pub last : TellsFirst spelled t telling file (contents (length told)) verdict text
      pub counts : CountsUnreadable (V.faults old.0) (V.faults new.0)
          (verdicts_in told ++ verdict ∷ [])

  -- what was done for all files, by the answer
  abbrev pub EndsVisits : Spelling → Description → Telling → S × SinkSeen → S × SinkSeen
      → Result Report DeviceFault → Type 0
  EndsVisits spelled t telling old new (Ok report) =
      VisitsAll spelled t telling report.files.items report.v1 old new
  EndsVisits spelled t telling old new (Err fault) = StopsAtFile spelled t telling old new
