-- How a path of a shelf is visited: it is opened once, at its first byte or at another one, and
-- what was opened is read and handed back. A check visits each file of a torrent once, in order.
-- `shelf`, `opens` and `closes` stand for what the shelf's type says of its shelves, `opens` of one
-- opening, and `seen` for what its files say.
use Rattle.std.specs.Prelude.{◌≡◌, ◌≢◌, ℕ, ◌+◌, true, false, List, drop, Option, Some, None, Result, Ok, Err, ⊤}
use Rattle.benc.specs.Device.{SourceSeen, one_more}
use Rattle.benc.specs.declared.device.DeviceFault.{DeviceFault}
use Rattle.opening.specs.Description.{Description, FileEntry}
use Rattle.folders.specs.Shelf.{IsFound, more}
use Rattle.folders.specs.TakeAll.{IsReadWithin}
use Rattle.folders.specs.Verdicts.{Agrees, IsVerdict, fault_count, is_unreadable, is_whole}
use Rattle.folders.specs.declared.report.FileVerdict.{FileVerdict}
use Rattle.folders.specs.declared.report.FileVerdict.TheVariants.{Missing, Unreadable}
use Rattle.folders.specs.declared.shelf.Shelf.{Ghosts}

-- ---- how an opened file is read

-- a source had these bytes to give, which are the known ones; and this is true of each content that
-- goes on so from a byte
pub record HadBytes (left : Option (List ℕ)) (offset : ℕ) (IsTrueOf : List ℕ → Type 0) : Type 0
  where
    pub rest : List ℕ
    pub agrees : Agrees left rest
    pub each : (bytes : List ℕ) → drop offset bytes ≡ rest → IsTrueOf bytes

-- what is to be read of a file: from which byte on, how many bytes, and whether it is to end there
pub record Extent : Type 1 where
  pub offset : ℕ
  pub size : ℕ
  pub ends : Type 0

-- An opened file was read for this verdict, of which `states` says what it states of a content:
-- its bytes there at most, and one more if it is to end there. What it has is what it is known to
-- have, as far as that is known, and the verdict is true of each content that goes on so. Exactly
-- these bytes were taken if they were all there and nothing after them that should not be, and else
-- another number. It is unreadable if a read failed, which was before the end was seen.
pub record IsReadOf (x : Extent) (states : Option (List ℕ) → FileVerdict → Type 0)
    (v : FileVerdict) (old new : SourceSeen) : Type 0 where
  pub within : IsReadWithin (x.size + 1) old new
  pub own : (x.ends → ⊥) → IsReadWithin x.size old new
  pub own_fault : new.faults ≡ more old.faults (fault_count v)
  pub gives : is_unreadable v ≡ false
      → HadBytes old.left x.offset (λ bytes. states (Some bytes) v)
  pub whole : is_whole v ≡ true → new.limit + x.size ≡ old.limit
  pub other : is_whole v ≡ false → is_unreadable v ≡ false → new.limit + x.size ≢ old.limit
  pub early : is_unreadable v ≡ true → IsReadWithin x.size old new

-- a whole file, up to its stated end
abbrev pub whole_extent : FileEntry → Extent
whole_extent f = record { offset = 0; size = f.length; ends = ⊤ }

-- a whole file was read for this verdict
abbrev pub IsReadFor : Description → FileEntry → FileVerdict → SourceSeen → SourceSeen → Type 0
IsReadFor t f = IsReadOf (whole_extent f) (IsVerdict t f)

-- if nothing was there, a file is missing, and if the opening failed, it is unreadable
abbrev pub FollowsAnswer : {F : Type 0} → Result (Option F) DeviceFault → FileVerdict → Type 0
FollowsAnswer (Ok (Some file)) v = ⊤
FollowsAnswer (Ok None) v = v ≡ Missing
FollowsAnswer (Err fault) v = v ≡ Unreadable

-- a reader stays as it was unless it answered
abbrev pub StaysUnasked : {R A : Type 0} → R → R → Result (Option A) DeviceFault → Type 0
StaysUnasked old new (Ok (Some answer)) = ⊤
StaysUnasked old new (Ok None) = new ≡ old
StaysUnasked old new (Err fault) = new ≡ old

-- ---- one opening

module _ {S F : Type 0} (opens : Result (Option F) DeviceFault → S → Type 0)
    (closes : S → F → S → Type 0) (seen : F → SourceSeen) where
  -- this file was opened, read so, and handed back
  pub record HandsBack (IsRead : SourceSeen → SourceSeen → Type 0) (file : F) (s' : S) : Type 0
    where
      pub between : S
      pub opened : opens (Ok (Some file)) between
      pub read : F
      pub reading : IsRead (seen file) (seen read)
      pub closed : closes between read s'

  -- the opening was answered so; a file that was found was read so, and handed back
  abbrev pub Answered : (SourceSeen → SourceSeen → Type 0) → Result (Option F) DeviceFault → S
      → Type 0
  Answered IsRead (Ok (Some file)) s' = HandsBack IsRead file s'
  Answered IsRead (Ok None) s' = opens (Ok None) s'
  Answered IsRead (Err fault) s' = opens (Err fault) s'

  -- it was opened once, what was opened was read for this verdict, and handed back
  pub record VisitsOnce (IsReadAs : FileVerdict → SourceSeen → SourceSeen → Type 0)
      (v : FileVerdict) (s' : S) : Type 0 where
    pub answer : Result (Option F) DeviceFault
    pub opened : Answered (IsReadAs v) answer s'
    pub follows : FollowsAnswer answer v

module _ {S F : Type 0} (shelf : Ghosts S F) (seen : F → SourceSeen)
    (opens : Result (Option F) DeviceFault → S → Type 0) (known : Option (Option (List ℕ))) where
  -- the file of which this is known was opened, read for this answer, and handed back; the faults
  -- of its reads are counted
  pub record ReadsKnown {A : Type 0} (IsReadAs : A → SourceSeen → SourceSeen → Type 0) (s : S)
      (answer : A) (s' : S) : Type 0 where
    pub file : F
    pub found : IsFound known (Some (seen file).left)
    pub fresh : (seen file).faults ≡ 0
    pub handed : HandsBack opens shelf.closes seen (IsReadAs answer) file s'
    pub counted : shelf.faults s' ≡ more (shelf.faults s) (seen handed.read).faults

  -- it was opened once: what was found was read for this answer, or nothing was there, or the
  -- opening failed
  abbrev pub VisitsKnown : {A : Type 0} → (A → SourceSeen → SourceSeen → Type 0) → S
      → Result (Option A) DeviceFault → S → Type 0
  VisitsKnown IsReadAs s (Ok (Some answer)) s' = ReadsKnown IsReadAs s answer s'
  VisitsKnown IsReadAs s (Ok None) s' =
      opens (Ok None) s' × IsFound known None × (shelf.faults s' ≡ shelf.faults s)
  VisitsKnown IsReadAs s (Err fault) s' =
      opens (Err fault) s' × (shelf.faults s' ≡ one_more (shelf.faults s))

-- ---- a path is opened at its first byte

module _ {S F : Type 0} (shelf : Ghosts S F) (seen : F → SourceSeen) where
  -- the opening of this path was answered so; a file that was found was read so, and handed back
  abbrev pub Opened : (SourceSeen → SourceSeen → Type 0) → S → List (List ℕ)
      → Result (Option F) DeviceFault → S → Type 0
  Opened IsRead s path = Answered (shelf.opens s path) shelf.closes seen IsRead

  -- the file at this path was opened, read for this answer, and handed back
  abbrev pub ReadsFound : {A : Type 0} → (A → SourceSeen → SourceSeen → Type 0) → S
      → List (List ℕ) → A → S → Type 0
  ReadsFound IsReadAs s path =
      ReadsKnown shelf seen (shelf.opens s path) ((shelf.contents s).under path) IsReadAs s

  -- the path was opened once, and what was found was read for this answer
  abbrev pub VisitsFor : {A : Type 0} → (A → SourceSeen → SourceSeen → Type 0) → S
      → List (List ℕ) → Result (Option A) DeviceFault → S → Type 0
  VisitsFor IsReadAs s path =
      VisitsKnown shelf seen (shelf.opens s path) ((shelf.contents s).under path) IsReadAs s

  -- what was opened is this file, which was read for this answer and handed back
  pub record ReadsOpened {A : Type 0} (IsReadAs : A → SourceSeen → SourceSeen → Type 0) (s : S)
      (opened : Result (Option F) DeviceFault) (answer : A) (s' : S) : Type 0 where
    pub file : F
    pub is : opened ≡ Ok (Some file)
    pub read : F
    pub reading : IsReadAs answer (seen file) (seen read)
    pub closed : shelf.closes s read s'
    pub counted : shelf.faults s' ≡ more (shelf.faults s) (seen read).faults

  -- so it was, or nothing was opened, and the shelf stays as it is
  abbrev pub HandsOver : {A : Type 0} → (A → SourceSeen → SourceSeen → Type 0) → S
      → Result (Option F) DeviceFault → Result (Option A) DeviceFault → S → Type 0
  HandsOver IsReadAs s opened (Ok (Some answer)) s' = ReadsOpened IsReadAs s opened answer s'
  HandsOver IsReadAs s opened (Ok None) s' = (opened ≡ Ok None) × (s' ≡ s)
  HandsOver IsReadAs s opened (Err fault) s' = (opened ≡ Err fault) × (s' ≡ s)

  -- the path of a file of this torrent was opened once, what was opened was read for this verdict,
  -- and handed back
  abbrev pub Visits : Description → S → FileEntry → FileVerdict → S → Type 0
  Visits t s file = VisitsOnce (shelf.opens s file.path) shelf.closes seen (IsReadFor t file)
