-- The pass over the files of a torrent that seeds a session. Public clauses do not name these.
use Rattle.std.specs.Prelude.{◌≡◌, ℕ, ◌<◌, ◌≤◌, ◌^◌, ⊤, Bool, false, List, slice_get, Option, Some, None, option_map, Result, Ok, Err}
use Rattle.std.specs.declared.alloc.AllocError.{AllocError}
use Rattle.benc.specs.Device.{Broke, Sent, SinkSeen}
use Rattle.lines.specs.declared.out_fault.OutFault.{OutFault as SeedFault}
use Rattle.lines.specs.declared.out_fault.OutFault.TheVariants as fault
use Rattle.opening.specs.Description.{Description, FileEntry, TreeEntry}
use Rattle.partial_tree.specs.Grown.{GrownTree}
use Rattle.passes.specs.Held.{Answer, IsReadUpTo, content, failed, missing, unasked}
use Rattle.passes.specs.Passing.{Task, Want}
use Rattle.seeding.specs.Leaves.{FindsWholeTree}
use Rattle.seeding.specs.Seeding.{FillsLeaves, IsSmallFile}
use Rattle.session.specs.Session.{SessionSeen}

-- the session, and what its lines go to
abbrev pub SeedState : Type 0
SeedState = SessionSeen × SinkSeen

-- what is found of a file
abbrev pub SeedFound : Type 0
SeedFound = Result (Option GrownTree) AllocError

-- the tree with this number is that of the file, of its length, in range
pub record IsOwnTree (t : Description) (f : FileEntry) (n : ℕ) (e : TreeEntry) : Type 0 where
  pub number_is : f.tree ≡ Some n
  pub there : slice_get t.trees n ≡ Some e
  pub same : e.length ≡ f.length
  pub some : 0 < e.length
  pub small : e.length ≤ 2 ^ 46

-- an empty file has no tree, and is not opened
abbrev pub wanted_of : FileEntry → Option ℕ → Option Want
wanted_of f None = None
wanted_of f (Some n) = Some (record { path = f.path; most = f.length })

-- what is found of a path, for files of this tree
abbrev pub FindsAnswer : TreeEntry → Answer → SeedFound → Type 0
FindsAnswer e unasked found = found ≡ Ok None
FindsAnswer e missing found = found ≡ Ok None
FindsAnswer e failed found = found ≡ Ok None
FindsAnswer e (content bytes) found = FindsWholeTree e.length e.root bytes found

-- what is found of a file of tree n
pub record FindsIn (t : Description) (f : FileEntry) (n : ℕ) (a : Answer)
    (found : SeedFound) : Type 0
  where
    pub tree : TreeEntry
    pub own : IsOwnTree t f n tree
    pub finds : FindsAnswer tree a found

-- the same by the file's tree; of an empty file nothing is found
abbrev pub FindsByTree : Description → FileEntry → Option ℕ → Answer → SeedFound → Type 0
FindsByTree t f None a found = found ≡ Ok None
FindsByTree t f (Some n) a found = FindsIn t f n a found

-- the leaves that were found were filled in; there are none of an empty file
abbrev pub FillsByTree : SessionSeen → Option ℕ → Option GrownTree → Bool → SessionSeen → Type 0
FillsByTree K None grown seeded K' = (seeded ≡ false) × (K' ≡ K)
FillsByTree K (Some n) grown seeded K' =
    FillsLeaves K n (option_map (λ t. t.leaves) grown) seeded K'

-- a line went out, or broke off
abbrev pub SaysLine : SinkSeen → SinkSeen → Result (Unit {0}) SeedFault → List ℕ → Type 0
SaysLine o o' (Ok u) line = Sent o o' line
SaysLine o o' (Err fault.NoMemory) line = ⊥
SaysLine o o' (Err fault.Write) line = Broke o o' line

module _ (line : FileEntry → Bool → List ℕ) where
  -- how a session takes what was found of a file: its leaves are filled in, and its line is said;
  -- or memory was refused
  abbrev pub TakesFound : SeedState → FileEntry → SeedFound → Result (Unit {0}) SeedFault
      → SeedState
      → Type 0
  TakesFound k f (Ok grown) result k' = (seeded : Bool)
      × FillsByTree k.0 f.tree grown seeded k'.0 × SaysLine k.1 k'.1 result (line f seeded)
  TakesFound k f (Err refused) result k' = (result ≡ Err fault.NoMemory) × (k' ≡ k)

  -- the same by what came of looking at its path
  pub record TakesAnswer (k : SeedState) (f : FileEntry) (a : Answer)
      (result : Result (Unit {0}) SeedFault) (k' : SeedState) : Type 0 where
    pub found : SeedFound
    pub finds : FindsByTree k.0.torrent f f.tree a found
    pub takes : TakesFound k f found result k'

  -- each file that is not empty is opened, and read to its end, or to one byte past its length
  abbrev pub seed_task : Description → Task FileEntry SeedState SeedFound SeedFault
  seed_task t = record {
    items = t.files;
    wants = λ f. wanted_of f f.tree;
    reads = λ f. IsReadUpTo f.length;
    waits = IsSmallFile;
    holds = λ cutting. ⊤;
    is_hasty = false;
    finds = λ f. FindsByTree t f f.tree;
    is_ready = λ n k. k.0.torrent ≡ t;
    takes = TakesAnswer;
  }
