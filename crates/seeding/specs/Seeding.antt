-- What seeding a session from a shelf does: to each file of its torrent once, in order. `shelf`
-- stands for what the shelf's type says of its shelves, and `seen` for what its files say.
use Rattle.std.specs.Prelude.{◌≡◌, ◌≢◌, ◌⊎◌, ℕ, ◌+◌, ◌<◌, ◌≤◌, ◌++◌, Bool, true, false, List, [], ◌∷◌, length, take, drop, slice_get}
use Rattle.std.specs.Prelude.{Option, Some, None, is_some, Result, Ok, Err}
use Rattle.benc.specs.Device.{SourceSeen, SinkSeen, Sent, Broke, SentAndFlushed}
use Rattle.benc.specs.declared.device.DeviceFault.{DeviceFault}
use Rattle.chains.specs.Chain.{Chain}
use Rattle.hashtree.specs.Tree.{Fits, layer_of}
use Rattle.printing.specs.Cut.{Unflushed}
use Rattle.lines.specs.Rows.{Row, Spelling}
use Rattle.lines.specs.Table.{not_seeded_row, seeded_row}
use Rattle.lines.specs.Texts.{text_of}
use Rattle.opening.specs.Description.{FileEntry, TreeEntry}
use Rattle.node_maps.specs.Digest.{Hash}
use Rattle.folders.specs.Shelf.{more}
use Rattle.folders.specs.Verdicts.{Agrees}
use Rattle.folders.specs.Visits.{Opened}
use Rattle.folders.specs.declared.shelf.Shelf.{Ghosts}
use Rattle.partial_tree.specs.declared.refusal.HashRefusal.{HashRefusal}
use Rattle.partial_tree.specs.declared.refusal.HashRefusal.TheVariants.{NoMemory}
use Rattle.session.specs.Session.{IsFilled, IsFillRefused, SessionSeen}
use Rattle.seeding.specs.Leaves.{IsReadToSeed}
use Rattle.lines.specs.declared.out_fault.OutFault.{OutFault as SeedFault}
use Rattle.lines.specs.declared.out_fault.OutFault.TheVariants as fault

-- ---- the shelf

-- what stands at a path does not fit the tree: nothing, or other bytes
abbrev pub DoesNotFit : TreeEntry → Option (List ℕ) → Type 0
DoesNotFit e content = (bytes : List ℕ) → content ≡ Some bytes → ¬ Fits bytes e.length e.root

-- What was found at a path of which this is known, with this many faults: the leaves of a
-- content that fits the tree; or a content that does not, or a fault.
abbrev pub FindsLeaves : Option (Option (List ℕ)) → TreeEntry → Option (List Hash) → ℕ → Type 0
FindsLeaves known e (Some leaves) faults =
    (faults ≡ 0) × (bytes : List ℕ) × Agrees known (Some bytes)
    × Fits bytes e.length e.root × (leaves ≡ layer_of bytes 0)
FindsLeaves known e None faults = (faults ≡ 1)
    ⊎ ((faults ≡ 0) × (content : Option (List ℕ)) × Agrees known content × DoesNotFit e content)

-- this is no content of that length
abbrev pub IsNotOfLength : ℕ → Option (List ℕ) → Type 0
IsNotOfLength len content = (bytes : List ℕ) → content ≡ Some bytes → length bytes ≢ len

-- What was found at a path of which this is known, with this many faults: a content of the stated
-- length; or another content or none, or a fault.
abbrev pub FindsContent : Option (Option (List ℕ)) → ℕ → Option (List ℕ) → ℕ → Type 0
FindsContent known len (Some bytes) faults =
    (faults ≡ 0) × Agrees known (Some bytes) × (length bytes ≡ len)
FindsContent known len None faults = (faults ≡ 1)
    ⊎ ((faults ≡ 0) × (content : Option (List ℕ)) × Agrees known content
    × IsNotOfLength len content)

-- what stands at a path of which this is known fits the tree
abbrev pub HasFitting : Option (Option (List ℕ)) → TreeEntry → Type 0
HasFitting known e = (bytes : List ℕ) × Agrees known (Some bytes) × Fits bytes e.length e.root

-- ---- the session

-- The leaves of tree n were filled in, or they were refused, and not out of memory; a file whose
-- leaves were not found is not seeded.
abbrev pub FillsLeaves : SessionSeen → ℕ → Option (List Hash) → Bool → SessionSeen → Type 0
FillsLeaves S n (Some leaves) true S' = (count : ℕ) × IsFilled S n 0 leaves count S'
FillsLeaves S n (Some leaves) false S' =
    (r : HashRefusal) × (r ≢ NoMemory) × IsFillRefused S n 0 leaves r × (S' ≡ S)
FillsLeaves S n None seeded S' = (seeded ≡ false) × (S' ≡ S)

-- ---- lines

-- the line of a file
abbrev pub seed_row : FileEntry → Bool → Row
seed_row f true = seeded_row f.path
seed_row f false = not_seeded_row f.path

-- the line of a file, spelled so
abbrev pub seed_line_as : Spelling → FileEntry → Bool → List ℕ
seed_line_as spelled f seeded = spelled (seed_row f seeded)

-- the lines of files, by whether each was seeded; `line` is that of a file
abbrev pub seed_lines : (FileEntry → Bool → List ℕ) → List FileEntry → List Bool → List ℕ
seed_lines line [] seeded = []
seed_lines line (f ∷ fs) [] = []
seed_lines line (f ∷ fs) (this ∷ seeded) = line f this ++ seed_lines line fs seeded

-- a file is small: it has at most eight blocks
abbrev pub IsSmallFile : FileEntry → Type 0
IsSmallFile f = f.length ≤ 131072

-- a shelf and a session
abbrev pub shelf_and_session : {S : Type 0} → S → SessionSeen → S × SessionSeen
shelf_and_session s K = (s, K)

module _ {S F : Type 0} (shelf : Ghosts S F) (seen : F → SourceSeen) where
  -- ---- one file

  -- a path was opened once, what was opened was read so far, and handed back
  pub record OpensToSeed (s : S) (path : List (List ℕ)) (len : ℕ) (fits : Bool) (s' : S) : Type 0
    where
      pub answer : Result (Option F) DeviceFault
      pub opened : Opened shelf seen (IsReadToSeed len fits) s path answer s'

  -- a file of tree n was looked for on the shelf, and its leaves were filled in if it is whole
  pub record SeedsTree (old : S × SessionSeen) (f : FileEntry) (n : ℕ) (seeded : Bool)
      (new : S × SessionSeen) : Type 0 where
    pub tree : TreeEntry
    pub tree_is : slice_get old.1.torrent.trees n ≡ Some tree
    pub found : Option (List Hash)
    pub visited : OpensToSeed old.0 f.path f.length (is_some found) new.0
    pub faults_in_it : ℕ
    pub counted : shelf.faults new.0 ≡ more (shelf.faults old.0) faults_in_it
    pub finds : FindsLeaves ((shelf.contents old.0).under f.path) tree found faults_in_it
    pub stays : shelf.contents new.0 ≡ shelf.contents old.0
    pub fills : FillsLeaves old.1 n found seeded new.1

  -- the same by the file's tree; an empty file has none: it is not seeded, and not opened
  abbrev pub SeedsFile : S × SessionSeen → FileEntry → Option ℕ → Bool → S × SessionSeen → Type 0
  SeedsFile old f None seeded new = (seeded ≡ false) × (new.0 ≡ old.0) × (new.1 ≡ old.1)
  SeedsFile old f (Some n) seeded new = SeedsTree old f n seeded new

  -- one file was seeded, or not
  abbrev pub SeedStep : S × SessionSeen → FileEntry → Bool → S × SessionSeen → Type 0
  SeedStep old f seeded new = SeedsFile old f f.tree seeded new

  -- memory was refused for the leaves of a file that is not empty, and fits its tree: it was handed
  -- back, and the session stays
  pub record StopsAtFile (old : S × SessionSeen) (f : FileEntry) (new : S × SessionSeen)
      : Type 0 where
    pub number : ℕ
    pub number_is : f.tree ≡ Some number
    pub tree : TreeEntry
    pub tree_is : slice_get old.1.torrent.trees number ≡ Some tree
    pub visited : OpensToSeed old.0 f.path f.length true new.0
    pub counted : shelf.faults new.0 ≡ shelf.faults old.0
    pub fits : HasFitting ((shelf.contents old.0).under f.path) tree
    pub stays : new.1 ≡ old.1

  -- ---- files that are read together

  -- A file was read before it was seeded from: a path was opened once, and what was opened was read
  -- and handed back. It has this content, of the stated length; or another or none, or a read or
  -- the opening failed.
  pub record LooksInto (s : S) (f : FileEntry) (content : Option (List ℕ)) (s' : S) : Type 0 where
    pub visited : OpensToSeed s f.path f.length (is_some content) s'
    pub faults_in_it : ℕ
    pub counted : shelf.faults s' ≡ more (shelf.faults s) faults_in_it
    pub finds : FindsContent ((shelf.contents s).under f.path) f.length content faults_in_it
    pub stays : shelf.contents s' ≡ shelf.contents s

  -- the same by the file's tree; an empty file has none, and is not opened
  abbrev pub LooksByTree : S → FileEntry → Option ℕ → Option (List ℕ) → S → Type 0
  LooksByTree s f None content s' = (content ≡ None) × (s' ≡ s)
  LooksByTree s f (Some n) content s' = LooksInto s f content s'

  -- the same of a small file
  pub record LooksAhead (s : S) (f : FileEntry) (content : Option (List ℕ)) (s' : S) : Type 0 where
    pub small : IsSmallFile f
    pub looks : LooksByTree s f f.tree content s'

  -- The files that are read together with this one, which has this number, were read too: small
  -- ones that come next, in order, if it is small itself. No other was.
  pub record LooksBehind (files : List FileEntry) (number : ℕ) (f : FileEntry) (s s' : S) : Type 0
    where
      pub contents : List (Option (List ℕ))
      pub few : length contents < 64
      pub small : (contents ≡ []) ⊎ IsSmallFile f
      pub run : Chain LooksAhead s (take (length contents) (drop (number + 1) files)) contents s'

  -- ---- all files

  -- each file was looked for, and these were seeded
  abbrev pub SeedsAll : S × SessionSeen → List FileEntry → List Bool → S × SessionSeen → Type 0
  SeedsAll old files seeded new = Chain SeedStep old files seeded new

  -- the lines of the files went out
  pub record SeedsWhole (line : FileEntry → Bool → List ℕ) (old new : S × SessionSeen)
      (report report' : SinkSeen) : Type 0 where
    pub each : List Bool
    pub run : SeedsAll old old.1.torrent.files each new
    pub sent : Sent report report' (seed_lines line old.1.torrent.files each)

  -- the lines of the files went out, with one flush
  pub record IsSeededAs (line : FileEntry → Bool → List ℕ) (old new : S × SessionSeen)
      (report report' : SinkSeen) : Type 0 where
    pub each : List Bool
    pub run : SeedsAll old old.1.torrent.files each new
    pub sent : SentAndFlushed report report' (seed_lines line old.1.torrent.files each)

  -- memory was refused for a file, after the lines of those before it; those that are read together
  -- with it were read too
  pub record IsOutOfMemory (line : FileEntry → Bool → List ℕ) (old new : S × SessionSeen)
      (report report' : SinkSeen) : Type 0 where
    pub each : List Bool
    pub count : ℕ
    pub file : FileEntry
    pub file_is : slice_get old.1.torrent.files count ≡ Some file
    pub mid : S × SessionSeen
    pub run : SeedsAll old (take count old.1.torrent.files) each mid
    pub after : S
    pub stops : StopsAtFile mid file (shelf_and_session after new.1)
    pub behind : LooksBehind old.1.torrent.files count file after new.0
    pub sent : Sent report report' (seed_lines line (take count old.1.torrent.files) each)

  -- the line of a file broke off, after those before it; those that are read together with it were
  -- read too, and the session was not given them
  pub record IsCutInSeedLine (line : FileEntry → Bool → List ℕ) (old new : S × SessionSeen)
      (report report' : SinkSeen) : Type 0 where
    pub each : List Bool
    pub count : ℕ
    pub file : FileEntry
    pub file_is : slice_get old.1.torrent.files count ≡ Some file
    pub seeded : Bool
    pub between : S × SessionSeen
    pub run : SeedsAll old (take count old.1.torrent.files) each between
    pub after : S
    pub last : SeedStep between file seeded (shelf_and_session after new.1)
    pub behind : LooksBehind old.1.torrent.files count file after new.0
    pub mid : SinkSeen
    pub sent : Sent report mid (seed_lines line (take count old.1.torrent.files) each)
    pub broke : Broke mid report' (line file seeded)

  -- all lines went out, and the flush failed
  pub record IsCutInSeedFlush (line : FileEntry → Bool → List ℕ) (old new : S × SessionSeen)
      (report report' : SinkSeen) : Type 0 where
    pub each : List Bool
    pub run : SeedsAll old old.1.torrent.files each new
    pub sent : Unflushed (seed_lines line old.1.torrent.files each) report report'

  -- what `seed` has done before the flush, by its answer
  abbrev pub SeedsFiles : (FileEntry → Bool → List ℕ) → S × SessionSeen → S × SessionSeen
      → SinkSeen → SinkSeen → Result (Unit {0}) SeedFault → Type 0
  SeedsFiles line old new report report' (Ok u) = SeedsWhole line old new report report'
  SeedsFiles line old new report report' (Err fault.NoMemory) =
      IsOutOfMemory line old new report report'
  SeedsFiles line old new report report' (Err fault.Write) =
      IsCutInSeedLine line old new report report'

  -- what seeding in these lines did, by its answer
  abbrev pub SeedsAs : (FileEntry → Bool → List ℕ) → S × SessionSeen → S × SessionSeen
      → SinkSeen → SinkSeen → Result (Unit {0}) SeedFault → Type 0
  SeedsAs line old new report report' (Ok u) = IsSeededAs line old new report report'
  SeedsAs line old new report report' (Err fault.NoMemory) =
      IsOutOfMemory line old new report report'
  SeedsAs line old new report report' (Err fault.Write) =
      IsCutInSeedLine line old new report report' ⊎ IsCutInSeedFlush line old new report report'

  -- what `seed` did, by its answer
  abbrev pub Seeds : S × SessionSeen → S × SessionSeen → SinkSeen → SinkSeen
      → Result (Unit {0}) SeedFault → Type 0
  Seeds old new report report' r = SeedsAs (seed_line_as text_of) old new report report' r
