-- What a test sees of a shelf in memory, and what each call makes of it.
use Rattle.std.specs.Prelude.{◌≡◌, ◌≢◌, ℕ, List, map, Bool, Option, Some, None, Result, Ok, Err, String}
use Rattle.std.specs.Global.{Global, Vec}
use Rattle.benc.specs.Calls.{after_call}
use Rattle.benc.specs.Device.{one_more}
use Rattle.benc.specs.MemDevices.{bytes_left, most_given, source_calls}
use Rattle.benc.specs.declared.device.DeviceFault.{DeviceFault}
use Rattle.benc.specs.declared.memory.source.MemSource.{MemSource}
use Rattle.folders.specs.MemShelf.{content_under, first_with, listing_of}
use Rattle.folders.specs.Shelf.{CountsListing, IsListed, ShelfContents, more}
use Rattle.folders.specs.declared.memory.file.MemFile.{MemFile}
use Rattle.folders.specs.declared.memory.shelf.MemShelf.{MemShelf}
use Rattle.folders.specs.declared.shelf_fault.ShelfFault.{ShelfFault}
use Rattle.folders.specs.declared.shelf_fault.ShelfFault.TheVariants as fault

-- its files, odd names and special files; how many bytes a read of a file gives at most; how many
-- calls succeed before the one that is to fail; and how many faults and openings it counted
pub record MemShelfSeen : Type 0 where
  pub files : List MemFile
  pub has_odd_name : Bool
  pub specials : List (List (List ℕ))
  pub at_most : ℕ
  pub before_fault : Option ℕ
  pub faults : ℕ
  pub openings : ℕ

-- a shelf in memory as a test sees it
abbrev pub seen_of : MemShelf → MemShelfSeen
seen_of s = record {
  files = s.files.now;
  has_odd_name = s.has_odd_name;
  specials = map (λ p. map (λ c. c.now) p.now) s.specials.now;
  at_most = s.at_most;
  before_fault = s.calls.before_fault;
  faults = s.calls.faults;
  openings = s.opened;
}

-- what stands on it, all of which is known
abbrev pub shelf_contents_of : MemShelfSeen → ShelfContents
shelf_contents_of s = record {
  under = λ p. Some (content_under s.files p);
  listing = Some (listing_of s.files s.has_odd_name s.specials);
}

-- a source gives a file's bytes, at most this many per read, and fails at the call at which the
-- file is to
pub record IsSourceOf (file : MemFile) (at_most : ℕ) (source : MemSource) : Type 0 where
  pub bytes : bytes_left source ≡ file.content.now
  pub bound : most_given source ≡ at_most
  pub fails : (source_calls source).before_fault ≡ file.before_fault
  pub faults : (source_calls source).faults ≡ 0

-- this file was opened, or nothing is there
abbrev pub IsOpenedAs : Option MemFile → ℕ → Option MemSource → Type 0
IsOpenedAs None at_most found = found ≡ None
IsOpenedAs (Some file) at_most found =
    (source : MemSource) × (found ≡ Some source) × IsSourceOf file at_most source

-- an opening fails exactly in its turn, else it opens the first file with the path; it counts, and
-- all else stays
abbrev pub OpensFile : MemShelfSeen → List (List ℕ) → Result (Option MemSource) DeviceFault
    → MemShelfSeen → Type 0
OpensFile s path (Ok found) s' =
    (s.before_fault ≢ Some 0) × IsOpenedAs (first_with path s.files) s.at_most found
    × (s' ≡ record s { before_fault = after_call s.before_fault; openings = one_more s.openings })
OpensFile s path (Err e) s' =
    (s.before_fault ≡ Some 0)
    × (s' ≡ record s {
      before_fault = None;
      openings = one_more s.openings;
      faults = one_more s.faults;
    })

-- a file that is handed back adds its faults
abbrev pub Closes : MemShelfSeen → MemSource → MemShelfSeen → Type 0
Closes s file s' = s' ≡ record s { faults = more s.faults (source_calls file).faults }

-- a listing fails exactly in its turn
abbrev pub ListsInTurn : Option ℕ → Result (Vec (Vec (String Global))) ShelfFault → Type 0
ListsInTurn turn (Ok paths) = turn ≢ Some 0
ListsInTurn turn (Err fault.Device) = turn ≡ Some 0
ListsInTurn turn (Err fault.Name) = turn ≢ Some 0
ListsInTurn turn (Err (fault.Special path)) = turn ≢ Some 0
ListsInTurn turn (Err fault.NoMemory) = turn ≢ Some 0

-- a listing fails exactly in its turn, and else lists what stands there; it takes a turn, its fault
-- is counted, and all else stays
pub record Lists (s : MemShelfSeen) (answer : Result (Vec (Vec (String Global))) ShelfFault)
    (s' : MemShelfSeen) : Type 0 where
  pub fails : ListsInTurn s.before_fault answer
  pub listed : IsListed (shelf_contents_of s).listing answer
  pub counts : CountsListing s.faults s'.faults answer
  pub stays : s' ≡ record s { before_fault = after_call s.before_fault; faults = s'.faults }
