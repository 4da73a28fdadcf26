-- What stands on a shelf of files, as far as it is known.
use Rattle.std.specs.Prelude.{◌≡◌, ℕ, zero, suc, List, [], map, Bool, true, false, if◌then◌else◌, count_by, Option, Some, None, option_map, Result, Ok, Err}
use Rattle.std.specs.Prelude.{String, string_bytes, ⊤}
use Rattle.std.specs.Global.{Global, Vec}
use Rattle.std.specs.List.{list_any}
use Rattle.std.specs.Str.{bytes_eq}
use Rattle.std.specs.Cmp.Lexicographic.{pointwise}
use Rattle.benc.specs.Device.{one_more}
use Rattle.folders.specs.declared.shelf_fault.ShelfFault.{ShelfFault}
use Rattle.folders.specs.declared.shelf_fault.ShelfFault.TheVariants as fault

-- what stands below a folder: the paths of its files, whether some name is not UTF-8, and the paths
-- of what is neither a regular file nor a folder
pub record Listing : Type 0 where
  pub files : List (List (List ℕ))
  pub has_odd_name : Bool
  pub specials : List (List (List ℕ))

-- what stands on a shelf, as far as it is known: under each path nothing, or a file with these
-- bytes; and the listing
pub record ShelfContents : Type 0 where
  pub under : List (List ℕ) → Option (Option (List ℕ))
  pub listing : Option Listing

-- what is known of a shelf's paths: nothing, that no file is there, or a file's bytes
abbrev pub KnownPaths : Type 0
KnownPaths = List (List ℕ) → Option (Option (List ℕ))

-- `open` found this under a path of which this is known: nothing there, or a file's bytes
abbrev pub IsFound : Option (Option (List ℕ)) → Option (Option (List ℕ)) → Type 0
IsFound None found = ⊤
IsFound (Some there) found = found ≡ option_map Some there

-- a count of faults or calls, modulo 2 ^ 64, after n more
abbrev pub more : ℕ → ℕ → ℕ
more count zero = count
more count (suc n) = one_more (more count n)

-- the bytes of a path's components
abbrev pub path_bytes : Vec (String Global) → List (List ℕ)
path_bytes path = map string_bytes path.items

-- whether two paths are one
abbrev pub is_path : List (List ℕ) → List (List ℕ) → Bool
is_path = pointwise bytes_eq

-- each listed path stands once among these, in any order, and no other does
abbrev pub IsEachOnce : List (List (List ℕ)) → List (List (List ℕ)) → Type 0
IsEachOnce listed paths = (p : List (List ℕ))
    → count_by (is_path p) paths ≡ (if list_any (is_path p) listed then 1 else 0)

-- what was answered of a shelf on which this stands: each path once, if each name is UTF-8 and
-- all are regular files and folders, or what of these is not so
abbrev pub IsListingOf : Listing → Result (Vec (Vec (String Global))) ShelfFault → Type 0
IsListingOf there (Ok paths) =
    (there.has_odd_name ≡ false) × (there.specials ≡ [])
    × IsEachOnce there.files (map path_bytes paths.items)
IsListingOf there (Err fault.Device) = ⊤
IsListingOf there (Err fault.Name) = there.has_odd_name ≡ true
IsListingOf there (Err (fault.Special path)) =
    list_any (is_path (path_bytes path)) there.specials ≡ true
IsListingOf there (Err fault.NoMemory) = ⊤

-- what was answered of a shelf, if what stands on it is known
abbrev pub IsListed : Option Listing → Result (Vec (Vec (String Global))) ShelfFault → Type 0
IsListed None result = ⊤
IsListed (Some there) result = IsListingOf there result

-- a listing that the device failed in adds a fault, and no other does
abbrev pub CountsListing : ℕ → ℕ → Result (Vec (Vec (String Global))) ShelfFault → Type 0
CountsListing old new (Ok paths) = new ≡ old
CountsListing old new (Err fault.Device) = new ≡ one_more old
CountsListing old new (Err fault.Name) = new ≡ old
CountsListing old new (Err (fault.Special path)) = new ≡ old
CountsListing old new (Err fault.NoMemory) = new ≡ old
