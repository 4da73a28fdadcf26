-- A shelf without the files that are left out: those that a glob matches, or a folder above them.
use Rattle.std.specs.Prelude.{◌≡◌, ℕ, Bool, not, List, filter, map, Option, option_map, Result, Ok, Err, String}
use Rattle.std.specs.Global.{Global, Vec}
use Rattle.globs.specs.Globs.{Whole, path_chars, some_leaves_out}
use Rattle.folders.specs.Shelf.{Listing, ShelfContents, path_bytes}
use Rattle.folders.specs.declared.shelf_fault.ShelfFault.{ShelfFault}
use Rattle.folders.specs.declared.shelf_fault.ShelfFault.TheVariants as fault

-- none of these globs leaves out a path
abbrev pub is_kept : List Whole → List (List ℕ) → Bool
is_kept globs path = not (some_leaves_out globs (path_chars path))

-- these paths without those that are left out, in the same order
abbrev pub paths_without : List Whole → List (List (List ℕ)) → List (List (List ℕ))
paths_without globs paths = filter (is_kept globs) paths

-- a listing without the files that are left out
abbrev pub listing_without : List Whole → Listing → Listing
listing_without globs there = record there { files = paths_without globs there.files }

-- what stands on a shelf, whose listing lacks the files that are left out
abbrev pub contents_without : List Whole → ShelfContents → ShelfContents
contents_without globs there = record {
  under = there.under;
  listing = option_map (listing_without globs) there.listing;
}

-- what is answered for the listing that the shelf inside answered: its paths without those that are
-- left out, unless memory was refused for that; or its fault
abbrev pub IsWithout : List Whole → Result (Vec (Vec (String Global))) ShelfFault
    → Result (Vec (Vec (String Global))) ShelfFault → Type 0
IsWithout globs (Ok found) (Ok paths) =
    map path_bytes paths.items ≡ paths_without globs (map path_bytes found.items)
IsWithout globs (Ok found) (Err f) = f ≡ fault.NoMemory
IsWithout globs (Err e) (Ok paths) = ⊥
IsWithout globs (Err e) (Err f) = f ≡ e

-- the shelf inside was listed, and its listing was answered without the files that are left out
abbrev pub ListsWithout : {S : Type 0}
    → (S → Result (Vec (Vec (String Global))) ShelfFault → S → Type 0)
    → List Whole → S → Result (Vec (Vec (String Global))) ShelfFault → S → Type 0
ListsWithout lists globs old answer new =
    (inner : Result (Vec (Vec (String Global))) ShelfFault) × lists old inner new
    × IsWithout globs inner answer
