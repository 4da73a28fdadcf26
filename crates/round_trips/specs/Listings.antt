-- The listings of one shelf.
use Rattle.std.specs.Prelude.{◌≡◌, ℕ, List, Some}
use Rattle.folders.specs.Shelf.{Listing}
use Rattle.gathering.specs.Gathering.{IsSortedListing}

-- of a shelf of which it is known what it lists there is one list of its paths in the order of the
-- file tree: that which `gather` reads, and that which is hashed in parts
abbrev pub SortedListingsAreOne : Type 0
SortedListingsAreOne = (there : Listing) (ps qs : List (List (List ℕ)))
    → IsSortedListing (Some there) ps → IsSortedListing (Some there) qs → ps ≡ qs
