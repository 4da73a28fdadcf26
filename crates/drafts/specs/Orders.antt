-- Where a path belongs among paths in order (BEP 52, "file tree"). Public clauses do not name
-- these.
use Rattle.std.specs.Prelude.{◌≡◌, ℕ, List, take, drop, Some, slice_get}
use Rattle.std.specs.List.{AllByRecursion}
use Rattle.std.specs.declared.cmp.Ordering.TheVariants.{Less, Equal, Greater}
use Rattle.filetree.specs.Paths.{path_cmp}

-- the paths below a place are less than this one, those from it on are greater
pub record IsPlaceOf (p : List (List ℕ)) (ps : List (List (List ℕ))) (i : ℕ) : Type 0 where
  pub below : AllByRecursion (λ q. path_cmp q p ≡ Less) (take i ps)
  pub above : AllByRecursion (λ q. path_cmp q p ≡ Greater) (drop i ps)

-- a path of the list that ties with this one
pub record Ties (p : List (List ℕ)) (ps : List (List (List ℕ))) : Type 0 where
  pub number : ℕ
  pub other : List (List ℕ)
  pub there : slice_get ps number ≡ Some other
  pub tie : path_cmp other p ≡ Equal
