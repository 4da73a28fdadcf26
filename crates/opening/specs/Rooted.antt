-- Files and the roots found so far. Public clauses do not name these.
use Rattle.std.specs.Prelude.{◌≡◌, ◌≢◌, ◌⊎◌, ◌<◌, ◌^◌, ℕ, List, None, Some, slice_get}
use Rattle.std.specs.BTreeMap.{BTreeMap, get}
use Rattle.std.specs.Cmp.Lexicographic.{slice_cmp}
use Rattle.std.specs.Ordering.{nat_cmp}
use Rattle.filetree.specs.declared.files.ListedFile.{ListedFile}
use Rattle.filetree.specs.declared.refusal.Refusal.{Refusal}
use Rattle.filetree.specs.declared.refusal.Refusal.TheVariants as refusals
pub use Rattle.opening.specs.Trees.{entries_from}
use Rattle.opening.specs.Trees.{IsIn, place_in, roots_in, pieces_in}
use Rattle.opening.specs.declared.roots.Root.{Root}

-- the number of each root is its place in the list, and no others are kept
abbrev pub AreNumbers : BTreeMap (List ℕ) ℕ → List Root → Type 0
AreNumbers numbers ts = (s : List ℕ) → get (slice_cmp nat_cmp) numbers s ≡ place_in ts s

-- a root stands at this place, with a length
pub record IsRootAt (ts : List Root) (s : List ℕ) (length : ℕ) : Type 0 where
  pub number : ℕ
  pub at : Root
  pub place : place_in ts s ≡ Some number
  pub there : slice_get ts number ≡ Some at
  pub same : at.length ≡ length

-- a root stands in the list, with another length
pub record IsOtherLength (ts : List Root) (s : List ℕ) (length : ℕ) : Type 0 where
  pub number : ℕ
  pub at : Root
  pub place : place_in ts s ≡ Some number
  pub there : slice_get ts number ≡ Some at
  pub differs : at.length ≢ length

-- why a root was not added: it is there with another length, or there is no memory for a new one
abbrev pub IsRootRefused : List Root → List ℕ → ℕ → Refusal → Type 0
IsRootRefused ts s length r =
    ((r ≡ refusals.RootReused) × IsOtherLength ts s length)
    ⊎ ((r ≡ refusals.NoMemory) × (place_in ts s ≡ None))

-- the roots are those of the files, each with its files' length
pub record AreRoots (fs : List ListedFile) (ts : List Root) : Type 0 where
  pub roots : ts ≡ roots_in fs
  pub each : (f : ListedFile) (s : List ℕ) → IsIn fs f → f.root ≡ Some s → IsRootAt ts s f.length
  pub used : (n : ℕ) (t : Root) → slice_get ts n ≡ Some t
      → (f : ListedFile) × IsIn fs f × (f.root ≡ Some t.root) × (f.length ≡ t.length)

-- what stands once the files were counted
pub record AreTrees (piece_length : ℕ) (fs : List ListedFile) (ts : List Root) : Type 0 where
  pub roots : AreRoots fs ts
  pub pieces : pieces_in piece_length fs < 2 ^ 32
