-- The order of paths in a file tree, and what leads to a file (BEP 52, "file tree"): the keys of a
-- directory ascend as bytes, so paths stand in the order of their lists of components.
use Rattle.std.specs.Prelude.{◌≡◌, ◌≢◌, ℕ, ◌<◌, ◌≤◌, false, List, [], ◌∷◌, ◌++◌, length, map, Some, slice_get}
use Rattle.std.specs.Cmp.Lexicographic.{slice_cmp}
use Rattle.std.specs.List.Sorted.{IsStrictlySortedBy}
use Rattle.std.specs.Ordering.{nat_cmp, ordering_then}
use Rattle.std.specs.declared.cmp.Ordering.{Ordering}
use Rattle.std.specs.declared.cmp.Ordering.TheVariants.{Less, Equal}
use Rattle.benc.specs.Text.{Fits}
use Rattle.benc.specs.Value.{Bencode, dict, Pairs}
use Rattle.filetree.specs.Dictionary.{under}
use Rattle.filetree.specs.FileTree.{IsBadComponent, Walk, is_nil}

-- a path is a prefix of another, or the other itself
abbrev pub IsPrefix : List (List ℕ) → List (List ℕ) → Type 0
IsPrefix p q = (rest : List (List ℕ)) × (q ≡ p ++ rest)

-- Two paths by the first component in which they differ; components are compared as bytes. If there
-- is none, one path is a prefix of the other, and no file tree has both.
abbrev pub path_cmp : List (List ℕ) → List (List ℕ) → Ordering
path_cmp [] q = Equal
path_cmp (k ∷ ks) [] = Equal
path_cmp (k ∷ ks) (l ∷ ls) = ordering_then (slice_cmp nat_cmp k l) (path_cmp ks ls)

-- paths ascend strictly, and none is a prefix of another
abbrev pub AreInOrder : List (List (List ℕ)) → Type 0
AreInOrder ps = IsStrictlySortedBy path_cmp ps

-- the path leads from the root of a file tree to a zero-length key, under which this value stands:
-- each component is a key of the directory reached so far, with a dictionary under it
abbrev pub LeadsToFile : Pairs → List (List ℕ) → Bencode → Type 0
LeadsToFile ps [] file = under [] ps ≡ Some file
LeadsToFile ps (k ∷ ks) file =
    (inner : Pairs) × (is_nil k ≡ false) × (under k ps ≡ Some (dict inner))
    × LeadsToFile inner ks file

-- these are all the walks of a file tree, each once and in order
pub record AreAllWalks (ps : Pairs) (ws : List Walk) : Type 0 where
  pub each : (n : ℕ) (w : Walk) → slice_get ws n ≡ Some w → LeadsToFile ps w.path w.file
  pub all : (path : List (List ℕ)) (file : Bencode) → LeadsToFile ps path file
      → (n : ℕ) × (slice_get ws n ≡ Some (record { path = path; file = file }))
  pub in_order : AreInOrder (map (λ (w : Walk). w.path) ws)

-- ---- the order of paths in the words of the standard

-- one path is below the other in the order of lists of components, and no prefix of it
pub record AreApart (p q : List (List ℕ)) : Type 0 where
  pub ascends : slice_cmp (slice_cmp nat_cmp) p q ≡ Less
  pub apart : IsPrefix p q → ⊥

-- of any two, the first is below the second and no prefix of it
abbrev pub ArePathsApart : List (List (List ℕ)) → Type 0
ArePathsApart ps = (i j : ℕ) (p q : List (List ℕ)) → i < j → slice_get ps i ≡ Some p
    → slice_get ps j ≡ Some q → AreApart p q

-- ---- paths that stay inside a folder

-- The pairs may be the file tree of a spelled torrent: it stands in the info dictionary, and that
-- in the top value, so that at most 126 of 128 lists and dictionaries are open at once in it.
abbrev pub FitsInTorrent : Pairs → Type 0
FitsInTorrent ps = Fits 126 (dict ps)

-- a component that a path may have
abbrev pub IsComponent : List ℕ → Type 0
IsComponent k = (is_nil k ≡ false) × (IsBadComponent k → ⊥)

-- A path that a file may have: one component at least, and 124 at most, since 128 lists and
-- dictionaries may be open at once; none is `.` or `..` or holds `/` or a zero byte. So it leads to
-- no place outside the folder in which it is looked up.
pub record IsFilePath (path : List (List ℕ)) : Type 0 where
  pub some : path ≢ []
  pub short : length path ≤ 124
  pub components : (n : ℕ) (k : List ℕ) → slice_get path n ≡ Some k → IsComponent k
