-- Which trees a torrent has, in the words of the standard (BEP 52, "pieces root"): the distinct
-- roots of its files that are not empty, in the order of first use.
use Rattle.std.specs.Prelude.{◌≡◌, ℕ, ◌<◌, List, None, Some, slice_get}
use Rattle.filetree.specs.declared.files.ListedFile.{ListedFile}
use Rattle.opening.specs.Description.{Description, FileEntry, TreeEntry}

-- a file before this one has this root
pub record IsUsedBefore (fs : List ListedFile) (number : ℕ) (root : List ℕ) : Type 0 where
  pub earlier : ℕ
  pub file : ListedFile
  pub before : earlier < number
  pub there : slice_get fs earlier ≡ Some file
  pub root_is : file.root ≡ Some root

-- tree n is that of the first file with its root, and has its length; all trees before it are used
-- before that file
pub record IsFirstUsed (fs : List ListedFile) (ts : List TreeEntry) (n : ℕ) (e : TreeEntry)
    : Type 0 where
  pub number : ℕ
  pub file : ListedFile
  pub there : slice_get fs number ≡ Some file
  pub root_is : file.root ≡ Some e.root
  pub length_is : file.length ≡ e.length
  pub first : IsUsedBefore fs number e.root → ⊥
  pub in_order : (m : ℕ) (earlier : TreeEntry) → m < n → slice_get ts m ≡ Some earlier
      → IsUsedBefore fs number earlier.root

-- file k of the torrent has a tree, of this root and length
pub record HasTreeOf (t : Description) (k : ℕ) (f : ListedFile) : Type 0 where
  pub file : FileEntry
  pub there : slice_get t.files k ≡ Some file
  pub number : ℕ
  pub numbered : file.tree ≡ Some number
  pub tree : TreeEntry
  pub is : slice_get t.trees number ≡ Some tree
  pub root_is : f.root ≡ Some tree.root
  pub length_is : f.length ≡ tree.length

-- file k of the torrent has no tree
pub record HasNoTree (t : Description) (k : ℕ) : Type 0 where
  pub file : FileEntry
  pub there : slice_get t.files k ≡ Some file
  pub none : file.tree ≡ None

-- the trees of a torrent with these files, and the tree of each file
pub record AreTreesOf (fs : List ListedFile) (t : Description) : Type 0 where
  pub distinct : (n m : ℕ) (a b : TreeEntry) → slice_get t.trees n ≡ Some a
      → slice_get t.trees m ≡ Some b → a.root ≡ b.root → n ≡ m
  pub used : (n : ℕ) (e : TreeEntry) → slice_get t.trees n ≡ Some e → IsFirstUsed fs t.trees n e
  pub some : (k : ℕ) (f : ListedFile) → slice_get fs k ≡ Some f → 0 < f.length → HasTreeOf t k f
  pub none : (k : ℕ) (f : ListedFile) → slice_get fs k ≡ Some f → f.length ≡ 0 → HasNoTree t k
