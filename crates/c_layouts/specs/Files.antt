-- What is laid out of a torrent's file.
use Rattle.std.specs.Prelude.{◌≡◌, ℕ, ◌-◌, ◌^◌, List, replicate, slice_get, Option, Some, None}
use Rattle.opening.specs.Description.{Description, FileEntry, TreeEntry}
use Rattle.c_layouts.specs.declared.file_info.FileInfo.{FileInfo}

-- the number of a file's tree, and its root; an empty file has none, for which it has the greatest
-- number and zeros
abbrev pub HasTree : Description → Option ℕ → ℕ → List ℕ → Type 0
HasTree d (Some n) tree root =
    (tree ≡ n) × ((e : TreeEntry) × (slice_get d.trees n ≡ Some e) × (root ≡ e.root))
HasTree d None tree root = (tree ≡ 2 ^ 64 - 1) × (root ≡ replicate 32 0)

-- file n, laid out for C
pub record IsFileInfo (d : Description) (n : ℕ) (out : FileInfo) : Type 0 where
  pub file : FileEntry
  pub file_is : slice_get d.files n ≡ Some file
  pub length_is : out.length ≡ file.length
  pub first_is : out.first_piece ≡ file.first_piece
  pub tree_is : HasTree d file.tree out.tree out.root
