-- What a torrent is, without where it lies in memory.
use Rattle.std.specs.Prelude.{ℕ, List, Option}

-- a file: the components of its path, its length, the number of its tree, and the piece at which it
-- begins
pub record FileEntry : Type 0 where
  pub path : List (List ℕ)
  pub length : ℕ
  pub tree : Option ℕ
  pub first_piece : ℕ

-- a tree: its root, the length of its files, and its piece layer without pads
pub record TreeEntry : Type 0 where
  pub root : List ℕ
  pub length : ℕ
  pub layer : List (List ℕ)

-- the version 1 part of a hybrid: the digests of the stream's cuts, and the stream's length
pub record Version1 : Type 0 where
  pub pieces : List (List ℕ)
  pub total : ℕ

pub record Description : Type 0 where
  pub name : List ℕ
  pub piece_length : ℕ
  pub files : List FileEntry
  pub trees : List TreeEntry
  pub info_hash_v2 : List ℕ
  pub info_hash_v1 : List ℕ
  pub v1 : Option Version1
