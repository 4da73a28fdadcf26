-- The tree that a block of a file is in.
use Rattle.std.specs.Prelude.{◌≡◌, ◌<◌, ℕ, length, slice_get, Some}
use Rattle.hashtree.specs.Tree.{block_count}
use Rattle.opening.specs.Description.{FileEntry}
use Rattle.opening.specs.Places.{IsBlockPlace, place_of}
use Rattle.opening.specs.Sound.{IsSound}
use Rattle.partial_tree.specs.TreeRoot.{TreeRoot}
use Rattle.session.specs.Layouts.{tree_of}
use Rattle.session.specs.Session.{SessionSeen, IsTree, TreeState}

-- the torrent is sound, its file has this block, and this is the number of the file's tree
pub record HasBlockTree (S : SessionSeen) (file b number : ℕ) : Type 0 where
  pub sound : IsSound S.torrent
  pub entry : FileEntry
  pub there : slice_get S.torrent.files file ≡ Some entry
  pub low : b < block_count entry.length
  pub tree : TreeRoot
  pub state : TreeState
  pub of_file : tree_of S file ≡ Some number
  pub is_tree : IsTree S number tree state
  pub same_length : tree.length ≡ entry.length
  pub within : number < length S.torrent.trees

-- this block of a file begins at the place of a message
pub record HasBlockAt (S : SessionSeen) (index begin file b : ℕ) : Type 0 where
  pub place : IsBlockPlace S.torrent index begin file b
  pub at : place_of S.torrent index begin ≡ Some (file, b)
  pub number : ℕ
  pub in_tree : HasBlockTree S file b number
