-- What callers see of a session over an opened torrent.
use Rattle.std.specs.Prelude.{◌≡◌, ◌<◌, ℕ, List, map, slice_get, Option, Some, None}
use Rattle.std.specs.List.{All}
use Rattle.hashtree.specs.Tree.{block_count}
use Rattle.opening.specs.Blocks.{IsBlockRun}
use Rattle.opening.specs.Description.{Description, FileEntry, TreeEntry}
use Rattle.partial_tree.specs.TreeRoot.{TreeRoot}
use Rattle.partial_tree.specs.Kept.{TreeState, KeptTree, info_of, IsGoodTree}
use Rattle.session.specs.Asks.{AskSet}

-- a tree's root and the length of its files
abbrev pub root_of_entry : TreeEntry → TreeRoot
root_of_entry e = record { root = e.root; length = e.length }

-- the number of a file's tree
abbrev pub tree_number : Option FileEntry → Option ℕ
tree_number None = None
tree_number (Some f) = f.tree

-- what callers see of a session: its torrent, what is known and marked of each tree, in the
-- torrent's order, and the open asks
pub record SessionSeen : Type 0 where
  pub torrent : Description
  pub trees : List TreeState
  pub asks : AskSet

-- the root of each tree, and the length of its files
abbrev pub roots : SessionSeen → List TreeRoot
roots S = map root_of_entry S.torrent.trees

-- the number of a file's tree
abbrev pub tree_of : SessionSeen → ℕ → Option ℕ
tree_of S file = tree_number (slice_get S.torrent.files file)

-- what is known and marked of a tree
abbrev pub state_of : KeptTree → TreeState
state_of t = t.state

-- what callers see of a session over these trees, while these asks are open
abbrev pub seen : Description → AskSet → List KeptTree → SessionSeen
seen d asks trees = record { torrent = d; trees = map state_of trees; asks = asks }

-- one good tree for each of the torrent's trees, in order
pub record AreKept (d : Description) (trees : List KeptTree) : Type 0 where
  pub same : map info_of trees ≡ map root_of_entry d.trees
  pub good : All IsGoodTree trees

-- the block is one of the files of tree n
abbrev pub IsBlockOf : Description → ℕ → ℕ → Type 0
IsBlockOf d n block = (e : TreeEntry) → slice_get d.trees n ≡ Some e → block < block_count e.length

-- the torrent's file has this block
abbrev pub HasBlock : Description → ℕ → ℕ → Type 0
HasBlock d file b =
    (f : FileEntry) × (slice_get d.files file ≡ Some f) × (b < block_count f.length)

-- this many bytes are k blocks of the torrent's file, from this block on
abbrev pub HasRun : Description → ℕ → ℕ → ℕ → ℕ → Type 0
HasRun d file b size k =
    (f : FileEntry) × (slice_get d.files file ≡ Some f) × IsBlockRun f.length b size k
