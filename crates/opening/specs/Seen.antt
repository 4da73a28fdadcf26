-- Files, trees and the version 1 part without where they lie in memory.
use Rattle.std.specs.Prelude.{ℕ, List, Option, map, option_map}
use Rattle.opening.specs.Description.{Description, FileEntry, TreeEntry, Version1}
use Rattle.opening.specs.declared.torrent.File.{File}
use Rattle.opening.specs.declared.torrent.TreeInfo.{TreeInfo}
use Rattle.pieces.specs.declared.v1_feed.V1.{V1}

-- a file of a torrent, without where it lies in memory
abbrev pub file_entry : File → FileEntry
file_entry f = record {
  path = f.path;
  length = f.length;
  tree = f.tree;
  first_piece = f.first_piece;
}

-- a tree of a torrent, without where it lies in memory
abbrev pub tree_entry : TreeInfo → TreeEntry
tree_entry t = record { root = t.root; length = t.length; layer = t.layer.now }

-- the version 1 part of a torrent, without where it lies in memory
abbrev pub version1 : V1 → Version1
version1 v = record { pieces = v.pieces.now; total = v.total }

abbrev pub described : List ℕ → ℕ → List File → List TreeInfo → List ℕ → List ℕ → Option V1
    → Description
described name piece_length files trees info_hash_v2 info_hash_v1 v1 = record {
  name = name;
  piece_length = piece_length;
  files = map file_entry files;
  trees = map tree_entry trees;
  info_hash_v2 = info_hash_v2;
  info_hash_v1 = info_hash_v1;
  v1 = option_map version1 v1;
}
