-- The tests of a torrent file in the groups in which opening makes them, and what each group finds.
-- Public clauses do not name these.
use Rattle.std.specs.Prelude.{◌≡◌, ◌<◌, ◌^◌, ℕ, List, ◌++◌, map, Some, codes}
use Rattle.benc.specs.Value.{Bencode, Pairs, int}
use Rattle.benc.specs.View.{view, pairs_view}
use Rattle.filetree.specs.Dictionary.{get}
use Rattle.filetree.specs.declared.files.ListedFile.{ListedFile}
use Rattle.opening.specs.PieceLayers.{tree_at}
use Rattle.filetree.specs.Tests.{TestRow}
use Rattle.opening.specs.Refusals.{count_rows, file_tree_in, info_in, layer_rows, layers_in, name_in, number_in, piece_length_in}
use Rattle.opening.specs.Room.{HasExactRoom}
use Rattle.opening.specs.Rooted.{AreNumbers, AreRoots}
use Rattle.opening.specs.Trees.{entries_from}
use Rattle.opening.specs.Seen.{file_entry, tree_entry}
use Rattle.opening.specs.Steps.{pairs_seen}
use Rattle.opening.specs.Trees.{pieces_in, roots_in}
use Rattle.opening.specs.declared.info.Keys.{Keys}
use Rattle.opening.specs.declared.roots.Root.{Root}
use Rattle.opening.specs.declared.torrent.Contents.{Contents}

-- the tests of the files together, and of their layers
abbrev pub content_rows : ℕ → Pairs → List ListedFile → List TestRow
content_rows piece_length layers fs =
    count_rows piece_length fs ++ layer_rows piece_length layers (roots_in fs)

-- what the keys say
pub record AreKeys (v : Bencode) (k : Keys) : Type 0 where
  pub found : get (codes "info") v ≡ Some (view k.info.now)
  pub info : view k.info.now ≡ info_in v
  pub tree : pairs_view k.tree.now ≡ file_tree_in v
  pub name : k.name.now ≡ name_in v
  pub layers : pairs_seen k.layers ≡ layers_in v
  pub piece_length : number_in (int k.piece_length) ≡ piece_length_in v

-- the files and trees over these roots, and the numbers of the trees by their roots
pub record AreFilledIn (piece_length : ℕ) (layers : Pairs) (fs : List ListedFile) (ts : List Root)
    (c : Contents) : Type 0 where
  pub files : map file_entry c.files.items ≡ entries_from piece_length ts 0 fs
  pub trees : map tree_entry c.trees.items ≡ map (tree_at piece_length layers) ts
  pub numbers : AreNumbers c.numbers ts
  pub room : HasExactRoom c.files × HasExactRoom c.trees

-- the same over the roots of the files
pub record AreContents (piece_length : ℕ) (layers : Pairs) (fs : List ListedFile) (c : Contents)
    : Type 0 where
  pub files : map file_entry c.files.items ≡ entries_from piece_length (roots_in fs) 0 fs
  pub trees : map tree_entry c.trees.items ≡ map (tree_at piece_length layers) (roots_in fs)
  pub numbers : AreNumbers c.numbers (roots_in fs)
  pub roots : AreRoots fs (roots_in fs)
  pub pieces : pieces_in piece_length fs < 2 ^ 32
  pub room : HasExactRoom c.files × HasExactRoom c.trees
