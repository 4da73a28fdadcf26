-- What a session knows at first.
use Rattle.std.specs.Prelude.{◌≡◌, ◌⊎◌, ℕ, ◌-◌, ◌<◌, ◌≤◌, Bool, true, false, List, length, slice_get, Some}
use Rattle.std.specs.FinSet as finite
use Rattle.hashtree.specs.Tree.{filled, node_over}
use Rattle.opening.specs.Description.{Description, TreeEntry}
use Rattle.opening.specs.PieceLayers.{piece_layer}
use Rattle.node_maps.specs.Digest.{Hash}
use Rattle.partial_tree.specs.TreeRoot.{TreeRoot}
use Rattle.node_maps.specs.Places.{tree_height, PartialTree, IsTreePlace}
use Rattle.node_maps.specs.Known.{look}
use Rattle.partial_tree.specs.Kept.{TreeState, KeptTree, IsGoodTree}
use Rattle.session.specs.Layouts.{SessionSeen, root_of_entry}

-- of a tree the root is known, and nothing else
pub record KnowsRoot (t : TreeRoot) (K : PartialTree) : Type 0 where
  pub root : K (tree_height t.length) 0 ≡ Some t.root
  pub no_more : (l i : ℕ) (v : Hash) → K l i ≡ Some v → (l ≡ tree_height t.length) × (i ≡ 0)

-- of a tree the nodes of a layer are known, pads among them, and those above it, and nothing else
pub record KnowsFrom (t : TreeRoot) (layer : ℕ) (hashes : List Hash) (K : PartialTree)
    : Type 0 where
  pub nodes : (l i : ℕ) → layer ≤ l → IsTreePlace (tree_height t.length) l i
      → K l i ≡ Some (node_over (filled (tree_height t.length) layer hashes) (l - layer) i)
  pub no_more : (l i : ℕ) (v : Hash) → K l i ≡ Some v → (layer ≤ l)
      × IsTreePlace (tree_height t.length) l i

-- what a session knows of a tree at first: the root, and with layers, of files that are longer than
-- a piece, the nodes from the piece layer up (BEP 52, "piece layers")
pub record IsFirstKnown (piece_length : ℕ) (with_layers : Bool) (e : TreeEntry) (K : PartialTree)
    : Type 0 where
  pub root_alone : (with_layers ≡ false) ⊎ (e.length ≤ piece_length) → KnowsRoot (root_of_entry e) K
  pub layers : with_layers ≡ true → piece_length < e.length
      → KnowsFrom (root_of_entry e) (piece_layer piece_length) e.layer K

-- a session of this torrent at first: so much is known of each tree, no leaf is marked, and no ask
-- is open
pub record IsFresh (d : Description) (with_layers : Bool) (S : SessionSeen) : Type 0 where
  pub torrent : S.torrent ≡ d
  pub count : length S.trees ≡ length d.trees
  pub known : (n : ℕ) (e : TreeEntry) (s : TreeState) → slice_get d.trees n ≡ Some e
      → slice_get S.trees n ≡ Some s → IsFirstKnown d.piece_length with_layers e (look s.known)
  pub marked : (n : ℕ) (s : TreeState) → slice_get S.trees n ≡ Some s → s.marked ≡ finite.empty
  pub asks : S.asks ≡ finite.empty

-- a good tree of which so much is known, and no leaf is marked
pub record IsPlanted (piece_length : ℕ) (with_layers : Bool) (e : TreeEntry) (t : KeptTree)
    : Type 0 where
  pub root_is : t.root ≡ e.root
  pub length_is : t.length ≡ e.length
  pub good : IsGoodTree t
  pub known : IsFirstKnown piece_length with_layers e (look t.state.known)
  pub marked : t.state.marked ≡ finite.empty
