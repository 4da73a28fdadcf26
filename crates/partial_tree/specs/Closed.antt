-- Closed partial trees: each known node stands with its sibling and its parent, up to the root.
use Rattle.std.specs.Prelude.{◌≡◌, ◌≢◌, ℕ, suc, ◌+◌, ◌*◌, ◌/◌, ◌^◌, ◌<◌, ◌≤◌, List, ◌++◌, length, Some}
use Rattle.sha2.specs.Sha256.{sha256}
use Rattle.partial_tree.specs.TreeRoot.{TreeRoot}
use Rattle.node_maps.specs.Places.{PartialTree, IsTreePlace, tree_height}
use Rattle.node_maps.specs.Digest.{Hash, IsHash, join}
use Rattle.node_maps.specs.Known.{within}
use Rattle.hashtree.specs.Tree.{block, block_count, node, zero_hash}

-- what is known in K is known in L
abbrev pub Keeps : PartialTree → PartialTree → Type 0
Keeps K L = (l i : ℕ) (v : Hash) → K l i ≡ Some v → L l i ≡ Some v

-- the whole tree of a file
abbrev pub whole : List ℕ → PartialTree
whole f = within (tree_height (length f)) (λ l i. Some (node f l i))

-- the place (l + 1, j) and its two children are known, and its value is the join of theirs
pub record IsFamily (K : PartialTree) (l j : ℕ) : Type 0 where
  pub left : Hash
  pub right : Hash
  pub left_known : K l (2 * j) ≡ Some left
  pub right_known : K l (2 * j + 1) ≡ Some right
  pub parent_known : K (suc l) j ≡ Some (join left right)

-- a partial tree of t, in which each place below the root stands with its sibling and its parent
pub record IsClosed (t : TreeRoot) (K : PartialTree) : Type 0 where
  pub root_known : K (tree_height t.length) 0 ≡ Some t.root
  pub in_tree : (l i : ℕ) (v : Hash) → K l i ≡ Some v → IsTreePlace (tree_height t.length) l i
  pub hashes : (l i : ℕ) (v : Hash) → K l i ≡ Some v → IsHash v
  pub families : (l i : ℕ) (v : Hash) → K l i ≡ Some v → l < tree_height t.length
      → IsFamily K l (i / 2)
  pub pads : (l i : ℕ) (v : Hash) → K l i ≡ Some v → block_count t.length ≤ i * 2 ^ l
      → v ≡ zero_hash l

-- two different inputs with one SHA-256 digest: at one place, what the two children are in J and in
-- K
pub record Collision (J K : PartialTree) : Type 0 where
  pub layer : ℕ
  pub index : ℕ
  pub J_left : Hash
  pub J_right : Hash
  pub K_left : Hash
  pub K_right : Hash
  pub J_left_known : J layer (2 * index) ≡ Some J_left
  pub J_right_known : J layer (2 * index + 1) ≡ Some J_right
  pub K_left_known : K layer (2 * index) ≡ Some K_left
  pub K_right_known : K layer (2 * index + 1) ≡ Some K_right
  pub differ : J_left ++ J_right ≢ K_left ++ K_right
  pub one_digest : join J_left J_right ≡ join K_left K_right

-- two different inputs with one SHA-256 digest: these bytes, and block b of f
pub record BlockCollision (f : List ℕ) (b : ℕ) (bytes : List ℕ) : Type 0 where
  pub differ : bytes ≢ block f b
  pub one_digest : sha256 bytes ≡ sha256 (block f b)
