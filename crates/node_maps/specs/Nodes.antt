-- What contracts see of the nodes of a tree, as one value.
use Rattle.std.specs.Prelude.{◌≡◌, ℕ}
use Rattle.std.specs.FinMap as map
use Rattle.std.specs.FinSet as set
use Rattle.node_maps.specs.Digest.{Hash}
use Rattle.node_maps.specs.Known.{Known, Marked}

-- the length of a tree's files, which fixes its places, the known places with their hashes, and the
-- marked leaves
pub record Nodes : Type 0 where
  pub length : ℕ
  pub known : Known
  pub marked : Marked

-- the nodes of a tree by their parts
abbrev pub nodes : ℕ → Known → Marked → Nodes
nodes length known marked = record { length = length; known = known; marked = marked }

-- nothing is known or marked of a tree of files of this length
abbrev pub no_nodes : ℕ → Nodes
no_nodes len = nodes len map.empty set.empty

-- with this hash at the place (layer, index)
abbrev pub with_node : Nodes → ℕ → ℕ → Hash → Nodes
with_node n layer index hash = nodes n.length (map.insert n.known (layer, index) hash) n.marked

-- with this leaf marked
abbrev pub with_mark : Nodes → ℕ → Nodes
with_mark n index = nodes n.length n.known (set.insert n.marked index)

-- with these leaves marked, and no other
abbrev pub with_marks : Nodes → Marked → Nodes
with_marks n marked = nodes n.length n.known marked

-- the files have the same length, and the same leaves are marked
pub record KeepsMarks (old new : Nodes) : Type 0 where
  pub length : new.length ≡ old.length
  pub marked : new.marked ≡ old.marked
