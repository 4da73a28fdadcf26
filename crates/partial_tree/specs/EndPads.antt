-- The pads beside a file's end: those that lie in one aligned range of 512 places with the node
-- over the last block. A tree that has them and the leaves of all blocks can answer for each block.
use Rattle.std.specs.Prelude.{ℕ, ◌+◌, ◌-◌, ◌*◌, ◌/◌, ◌^◌, ◌<◌, ◌≤◌, ◌≡◌, min, Bool, nat_lt, ◌&&◌, if◌then◌else◌, Some, None}
use Rattle.wire.specs.declared.message.Ask.{Ask}
use Rattle.hashtree.specs.Tree.{block_count, zero_hash}
use Rattle.node_maps.specs.Digest.{Hash}
use Rattle.node_maps.specs.Places.{tree_height, PartialTree, IsKnown}
use Rattle.partial_tree.specs.Claims.{GoodRange}
use Rattle.partial_tree.specs.Gaps.{most_wanted}

-- the node over the last block, on a layer
abbrev pub last_node : ℕ → ℕ → ℕ
last_node len l = (block_count len - 1) / 2 ^ l

-- where the pads behind it end: with its range of 512 places, or with a layer that has fewer
abbrev pub pads_end : ℕ → ℕ → ℕ
pads_end len l =
    min ((last_node len l / most_wanted + 1) * most_wanted) (2 ^ (tree_height len - l))

-- the place is one of these pads, on a layer below the root's
abbrev pub is_end_pad : ℕ → ℕ → ℕ → Bool
is_end_pad len l i =
    nat_lt l (tree_height len) && (nat_lt (last_node len l) i && nat_lt i (pads_end len l))

-- the pads beside the end of a file of this length
abbrev pub end_pads : ℕ → PartialTree
end_pads len l i = (if is_end_pad len l i then Some (zero_hash l) else None)

-- these pads are known
abbrev pub AreEndPadsKnown : ℕ → PartialTree → Type 0
AreEndPadsKnown len K = (l i : ℕ) (v : Hash) → end_pads len l i ≡ Some v → IsKnown K l i

-- an ask for at most 512 hashes that the rules allow, and that has a node over a block in its range
pub record IsShortAsk (len : ℕ) (ask : Ask) : Type 0 where
  pub range : GoodRange (tree_height len) ask
  pub short : ask.length ≤ most_wanted
  pub some : ask.index * 2 ^ ask.base < block_count len
