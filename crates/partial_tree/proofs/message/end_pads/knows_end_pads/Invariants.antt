use Rattle.std.proofs.Common.{◌≡◌, ℕ, ◌<◌, Some}
use Rattle.node_maps.specs.Digest.{Hash}
use Rattle.node_maps.specs.Known.{look}
use Rattle.node_maps.specs.Places.{IsKnown}
use Rattle.partial_tree.specs.EndPads.{end_pads}
use Rattle.partial_tree.proofs.message.end_pads.knows_end_pads.Given as goal

-- the pads of the layers so far are known
abbrev pub invariant-layers : goal.invariant-layers
invariant-layers g l = (k i : ℕ) (v : Hash) → end_pads l.initial.shape k i ≡ Some v → k < l.layer
    → IsKnown (look (g.N.NodeMap.seen l.initial.map).known) k i
