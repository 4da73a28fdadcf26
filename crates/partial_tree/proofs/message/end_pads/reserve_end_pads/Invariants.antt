use Rattle.std.proofs.Common.{◌≡◌, ℕ, ◌<◌}
use Rattle.node_maps.specs.Places.{IsKnown}
use Rattle.node_maps.specs.Room.{KeepsRoom}
use Rattle.partial_tree.specs.EndPads.{end_pads}
use Rattle.partial_tree.proofs.message.end_pads.reserve_end_pads.Given as goal

-- the pads of the layers so far have room
abbrev pub invariant-layers : goal.invariant-layers
invariant-layers g l =
    let M = g.N.NodeMap in
    record {
      seen : M.seen l.map ≡ M.seen l.initial.map;
      keeps : KeepsRoom (M.has_room l.initial.map) (M.has_room l.map);
      room : (k i : ℕ) → IsKnown (end_pads l.initial.shape) k i → k < l.layer → M.has_room l.map k i;
    }
