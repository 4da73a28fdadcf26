use Rattle.std.proofs.Common.{◌≡◌, ℕ, ◌+◌, ◌-◌, ◌<◌, ◌≤◌}
use Rattle.node_maps.specs.Places.{IsKnown}
use Rattle.partial_tree.specs.Evidence.{claimed_by}
use Rattle.partial_tree.specs.MessagePages.{pages_of_layers}
use Rattle.partial_tree.proofs.message.storing.reserve_claimed.Given as goal

-- the claims of the layers so far have room
abbrev pub invariant-rows : goal.invariant-rows
invariant-rows g l =
    let M = g.N.NodeMap in
    record {
      seen : M.seen l.map ≡ M.seen l.initial.map;
      few : M.held l.map ≤ M.held l.initial.map + pages_of_layers l.initial.evidence.base l.initial.evidence.index l.initial.evidence.span
          (l.below - l.initial.evidence.base);
      room : (k i : ℕ) → IsKnown (claimed_by l.initial.evidence) k i → k < l.below → M.has_room l.map k i;
    }
