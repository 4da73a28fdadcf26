use Rattle.std.proofs.Common.{◌≡◌, ℕ, ◌+◌, ◌<◌, [], Some, length, slice_index_or}
use Rattle.node_maps.specs.Known.{look}
use Rattle.partial_tree.proofs.growing.adding.known_row.Given as goal

-- the hashes of the places so far
abbrev pub invariant-places : goal.invariant-places
invariant-places g l = record {
  size : length l.hashes ≡ 8;
  known : (j : ℕ) → j < l.j → look (g.N.NodeMap.seen l.map).known l.layer (l.from + j) ≡ Some (slice_index_or l.hashes j []);
}
