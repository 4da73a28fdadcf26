use Rattle.std.proofs.Common.{◌≡◌, ℕ, ◌+◌, ◌*◌, ◌<◌, [], length, slice_index_or}
use Rattle.node_maps.specs.Digest.{join}
use Rattle.partial_tree.proofs.message.row.parents_of_row.Given as goal

-- the parents of the pairs so far
abbrev pub invariant-pairs : goal.invariant-pairs
invariant-pairs l = record {
  size : length l.above ≡ 8;
  joined : (j : ℕ) → j < l.j → slice_index_or l.above j []
      ≡ join (slice_index_or l.hashes (2 * j) []) (slice_index_or l.hashes (2 * j + 1) []);
}
