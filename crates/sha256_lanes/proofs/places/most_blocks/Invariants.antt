use Rattle.std.proofs.Common.{ℕ, ◌<◌, ◌≤◌, slice_index}
use Rattle.sha256_lanes.specs.Lanes.{padded_block_count}
use Rattle.sha256_lanes.proofs.places.most_blocks.Given as goal

abbrev pub invariant-sizes : goal.invariant-sizes
invariant-sizes l = (j : ℕ) → j < l.j → padded_block_count (slice_index l.sizes j) ≤ l.most
