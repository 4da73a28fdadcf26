use Rattle.std.proofs.Common.{ℕ, ◌*◌, ◌<◌, ◌≤◌, slice_index}
use Rattle.sha256_lanes.proofs.places.fewest_whole_blocks.Given as goal

abbrev pub invariant-sizes : goal.invariant-sizes
invariant-sizes l = (j : ℕ) → j < l.j → 64 * l.least ≤ slice_index l.sizes j
