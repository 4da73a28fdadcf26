use Rattle.sha1_lanes.specs.declared.filled.TheConstants.{ROW}
use Rattle.std.proofs.Common.{◌≡◌, ℕ, ◌+◌, ◌*◌, ◌<◌, length, slice_index}
use Rattle.lanes.specs.Lanes.{bytes_at}
use Rattle.sha1_lanes.proofs.filled.take_mixed_blocks.Given as goal

abbrev pub invariant-places : goal.invariant-places
invariant-places l = (length l.row ≡ ROW)
    × ((j i : ℕ) → j < l.j → i < 64 → slice_index l.row (64 * j + i)
    ≡ slice_index (bytes_at l.buffer (slice_index l.starts j) (slice_index l.sizes j)) (l.at + i))
