use Rattle.sha256_lanes.specs.declared.padded.TheConstants.{ROW}
use Rattle.std.proofs.Common.{◌≡◌, ℕ, ◌+◌, ◌*◌, ◌<◌, length, slice_index}
use Rattle.sha2.specs.Sha256.{padded_message}
use Rattle.sha256_lanes.specs.Lanes.{bytes_at, padded_block_count}
use Rattle.sha256_lanes.proofs.places.take_blocks.Given as goal

abbrev pub invariant-places : goal.invariant-places
invariant-places l = (length l.row ≡ ROW)
    × ((j i : ℕ) → j < l.j → i < 64 → l.block < padded_block_count (slice_index l.sizes j)
    → slice_index l.row (64 * j + i)
    ≡ slice_index (padded_message (bytes_at l.buffer (slice_index l.starts j) (slice_index l.sizes j))) (64 * l.block + i))
