use Rattle.std.proofs.Common.{◌≡◌, ℕ, ◌+◌, ◌<◌, ◌≤◌, [], slice_index, slice_index_or}
use Rattle.lanes.specs.Lanes.{bytes_in}
use Rattle.sha256_lanes.specs.Lanes.{padded_block_count}
use Rattle.sha256_lanes.proofs.places.keep_finished.Given as goal

abbrev pub invariant-messages : goal.invariant-messages
invariant-messages l = ((j : ℕ) → j < l.j → padded_block_count (slice_index l.sizes j) ≡ l.block + 1
    → slice_index_or l.digests j [] ≡ bytes_in j l.state 8)
    × ((j : ℕ) → j < l.j → padded_block_count (slice_index l.sizes j) < l.block + 1
    → slice_index_or l.digests j [] ≡ slice_index_or l.fn.digests j [])
    × ((j : ℕ) → l.j ≤ j → slice_index_or l.digests j [] ≡ slice_index_or l.fn.digests j [])
