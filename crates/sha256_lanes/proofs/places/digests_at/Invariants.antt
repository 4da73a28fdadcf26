use Rattle.lanes.specs.declared.words.TheConstants.{LANES}
use Rattle.std.proofs.Common.{◌≡◌, ℕ, ◌<◌, ◌≤◌, [], slice_index, slice_index_or}
use Rattle.sha2.specs.Sha256.{hash_after, initial_hash_256, padded_message, sha256}
use Rattle.sha256_lanes.specs.Lanes.{bytes_at, padded_block_count, sha256_state_in}
use Rattle.sha256_lanes.proofs.places.digests_at.Given as goal

abbrev pub invariant-whole : goal.invariant-whole
invariant-whole l = (j : ℕ) → j < LANES → sha256_state_in j l.state ≡ hash_after initial_hash_256
    (padded_message (bytes_at l.buffer (slice_index l.starts j) (slice_index l.sizes j))) l.block

abbrev pub invariant-padded : goal.invariant-padded
invariant-padded l = ((j : ℕ) → j < LANES → l.block ≤ padded_block_count (slice_index l.sizes j)
    → sha256_state_in j l.state ≡ hash_after initial_hash_256
    (padded_message (bytes_at l.buffer (slice_index l.starts j) (slice_index l.sizes j))) l.block)
    × ((j : ℕ) → j < LANES → padded_block_count (slice_index l.sizes j) ≤ l.block → slice_index_or l.digests j []
    ≡ sha256 (bytes_at l.buffer (slice_index l.starts j) (slice_index l.sizes j)))
