use Rattle.lanes.specs.declared.words.TheConstants.{LANES}
use Rattle.std.proofs.Common.{◌≡◌, ℕ, ◌+◌, ◌/◌, ◌%◌, ◌<◌, ◌++◌, List, length, slice_index}
use Rattle.sha1.specs.Sha1.{hash_after}
use Rattle.sha1_lanes.specs.Batches.{bytes_at, hash_value_of, state_in}
use Rattle.sha1_lanes.proofs.relay.take_blocks.Given as goal

abbrev pub invariant-blocks-2 : goal.invariant-blocks-2
invariant-blocks-2 l = (j : ℕ) → j < LANES → (m : List ℕ) → length m % 64 ≡ 0 → state_in j l.fn.state ≡ hash_value_of m
    → state_in j l.state ≡ hash_after (m ++ bytes_at l.buffer (slice_index l.starts j) l.size) (length m / 64 + l.block)
