use Rattle.lanes.specs.declared.words.TheConstants.{LANES}
use Rattle.std.proofs.Common.{◌≡◌, ℕ, ◌+◌, ◌/◌, ◌<◌, ◌++◌, List, length, slice_index}
use Rattle.sha1.specs.Sha1.{hash_after}
use Rattle.sha1_lanes.specs.Batches.{HasTaken, filled_at, state_in}
use Rattle.sha1_lanes.proofs.batch.Batch.update.Given as goal

abbrev pub invariant-blocks-2 : goal.invariant-blocks-2
invariant-blocks-2 l = (j : ℕ) → j < LANES → (m : List ℕ) → HasTaken l.fn.self j m
    → state_in j l.state
    ≡ hash_after (m ++ filled_at l.buffer (slice_index l.starts j) (slice_index l.sizes j) l.whole) (length m / 64 + l.block)
