use Rattle.lanes.specs.declared.words.TheConstants.{LANES}
use Rattle.std.proofs.Common.{◌≡◌, ℕ, ◌<◌}
use Rattle.sha2.specs.Sha256.{hash_after, initial_hash_256}
use Rattle.sha256_lanes.specs.Lanes.{message, sha256_state_in}
use Rattle.sha256_lanes.proofs.messages.hash_values.Given as goal

abbrev pub invariant-blocks-2 : goal.invariant-blocks-2
invariant-blocks-2 l = (j : ℕ) → j < LANES
    → sha256_state_in j l.state ≡ hash_after initial_hash_256 (message l.messages l.size j) l.block
