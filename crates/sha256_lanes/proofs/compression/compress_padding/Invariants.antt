use Rattle.lanes.specs.declared.words.TheConstants.{LANES}
use Rattle.std.proofs.Common.{◌≡◌, ℕ, ◌<◌, ◌*◌}
use Rattle.sha2.specs.Sha256.{padding, rounds, schedule}
use Rattle.sha256_lanes.specs.Lanes.{sha256_state_in}
use Rattle.sha256_lanes.proofs.compression.compress_padding.Given as goal

abbrev pub invariant-turns : goal.invariant-turns
invariant-turns l = (j : ℕ) → j < LANES
    → sha256_state_in j l.v ≡ rounds (sha256_state_in j l.fn.state) (schedule (padding 64) 48) (4 * l.turn)
