use Rattle.lanes.specs.declared.words.TheConstants.{LANES}
use Rattle.std.proofs.Common.{◌≡◌, ℕ, ◌<◌, ◌*◌, List}
use Rattle.sha2.specs.Sha256.{IsRoundsAt, word_at}
use Rattle.lanes.specs.Lanes.{lane, word_in}
use Rattle.sha256_lanes.specs.Lanes.{sha256_state_in}
use Rattle.sha256_lanes.proofs.compression.compress.Given as goal

abbrev pub invariant-turns : goal.invariant-turns
invariant-turns l = (j : ℕ) → j < LANES → (b : List ℕ)
    → ((k : ℕ) → k < 16 → word_in l.fn.words k j ≡ word_at b (4 * k))
    → IsRoundsAt b (sha256_state_in j l.fn.state) (lane j l.ring) (sha256_state_in j l.v) (16 * l.turn)
