use Rattle.std.proofs.Common.{refl, ◌∙◌, arith}
use Rattle.sha1.specs.Sha1.{hash_after}
use Rattle.sha1_lanes.proofs.relay.Relay.new.Goals as goal

pub returns : goal.returns
unfolding hash_after
returns c = record { whole = refl; value_is = c.of.ensures 0 (omega arith) ∙ c.initial_state.ensures 0 (omega arith) }
