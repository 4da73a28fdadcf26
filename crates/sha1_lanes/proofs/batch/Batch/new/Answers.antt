use Rattle.std.proofs.Common.{refl, ◌∙◌}
use Rattle.sha1.specs.Sha1.{hash_after}
use Rattle.sha1_lanes.proofs.batch.Batch.new.Goals as goal

pub returns : goal.returns
unfolding hash_after
returns c j lt = record { length_is = refl; whole = refl; value_is = c.of.ensures j lt ∙ c.initial_state.ensures j lt }
