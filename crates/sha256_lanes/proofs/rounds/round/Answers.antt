use Rattle.std.proofs.Common.{refl}
use Rattle.sha256_lanes.proofs.rounds.round.Goals as goal

pub returns : goal.returns
returns c j lt =
    rw (
      c.sum.ensures j lt,
      c.sum-2.ensures j lt,
      c.sum-temp1.ensures j lt,
      c.sum-temp2.ensures j lt,
      c.sum-four.ensures j lt,
      c.sum-three.ensures j lt,
      c.sum-two.ensures j lt,
      c.same.ensures j lt,
      c.choice-chosen.ensures j lt,
      c.upper_sigma1-sigma1.ensures j lt,
      c.upper_sigma0-sigma0.ensures j lt,
      c.majority-most.ensures j lt,
    ) refl
