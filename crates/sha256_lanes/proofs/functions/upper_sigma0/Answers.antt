use Rattle.std.proofs.Common.{refl}
use Rattle.sha256_lanes.proofs.functions.upper_sigma0.Goals as goal

pub returns : goal.returns
returns c j lt =
    rw (
      c.differing.ensures j lt,
      c.differing-two.ensures j lt,
      c.rotated_right-first.ensures j lt,
      c.rotated_right-second.ensures j lt,
      c.rotated_right-third.ensures j lt,
    ) refl
