use Rattle.std.proofs.Common.{slice_index}
use Rattle.lanes.proofs.Bits.{majority_of}
use Rattle.lanes.proofs.functions.majority.Goals as goal

pub returns : goal.returns
returns c j lt =
    rw (c.differing.ensures j lt, c.common-outvoted.ensures j lt, c.differing-before.ensures j lt, c.differing-after.ensures j lt)
    (majority_of (slice_index c.args.x j) (slice_index c.args.y j) (slice_index c.args.z j))
