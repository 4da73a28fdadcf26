use Rattle.std.proofs.Common.{◌*◌, arith}
use Rattle.sha1_lanes.proofs.Zeros.{zeros_put}
use Rattle.sha1_lanes.proofs.filled.put_zeros.Goals as goal

pub returns-clause-here : goal.returns-clause-here
returns-clause-here c i lt =
    zeros_put (64 * c.args.place) _ c.args.row.now c.copy_from_slice.new.self i (omega (arith, c.told-row)) c.copy_from_slice.ensures.after lt
