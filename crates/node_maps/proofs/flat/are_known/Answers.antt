use Rattle.std.proofs.Common.{None}
use Rattle.node_maps.proofs.Runs.{iff-part}
use Rattle.node_maps.proofs.flat.are_known.Goals as goal

pub returns : goal.returns
returns c = iff-part (λ o. o) None c.args.row.now c.args.from c.args.count c.if-end-row.false c.all_hold_hashes.ensures
