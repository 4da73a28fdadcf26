use Rattle.std.proofs.Common.{sym}
use Rattle.sha1.proofs.Schedule.{rounds_first}
use Rattle.lanes.specs.Lanes.{lane}
use Rattle.sha1_lanes.specs.Batches.{state_in}
use Rattle.lanes.proofs.OfLanes.{lane_at}
use Rattle.sha1_lanes.proofs.rounds.block_round.Goals as goal

pub returns : goal.returns
returns c j lt b h window held =
    let ring = c.args.ring.now in
    rounds_first b h (lane j ring) (state_in j c.args.v) c.args.t _ _ _ c.requires window held
    (sym (lane_at j ring c.args.t)) (c.choice-chosen.ensures j lt) (c.round.ensures j lt)
