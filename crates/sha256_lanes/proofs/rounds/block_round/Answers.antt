use Rattle.std.proofs.Common.{refl, sym}
use Rattle.sha2.proofs.Schedule256.{rounds_first}
use Rattle.lanes.specs.Lanes.{lane}
use Rattle.sha256_lanes.specs.Lanes.{sha256_state_in}
use Rattle.lanes.proofs.OfLanes.{lane_at}
use Rattle.sha256_lanes.proofs.rounds.block_round.Goals as goal

pub returns : goal.returns
returns c j lt b h window held =
    let ring = c.args.ring.now in
    rounds_first b h (lane j ring) (sha256_state_in j c.args.v) c.args.t _ _ _ c.requires window held refl
    (sym (lane_at j ring c.args.t)) (c.round.ensures j lt)
