use Rattle.std.proofs.Common.{◌≡◌, ◌+◌, ◌%◌, arith, refl}
use Rattle.lanes.proofs.OfLanes.{lane_at}
use Rattle.sha256_lanes.proofs.rounds.next_word.Goals as goal

pub returns : goal.returns
returns c j lt =
    let place = c.args.place in
    let ring = c.args.ring.now in
    let here : place % 16 ≡ place = omega arith in
    rw (
      here,
      lane_at j ring ((place + 14) % 16),
      lane_at j ring ((place + 9) % 16),
      lane_at j ring ((place + 1) % 16),
      lane_at j ring place,
      c.sum.ensures j lt,
      c.sum-three.ensures j lt,
      c.sum-two.ensures j lt,
      c.lower_sigma1-late.ensures j lt,
      c.lower_sigma0-early.ensures j lt,
    ) refl
