use Rattle.std.proofs.Common.{◌+◌, ◌%◌, refl}
use Rattle.lanes.proofs.OfLanes.{lane_at}
use Rattle.sha1_lanes.proofs.rounds.next_word.Goals as goal

pub returns : goal.returns
returns c = record {
  value = λ j lt.
      let t = c.args.t in
      let ring = c.args.ring.now in
      rw (
        lane_at j ring ((t + 13) % 16),
        lane_at j ring ((t + 8) % 16),
        lane_at j ring ((t + 2) % 16),
        lane_at j ring (t % 16),
        c.rotated_left-word.ensures j lt,
        c.differing-four.ensures j lt,
        c.differing-three.ensures j lt,
        c.differing-two.ensures j lt,
      ) refl;
  window = refl;
}
