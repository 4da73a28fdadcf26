use Rattle.std.proofs.Common.{slice_index, refl}
use Rattle.std.specs.Int.{w32, rotate_left}
use Rattle.lanes.specs.Lanes.{word_in}
use Rattle.sha1_lanes.proofs.Sums.{sum_of_round}
use Rattle.sha1_lanes.proofs.rounds.round.Goals as goal

pub returns : goal.returns
returns c j lt =
    rw (
      c.sum.ensures j lt,
      c.sum-with_chosen.ensures j lt,
      c.sum-with_e.ensures j lt,
      c.sum-known.ensures j lt,
      c.same.ensures j lt,
      c.rotated_left.ensures j lt,
      c.rotated_left-turned.ensures j lt,
      sum_of_round (rotate_left w32 (word_in c.args.v 0 j) 5) (slice_index c.args.chosen j) (word_in c.args.v 4 j)
          c.args.constant (slice_index c.args.word j),
    ) refl
