use Rattle.std.proofs.Common.{◌≡◌, refl, ap, slice_index, ◌+◌, ◌*◌, ◌∙◌, arith}
use Rattle.std.proofs.lemmas.List.{length-map}
use Rattle.sha2.specs.Sha256.{add_state, compress, rounds}
use Rattle.sha2.proofs.Schedule256.{IsRoundsAt_at, IsWindow_first}
use Rattle.lanes.specs.Lanes.{lane}
use Rattle.sha256_lanes.specs.Lanes.{sha256_state_in}
use Rattle.lanes.proofs.OfLanes.{lane_at}
use Rattle.sha256_lanes.proofs.compression.compress.Goals as goal

pub turns-init : goal.turns-init
unfolding rounds
turns-init c j lt b words =
    let ring = c.args.words in
    let h = sha256_state_in j c.args.state.now in
    let size = length-map ring (λ v. slice_index v j) in
    let window = IsWindow_first b (lane j ring) (omega arith) (λ k below. lane_at j ring k ∙ words k below) in
    let first = c.four_block_rounds-v.ensures j lt b h window refl in
    let second = c.four_block_rounds-v-2.ensures j lt b h window first in
    let third = c.four_block_rounds-v-3.ensures j lt b h window second in
    (window, c.four_block_rounds-v-4.ensures j lt b h window third)

pub turns-preserved : goal.turns-preserved
turns-preserved c j lt b words =
    let h = sha256_state_in j c.args.state.now in
    let turn : 16 * c.turns.turn ≡ 16 * c.turns.turn + 0 = omega arith in
    let first = c.four_later_rounds-v.ensures j lt b h (IsRoundsAt_at b h _ _ _ _ turn (c.turns.invariant j lt b words)) in
    let second = c.four_later_rounds-v-in-turns.ensures j lt b h first in
    let third = c.four_later_rounds-v-in-turns-2.ensures j lt b h second in
    IsRoundsAt_at b h _ _ _ _ (omega arith) (c.four_later_rounds-v-in-turns-3.ensures j lt b h third)

pub returns : goal.returns
unfolding compress
returns c j lt b words =
    let all : 16 * c.turns.turn ≡ 64 = omega (arith, c.turns.auto.turn-end (omega arith)) in
    c.added.ensures j lt ∙ ap (add_state (sha256_state_in j c.args.state.now)) (rw all at (c.turns.invariant j lt b words).1)
