use Rattle.std.proofs.Common.{refl, slice_index, ◌∙◌, arith}
use Rattle.std.proofs.lemmas.List.{length-map}
use Rattle.sha1.specs.Sha1.{rounds}
use Rattle.sha1.proofs.Schedule.{IsWindow_first}
use Rattle.lanes.specs.Lanes.{lane}
use Rattle.sha1_lanes.specs.Batches.{state_in}
use Rattle.lanes.proofs.OfLanes.{lane_at}
use Rattle.sha1_lanes.proofs.compression.block_rounds.Goals as goal

pub returns : goal.returns
unfolding rounds
returns c j lt b words =
    let ring = c.args.ring.now in
    let h = state_in j c.args.v in
    let size = length-map ring (λ v. slice_index v j) in
    let window = IsWindow_first b (lane j ring) (omega arith) (λ k below. lane_at j ring k ∙ words k below) in
    let s1 = c.four_block_rounds-v.ensures j lt b h window refl in
    let s2 = c.four_block_rounds-v-2.ensures j lt b h window s1 in
    let s3 = c.four_block_rounds-v-3.ensures j lt b h window s2 in
    (window, c.four_block_rounds.ensures j lt b h window s3)
