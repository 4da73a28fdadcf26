use Rattle.std.proofs.Common.{ap, ◌∙◌}
use Rattle.sha1.specs.Sha1.{add_state, compress}
use Rattle.sha1_lanes.specs.Batches.{state_in}
use Rattle.sha1_lanes.proofs.compression.compress.Goals as goal

pub returns : goal.returns
unfolding compress
returns c j lt b words =
    let h = state_in j c.args.state.now in
    let s1 = c.block_rounds-v.ensures j lt b words in
    let s2 = c.four_choose_rounds-v.ensures j lt b h s1 in
    let s3 = c.parity_rounds-v.ensures j lt b h s2 in
    let s4 = c.majority_rounds-v.ensures j lt b h s3 in
    let s5 = c.last_rounds-v.ensures j lt b h s4 in
    c.added.ensures j lt ∙ ap (add_state h) s5.1
