use Rattle.std.proofs.Common.{ap, ◌∙◌, arith}
use Rattle.sha2.specs.Sha256.{rounds, schedule}
use Rattle.sha256_lanes.proofs.rounds.four_block_rounds.Goals as goal

pub returns : goal.returns
returns c j lt b h window held =
    let after = rounds h (schedule b 48) in
    let first = c.block_round-v.ensures j lt b h window held in
    let second = c.block_round-v-2.ensures j lt b h window first in
    let third = c.block_round-v-3.ensures j lt b h window (second ∙ ap after (omega arith)) in
    c.block_round.ensures j lt b h window (third ∙ ap after (omega arith)) ∙ ap after (omega arith)
