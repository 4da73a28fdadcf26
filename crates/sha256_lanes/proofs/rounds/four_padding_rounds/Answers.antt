use Rattle.std.proofs.Common.{ap, ◌∙◌, arith}
use Rattle.sha2.specs.Sha256.{padding, rounds, schedule}
use Rattle.sha256_lanes.proofs.rounds.four_padding_rounds.Goals as goal

pub returns : goal.returns
returns c j lt h held =
    let after = rounds h (schedule (padding 64) 48) in
    let first = c.padding_round-v.ensures j lt h held in
    let second = c.padding_round-v-2.ensures j lt h first in
    let third = c.padding_round-v-3.ensures j lt h (second ∙ ap after (omega arith)) in
    c.padding_round.ensures j lt h (third ∙ ap after (omega arith)) ∙ ap after (omega arith)
