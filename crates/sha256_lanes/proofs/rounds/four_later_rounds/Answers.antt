use Rattle.std.proofs.Common.{arith}
use Rattle.sha2.proofs.Schedule256.{IsRoundsAt_at}
use Rattle.sha256_lanes.proofs.rounds.four_later_rounds.Goals as goal

pub returns : goal.returns
returns c j lt b h held =
    let first = c.later_round-v.ensures j lt b h held in
    let second = c.later_round-v-2.ensures j lt b h first in
    let third = c.later_round-v-3.ensures j lt b h (IsRoundsAt_at b h _ _ _ _ (omega arith) second) in
    let fourth = c.later_round.ensures j lt b h (IsRoundsAt_at b h _ _ _ _ (omega arith) third) in
    IsRoundsAt_at b h _ _ _ _ (omega arith) fourth
