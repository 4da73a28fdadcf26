use Rattle.std.proofs.Common.{slice_index, ap, ap₂, sym, ◌∙◌}
use Rattle.sha2.specs.Sha256.{padding, round, round_constants, schedule}
use Rattle.sha2.proofs.Schedule256.{rounds_next}
use Rattle.sha256_lanes.proofs.PaddingSchedule.{padding_schedule_is}
use Rattle.sha256_lanes.proofs.rounds.padding_round.Goals as goal

pub returns : goal.returns
returns c j lt h held =
    let t = c.args.t in
    let word = c.same-word.ensures j lt ∙ ap (λ words. slice_index words t) (sym padding_schedule_is) in
    c.round.ensures j lt
    ∙ ap₂ (λ v x. round v (slice_index round_constants t) x) held word
    ∙ sym (rounds_next h (schedule (padding 64) 48) t)
