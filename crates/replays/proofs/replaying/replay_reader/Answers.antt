use Rattle.std.proofs.Common.{ap, refl}
use Rattle.replays.proofs.ReplayEnds.{in_end_at_once, report_cut, report_ended}
use Rattle.replays.proofs.replaying.replay_reader.Goals as goal

pub returns-in-Err-clause-report : goal.returns-in-Err-clause-report
returns-in-Err-clause-report g c =
    let same = ap (λ s. g.R.Source.seen s.now) c.reserve.ensures.unchanged.0.source in
    report_ended _ c.end_replay.result (in_end_at_once _ _ _ c.default.result same refl c.default.ensures.0 c.default.ensures.1.0) c.end_replay.ensures.wrote
    c.end_replay.ensures.outcome

pub returns-in-Err-clause-cut_report : goal.returns-in-Err-clause-cut_report
returns-in-Err-clause-cut_report g c =
    let same = ap (λ s. g.R.Source.seen s.now) c.reserve.ensures.unchanged.0.source in
    report_cut _ c.end_replay.result (in_end_at_once _ _ _ c.default.result same refl c.default.ensures.0 c.default.ensures.1.0) c.end_replay.ensures.wrote
