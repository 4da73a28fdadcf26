use Rattle.std.proofs.lemmas.Result.{IfOk-weaker}
use Rattle.uses.proofs.Reports.{is-report}
use Rattle.uses.proofs.records.report_on.Goals as goal

pub returns : goal.returns
returns g c = IfOk-weaker c.replay.result _ _ (λ outcome r.
    is-report (g.R.Source.seen c.args.source.now) (g.R.Source.seen c.replay.new.source) c.args.session.now c.replay.new.session
    (g.W.Sink.seen c.args.report.now) (g.W.Sink.seen c.replay.new.report) outcome r) c.replay.ensures.report
