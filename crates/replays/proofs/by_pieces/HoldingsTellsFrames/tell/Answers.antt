use Rattle.replays.proofs.ToldByPieces.{bad-told}
use Rattle.replays.proofs.by_pieces.HoldingsTellsFrames.tell.Goals as goal

pub returns-in-BadFrame : goal.returns-in-BadFrame
returns-in-BadFrame g c =
    bad-told g.L.LineSink.spelled c.args.met.number c.args.met.frame c.args.session.now c.args.self.now (g.L.LineSink.seen c.args.out.now)
    (g.L.LineSink.seen c.say.new.out)
    c.args.outcome.now c.say.new.outcome c.say.result c.args.met.report.now _ _ c.in-BadFrame.is c.say.ensures
