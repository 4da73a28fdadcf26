use Rattle.replays.proofs.ToldByPieces.{verdict-told}
use Rattle.replays.proofs.by_pieces.tell_verdict.Goals as goal

pub returns-in_default : goal.returns-in_default
returns-in_default g c =
    verdict-told g.L.LineSink.spelled c.args.met.number c.args.met.frame c.args.session.now c.args.held.now (g.L.LineSink.seen c.args.out.now)
    (g.L.LineSink.seen c.say.new.out)
    c.args.outcome.now c.say.new.outcome c.say.result c.args.verdict.now c.in_default.not-Blocks c.in_default.not-Stored c.say.ensures
