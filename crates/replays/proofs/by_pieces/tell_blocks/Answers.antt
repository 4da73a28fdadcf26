use Rattle.replays.proofs.ToldByPieces.{blocks-plain, blocks-told}
use Rattle.replays.proofs.by_pieces.tell_blocks.Goals as goal

pub returns-in-Some : goal.returns-in-Some
returns-in-Some g c =
    blocks-told g.L.LineSink.spelled c.args.met.number c.args.met.frame c.args.session.now c.args.held.now (g.L.LineSink.seen c.args.out.now)
    (g.L.LineSink.seen c.tell_run.new.out)
    c.args.outcome.now c.tell_run.new.outcome c.tell_run.result c.args.blocks.now c.in-Some.run'.blocks.now c.in-Some.run'.bytes.now
    c.tell_run.new.session c.tell_run.new.held c.in-Some.ensures.blocks c.in-Some.ensures.bytes c.tell_run.ensures

pub returns-in-None : goal.returns-in-None
returns-in-None g c =
    blocks-plain g.L.LineSink.spelled c.args.met.number c.args.met.frame c.args.session.now c.args.held.now (g.L.LineSink.seen c.args.out.now)
    (g.L.LineSink.seen c.say.new.out)
    c.args.outcome.now c.say.new.outcome c.say.result c.args.blocks.now c.in-None.ensures.none c.say.ensures
