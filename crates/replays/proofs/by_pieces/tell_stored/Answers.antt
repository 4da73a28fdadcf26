use Rattle.replays.proofs.ToldByPieces.{hashes-plain, hashes-told}
use Rattle.replays.proofs.by_pieces.tell_stored.Goals as goal

pub returns-in-Some : goal.returns-in-Some
returns-in-Some g c =
    hashes-told g.L.LineSink.spelled c.args.met.number c.args.met.frame c.args.session.now c.args.held.now (g.L.LineSink.seen c.args.out.now)
    (g.L.LineSink.seen c.tell_hashes.new.out)
    c.args.outcome.now c.tell_hashes.new.outcome c.tell_hashes.result c.args.count c.in-Some.touched.tree c.in-Some.touched.file
    c.in-Some.touched.pieces c.tell_hashes.new.session c.tell_hashes.new.held c.in-Some.ensures.asked c.in-Some.ensures.file c.in-Some.ensures.pieces
    c.tell_hashes.ensures

pub returns-in-None : goal.returns-in-None
returns-in-None g c =
    hashes-plain g.L.LineSink.spelled c.args.met.number c.args.met.frame c.args.session.now c.args.held.now (g.L.LineSink.seen c.args.out.now)
    (g.L.LineSink.seen c.say.new.out)
    c.args.outcome.now c.say.new.outcome c.say.result c.args.count c.in-None.ensures.none c.say.ensures
