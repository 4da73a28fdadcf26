use Rattle.replays.proofs.ToldByPieces.{hashes-broke, says-hashes}
use Rattle.replays.proofs.by_pieces.tell_hashes.Goals as goal

pub returns-in-Ok : goal.returns-in-Ok
returns-in-Ok g c =
    says-hashes c.args.met.report.now c.args.touched.file c.args.session.now c.args.held.now c.args.touched.pieces c.tell_settled.new.session
    c.tell_settled.new.held g.L.LineSink.spelled c.args.met.number (g.L.LineSink.seen c.args.out.now) (g.L.LineSink.seen c.say.new.out)
    (g.L.LineSink.seen c.tell_settled.new.out)
    c.args.outcome.now c.say.new.outcome c.tell_settled.new.outcome c.tell_settled.result c.in-Ok.ensures.0 c.in-Ok.ensures.1 c.tell_settled.ensures

pub returns-in-Err : goal.returns-in-Err
returns-in-Err g c =
    hashes-broke c.args.met.report.now c.args.touched.file c.args.session.now c.args.held.now c.args.touched.pieces g.L.LineSink.spelled c.args.met.number
    (g.L.LineSink.seen c.args.out.now) (g.L.LineSink.seen c.say.new.out) c.args.outcome.now c.say.new.outcome c.in-Err.fault c.in-Err.ensures
