use Rattle.std.proofs.Common.{arith}
use Rattle.replays.proofs.Named.{run-there}
use Rattle.replays.proofs.ToldByPieces.{run-broke, run-says}
use Rattle.replays.proofs.by_pieces.tell_run.Goals as goal

pub returns-in-Ok : goal.returns-in-Ok
returns-in-Ok g c =
    run-says c.args.session.now c.args.run.blocks.now c.args.run.bytes.now c.args.run.tree c.requires c.args.held.now c.tell_entries.new.held
    g.L.LineSink.spelled c.args.number (g.L.LineSink.seen c.args.out.now) (g.L.LineSink.seen c.tell_entries.new.out) c.args.outcome.now
    c.tell_entries.new.outcome
    c.pieces_of.result.file c.pieces_of.result.pieces c.tell_settled.new.session c.tell_settled.new.held (g.L.LineSink.seen c.tell_settled.new.out)
    c.tell_settled.new.outcome c.tell_settled.result tt c.in-Ok.ensures c.pieces_of.ensures.pieces c.pieces_of.ensures.file c.tell_settled.ensures

pub returns-in-Err : goal.returns-in-Err
returns-in-Err g c =
    run-broke c.args.session.now c.args.run.blocks.now c.args.run.bytes.now c.args.run.tree c.requires c.args.held.now c.tell_entries.new.held
    g.L.LineSink.spelled c.args.number (g.L.LineSink.seen c.args.out.now) (g.L.LineSink.seen c.tell_entries.new.out) c.args.outcome.now
    c.tell_entries.new.outcome c.in-Err.fault
    c.in-Err.ensures

pub tell_settled-requires-clause-there : goal.tell_settled-requires-clause-there
tell_settled-requires-clause-there g c = omega (arith, run-there c.requires, c.pieces_of.ensures.tree)
