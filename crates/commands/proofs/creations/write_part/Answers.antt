use Rattle.std.proofs.Common.{refl}
use Rattle.commands.proofs.creations.write_part.Goals as goal

pub returns-in-Ok : goal.returns-in-Ok
returns-in-Ok g c = (c.status.ensures, c.in-Ok.ensures (g.W.Sink.seen c.args.part.now) c.args.text.now c.write_all-written.ensures)

pub returns-in-Err : goal.returns-in-Err
returns-in-Err g c = (refl, c.in-Err.ensures (g.W.Sink.seen c.args.part.now) c.args.text.now c.write_all-written.ensures)
