use Rattle.std.proofs.Common.{arith}
use Rattle.pieces.proofs.StagedWhole.{closes}
use Rattle.pieces.proofs.stages.Stages.close.Goals as goal

pub returns : goal.returns
returns c =
    let f = c.args.self.now in
    let due = c.step_if_due-digest.ensures in
    let next = c.begin_next.ensures in
    closes f c.step_if_due-digest.new.self c.begin_next.new.self c.step_if_due-digest.result due.store due.does next.store next.relay next.filled
    (omega (arith, next.next, due.piece, due.stretch)) (omega (arith, next.steps, due.piece))
