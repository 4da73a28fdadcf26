use Rattle.std.proofs.Common.{◌+◌, ◌≤◌, drop, arith}
use Rattle.std.proofs.lemmas.List.{length-append, length-drop}
use Rattle.chains.proofs.Cases.{on_err}
use Rattle.folders.proofs.TakenParts.{goes_on, with_part}
use Rattle.folders.proofs.taking.take_exactly.Goals as goal

pub returns-then-taken-room-clause-read : goal.returns-then-taken-room-clause-read
returns-then-taken-room-clause-read g c =
    let rest = drop c.min-room.result c.parts.buffer in
    let e = c.in_ok-taken.ensures.filled in
    let all = with_part g.met.T.Consumer.joins rest c.parts.invariant e c.take.ensures in
    record {
      bytes = all.bytes;
      short = omega (arith, all.count, c.min-room.ensures, c.parts-test.true, c.if-taken-room.true);
      gave = all.gave;
      ended = e.ended (omega (
        arith,
        c.fill.auto.buffer,
        length-append c.fill.new.buffer rest,
        length-drop c.min-room.result c.parts.buffer,
        c.if-taken-room.true,
      ));
      taken = all.taken;
    }

pub parts-preserved : goal.parts-preserved
parts-preserved g c =
    let new = c.fill.new.buffer in
    let rest = drop c.min-room.result c.parts.buffer in
    let e = c.in_ok-taken.ensures.filled in
    let whole = length-append new rest in
    let within : c.parts.count + c.in_ok-taken.taken ≤ c.args.size = omega (
      arith,
      e.bound,
      c.fill.auto.buffer,
      whole,
      length-drop c.min-room.result c.parts.buffer,
      c.min-room.ensures,
      c.parts-test.true,
    ) in
    goes_on g.met.T.Consumer.joins rest c.parts.invariant e c.take.ensures g.met.T.Consumer.room_left within
    (omega (arith, c.parts.invariant.some, c.fill.auto.buffer, whole)) c.in_ok-taken.ensures.counts

pub returns-in_err-taken-clause-partly : goal.returns-in_err-taken-clause-partly
returns-in_err-taken-clause-partly g c =
    let so_far = c.parts.invariant.so_far in
    on_err c.from_residual.result (so_far.bytes, so_far.taken)
