use Rattle.std.proofs.Common.{◌++◌, take, drop, arith}
use Rattle.std.proofs.lemmas.List.{length-append, length-drop, length-take-le}
use Rattle.wire.proofs.Giving.{Gave-trans}
use Rattle.folders.proofs.TakenParts.{goes_on, with_part}
use Rattle.folders.proofs.taking.take_all.Goals as goal

pub returns-then-count-bound-clause-read : goal.returns-then-count-bound-clause-read
returns-then-count-bound-clause-read g c =
    let e = c.in_ok-taken.ensures.filled in
    let last = take c.in_ok-taken.taken c.fill.new.buffer in
    let so_far = c.parts.invariant.so_far in (
      so_far.bytes ++ last,
      Gave-trans _ _ _ so_far.bytes last so_far.gave e.gave,
      omega (arith, so_far.count, length-append so_far.bytes last, length-take-le c.in_ok-taken.taken c.fill.new.buffer e.bound),
    )

pub returns-then-taken-room-clause-read : goal.returns-then-taken-room-clause-read
returns-then-taken-room-clause-read g c =
    let rest = drop c.min-room.result c.parts.buffer in
    let e = c.in_ok-taken.ensures.filled in
    let all = with_part g.met.T.Consumer.joins rest c.parts.invariant e c.take.ensures in
    record {
      bytes = all.bytes;
      count_is = all.count;
      within = omega arith;
      gave = all.gave;
      ended = e.ended (omega (arith, c.fill.auto.buffer, length-append c.fill.new.buffer rest, length-drop c.min-room.result c.parts.buffer));
      taken = all.taken;
    }

pub parts-preserved : goal.parts-preserved
parts-preserved g c =
    let rest = drop c.min-room.result c.parts.buffer in
    goes_on g.met.T.Consumer.joins rest c.parts.invariant c.in_ok-taken.ensures.filled c.take.ensures g.met.T.Consumer.room_left (omega arith)
    (omega (arith, c.parts.invariant.some, c.fill.auto.buffer, length-append c.fill.new.buffer rest)) c.in_ok-taken.ensures.counts
