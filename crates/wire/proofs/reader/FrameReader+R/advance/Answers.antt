use Rattle.std.proofs.Common.{Ok, Err, true, false, ap, refl, rules, arith}
use Rattle.wire.specs.Reader.{IsOpen}
use Rattle.wire.proofs.Advancing.{Advances-open}
use Rattle.wire.proofs.reader.FrameReader+R.advance.Goals as goal

pub returns-in-Ok-Some : goal.returns-in-Ok-Some
returns-in-Ok-Some g c =
    let opened : IsOpen c.args.self.now = search rules in
    let e = c.in-Ok-Some.ensures in
    let read = rw c.in-Ok-Some.field-0-is at e.bytes in
    let room = rw c.in-Ok-Some.field-0-is at e.room in
    Advances-open g.R.Source.seen c.args.self.now _ (Ok true) opened
    (record { body = read.0; fits = read.1; gave = read.2; holds = read.3; stays = opened; room = room }) refl e.bounded e.enough

pub returns-in-Ok-None : goal.returns-in-Ok-None
returns-in-Ok-None g c =
    let e = c.in-Ok-None.ensures in
    let read = rw c.in-Ok-None.field-0-is at e.bytes in
    let room = rw c.in-Ok-None.field-0-is at e.room in
    Advances-open g.R.Source.seen c.args.self.now _ (Ok false) (search rules) (record { gave = read.0; at_end = read.1; ended = refl; room = room })
    refl e.bounded e.enough

pub returns-in-Err : goal.returns-in-Err
returns-in-Err g c =
    let e = c.in-Err.ensures in
    Advances-open g.R.Source.seen c.args.self.now _ (Err c.in-Err.fault) (search rules)
    (record { stops = e.bytes; failed = refl; memory = λ is room. omega (arith, room, e.memory (ap (λ w. Err w) is)); room = e.room })
    refl e.bounded e.enough
