use Rattle.std.proofs.Common.{Ok, Err, true, false, ap, refl, rules, arith}
use Rattle.wire.specs.Reader.{IsOpen}
use Rattle.wire.specs.RecordReader.{frame_reader}
use Rattle.wire.proofs.Advancing.{AdvancesInRecord-open}
use Rattle.wire.proofs.record_reader.RecordReader+R.advance.Goals as goal

pub returns-in-Ok-default-Some : goal.returns-in-Ok-default-Some
returns-in-Ok-default-Some g c =
    let opened : IsOpen (frame_reader c.args.self.now) = search rules in
    let e = c.in-Ok-default-Some.ensures in
    let read = rw c.in-Ok-default-Some.field-0-1-is at e.bytes in
    let room = rw c.in-Ok-default-Some.field-0-1-is at e.room in
    AdvancesInRecord-open g.R.Source.seen c.args.self.now _ (Ok true) opened
    (record { form = _; directed = read.0; known = refl; gave = read.1; holds = read.2; stays = opened; room = room }) refl e.bounded e.enough

pub returns-in-Ok-default-None : goal.returns-in-Ok-default-None
returns-in-Ok-default-None g c =
    let e = c.in-Ok-default-None.ensures in
    let ends = rw c.in-Ok-default-None.field-0-1-is at e.bytes in
    let room = rw c.in-Ok-default-None.field-0-1-is at e.room in
    AdvancesInRecord-open g.R.Source.seen c.args.self.now _ (Ok false) (search rules)
    (record { form = _; known = refl; ends = ends; ended = refl; room = room }) refl e.bounded e.enough

pub returns-in-Err : goal.returns-in-Err
returns-in-Err g c =
    let e = c.in-Err.ensures in
    AdvancesInRecord-open g.R.Source.seen c.args.self.now _ (Err c.in-Err.fault) (search rules)
    (record { form = refl; stops = e.bytes; failed = refl; memory = λ is room. omega (arith, room, e.memory (ap (λ w. Err w) is)); room = e.room })
    refl e.bounded e.enough
