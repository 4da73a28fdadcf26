use Rattle.std.proofs.Common.{length, refl}
use Rattle.wire.proofs.Heads.{Holds-whole}
use Rattle.wire.proofs.frame.frame_in.Goals as goal

pub frame_of-requires : goal.frame_of-requires
frame_of-requires c = record {
  held = (
    c.args.body.now,
    Holds-whole c.in-Some.field-0-0.now (length c.args.body.now) c.of.result c.in-Some.rest.now c.args.body.now
        c.in-Some.ensures.cases.0 refl c.of.ensures,
  );
}

pub returns-in-Some : goal.returns-in-Some
returns-in-Some c = c.frame_of.ensures c.args.body.now
    (Holds-whole c.in-Some.field-0-0.now (length c.args.body.now) c.of.result c.in-Some.rest.now c.args.body.now
    c.in-Some.ensures.cases.0 refl c.of.ensures)
