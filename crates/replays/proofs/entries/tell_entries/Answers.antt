use Rattle.std.proofs.Common.{[], refl}
use Rattle.replays.proofs.SaidAll.{entries-broke, entries-more, none-noted, none-sent, said-none}
use Rattle.replays.proofs.entries.tell_entries.Goals as goal

pub entries-init : goal.entries-init
entries-init g c = record {
  told = [];
  count_is = refl;
  held = said-none c.args.session.now c.args.delivery.blocks.now c.args.delivery.bytes.now c.args.delivery.tree 0 c.args.held.now;
  sent = none-sent g.L.LineSink.spelled c.args.number (g.L.LineSink.seen c.args.out.now);
  noted = none-noted g.L.LineSink.spelled c.args.outcome.now;
}

pub entries-preserved : goal.entries-preserved
entries-preserved g c =
    entries-more c.args.session.now c.args.delivery.blocks.now c.args.delivery.bytes.now c.args.delivery.tree c.args.held.now c.entries.held
    c.hold_entry-said.new.held g.L.LineSink.spelled c.args.number c.entries.entry (g.L.LineSink.seen c.args.out.now) (g.L.LineSink.seen c.entries.out)
    (g.L.LineSink.seen c.say.new.out)
    c.args.outcome.now c.entries.outcome c.say.new.outcome c.hold_entry-said.result c.entries.invariant c.hold_entry-said.ensures.said tt c.in-Ok.ensures

pub returns-in-Err : goal.returns-in-Err
returns-in-Err g c =
    entries-broke c.args.session.now c.args.delivery.blocks.now c.args.delivery.bytes.now c.args.delivery.tree c.args.held.now c.entries.held
    c.hold_entry-said.new.held g.L.LineSink.spelled c.args.number c.entries.entry (g.L.LineSink.seen c.args.out.now) (g.L.LineSink.seen c.entries.out)
    (g.L.LineSink.seen c.say.new.out)
    c.args.outcome.now c.entries.outcome c.say.new.outcome c.hold_entry-said.result c.entries.invariant c.hold_entry-said.ensures.said c.in-Err.fault
    c.in-Err.ensures
