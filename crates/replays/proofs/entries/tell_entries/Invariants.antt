use Rattle.replays.proofs.SaidAll.{InEntries}
use Rattle.replays.proofs.entries.tell_entries.Given as goal

-- some first entries were told
abbrev pub invariant-entries : goal.invariant-entries
invariant-entries g l =
    InEntries l.session l.delivery.blocks.now l.delivery.bytes.now l.delivery.tree l.fn.held l.held g.L.LineSink.spelled l.number l.entry
    (g.L.LineSink.seen l.fn.out)
    (g.L.LineSink.seen l.out) l.fn.outcome l.outcome
