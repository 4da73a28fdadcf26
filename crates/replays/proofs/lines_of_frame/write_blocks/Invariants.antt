use Rattle.std.proofs.Common.{drop}
use Rattle.printing.proofs.Parts.{SentBut}
use Rattle.replays.specs.ReplayRows.{entry_lines_as}
use Rattle.replays.proofs.lines_of_frame.write_blocks.Given as goal

-- the lines of some first entries went out
abbrev pub invariant-entries : goal.invariant-entries
invariant-entries g l =
    SentBut (g.L.LineSink.seen l.fn.report) (g.L.LineSink.seen l.report)
    (entry_lines_as g.L.LineSink.spelled l.number l.blocks 0 l.blocks.refusals) (entry_lines_as g.L.LineSink.spelled l.number l.blocks l.entry
    (drop l.entry l.blocks.refusals))
