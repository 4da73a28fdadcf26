use Rattle.std.proofs.Common.{rules}
use Rattle.gathering.proofs.RowReading.{asked, unasked}
use Rattle.gathering.proofs.part_row.is_over.Goals as goal

pub returns-then-not-ends-clause-over : goal.returns-then-not-ends-clause-over
returns-then-not-ends-clause-over g c = unasked c.args.ends (g.F.Source.seen c.args.source.now) c.if-not-ends.true

pub returns-clause-over : goal.returns-clause-over
returns-clause-over g c =
    asked c.args.ends (g.F.Source.seen c.args.source.now) (g.F.Source.seen c.fill.new.source) c.fill.new.buffer _ c.if-not-ends.false (search rules)
    c.in_ok-fill.ensures.filled
