use Rattle.std.proofs.Common.{arith, ◌∙◌, subst}
use Rattle.folders.specs.Exactly.{TakesExactly}
use Rattle.folders.specs.RowFeeds.{FeedsBits}
use Rattle.folders.proofs.RowFeeding.{cuts_judged, judged_row, marked_early}
use Rattle.folders.proofs.row_feed.RowFeed.judge.Goals as goal

pub returns-then-branch-clause-judged : goal.returns-then-branch-clause-judged
returns-then-branch-clause-judged g c =
    let f = c.args.self.now in
    let after = c.take_exactly.new.consumer in
    let read = subst (TakesExactly FeedsBits (g.F.Source.seen c.args.source.now) (g.F.Source.seen c.take_exactly.new.source) c.args.size f after)
    c.if-branch.true c.in_ok-take_exactly.ensures.read in
    let judged = judged_row c.requires.fresh read.taken c.end_row-other.ensures.ended in (
      read.bytes,
      read.count ∙ c.requires.size,
      read.gave,
      judged.0,
      judged.1,
      cuts_judged f.cuts.feed after.cuts.feed read.bytes c.finish-bad_cut.result read.taken.cuts c.finish-bad_cut.ensures,
    )

pub returns-clause-judged : goal.returns-clause-judged
returns-clause-judged g c =
    let read = subst (TakesExactly FeedsBits (g.F.Source.seen c.args.source.now) (g.F.Source.seen c.take_exactly.new.source) c.args.size c.args.self.now
    c.take_exactly.new.consumer) c.if-branch.false c.in_ok-take_exactly.ensures.read in (
      read.bytes,
      omega (arith, read.short, c.requires.size),
      read.gave,
      read.ended,
      marked_early c.requires.fresh read.taken c.end_early.ensures.ended,
    )
