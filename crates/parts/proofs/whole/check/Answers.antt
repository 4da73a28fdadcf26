use Rattle.parts.specs.Visiting.{whole_visiting}
use Rattle.parts.specs.declared.telling.Telling.TheVariants as telling
use Rattle.parts.proofs.ToldFirst.{visits_once}
use Rattle.parts.proofs.whole.check.Goals as goal

pub returns-in-Ok-clause-verdicts : goal.returns-in-Ok-clause-verdicts
returns-in-Ok-clause-verdicts g c = c.in-Ok.ensures.checks.visits.has

pub returns-in-Ok-clause-are_true : goal.returns-in-Ok-clause-are_true
returns-in-Ok-clause-are_true g c = c.in-Ok.ensures.checks.are_true

pub returns-in-Ok-clause-once : goal.returns-in-Ok-clause-once
returns-in-Ok-clause-once g c =
    visits_once (whole_visiting g.S.Shelf g.S.File.Source.seen c.args.torrent.now) _ c.args.torrent.now telling.Nothing c.in-Ok.report.files.items
    c.in-Ok.report.v1 _ _ c.in-Ok.ensures.checks.visits

pub returns-in-Ok-clause-unreadable : goal.returns-in-Ok-clause-unreadable
returns-in-Ok-clause-unreadable g c = c.in-Ok.ensures.checks.visits.counts.counted

pub returns-in-Ok-clause-readable : goal.returns-in-Ok-clause-readable
returns-in-Ok-clause-readable g c = c.in-Ok.ensures.checks.visits.counts.readable
