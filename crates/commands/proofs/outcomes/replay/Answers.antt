use Rattle.commands.proofs.outcomes.replay.Goals as goal

pub returns-clause-replayed : goal.returns-clause-replayed
returns-clause-replayed g c = (c.in-Ok.outcome, c.in-Ok.ensures.report, c.status.ensures)
