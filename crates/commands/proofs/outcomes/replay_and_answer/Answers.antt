use Rattle.commands.proofs.outcomes.replay_and_answer.Goals as goal

pub returns-in-Ok-clause-replayed : goal.returns-in-Ok-clause-replayed
returns-in-Ok-clause-replayed g c = (c.in-Ok.outcome, c.in-Ok.ensures.report, c.status.ensures)

pub returns-in-Err-clause-cut : goal.returns-in-Err-clause-cut
returns-in-Err-clause-cut g c = c.in-Err.ensures.cut_report
