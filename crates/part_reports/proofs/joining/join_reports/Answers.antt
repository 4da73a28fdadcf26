use Rattle.part_reports.proofs.joining.join_reports.Goals as goal

pub returns-clause-joined : goal.returns-clause-joined
returns-clause-joined c = c.in_ok-join_all.ensures.joined.verdicts
