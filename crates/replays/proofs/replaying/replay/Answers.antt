use Rattle.replays.proofs.replaying.replay.Goals as goal

pub returns-in-Some-clause-report : goal.returns-in-Some-clause-report
returns-in-Some-clause-report g c = rw c.in-Some.is c.replay_onto.ensures.report

pub returns-in-Some-clause-cut_report : goal.returns-in-Some-clause-cut_report
returns-in-Some-clause-cut_report g c = rw c.in-Some.is c.replay_onto.ensures.cut_report
