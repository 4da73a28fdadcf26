use Rattle.part_laws.proofs.MarkedTexts.{join_prints, joined_runs}
use Rattle.part_laws.proofs.laws.join_prints_the_check.Goals as goal

pub returns-clause-runs : goal.returns-clause-runs
returns-clause-runs c = joined_runs

pub returns-clause-text : goal.returns-clause-text
returns-clause-text c = join_prints c.parts_make_the_report.ensures
