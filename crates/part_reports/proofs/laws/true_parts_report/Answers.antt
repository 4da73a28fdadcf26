use Rattle.part_reports.proofs.Texts.{true_parts_report}
use Rattle.part_reports.proofs.laws.true_parts_report.Goals as goal

pub returns : goal.returns
returns c = true_parts_report
