use Rattle.part_laws.proofs.TrueMarked.{true_marked_parts_report}
use Rattle.part_laws.proofs.laws.true_marked_parts_report.Goals as goal

pub returns : goal.returns
returns c = true_marked_parts_report
