use Rattle.part_reports.proofs.Faults.{no_reason}
use Rattle.part_reports.proofs.laws.all_reports_are_joined.Goals as goal

pub returns : goal.returns
returns c = no_reason
