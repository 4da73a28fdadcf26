use Rattle.part_reports.proofs.Texts.{texts_make}
use Rattle.part_reports.proofs.laws.texts_make_the_report.Goals as goal

pub returns : goal.returns
returns c = texts_make c.parts_make_the_report.ensures
