use Rattle.part_reports.proofs.Texts.{texts_yes}
use Rattle.part_reports.proofs.laws.yes_of_texts.Goals as goal

pub returns : goal.returns
returns c = texts_yes c.yes_of_parts.ensures
