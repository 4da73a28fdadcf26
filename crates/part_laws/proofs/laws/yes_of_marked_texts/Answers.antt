use Rattle.part_laws.proofs.MarkedYes.{marked_yes}
use Rattle.part_laws.proofs.laws.yes_of_marked_texts.Goals as goal

pub returns : goal.returns
returns c = marked_yes c.yes_of_parts.ensures
