use Rattle.part_laws.proofs.MarkedYes.{marked_apart}
use Rattle.part_laws.proofs.laws.yes_of_marked_texts_apart.Goals as goal

pub returns : goal.returns
returns c = marked_apart c.yes_of_parts_apart.ensures
