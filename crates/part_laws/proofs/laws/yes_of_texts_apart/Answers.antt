use Rattle.part_laws.proofs.ApartTexts.{texts_apart}
use Rattle.part_laws.proofs.laws.yes_of_texts_apart.Goals as goal

pub returns : goal.returns
returns c = texts_apart c.yes_of_parts_apart.ensures
