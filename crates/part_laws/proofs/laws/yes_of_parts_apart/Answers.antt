use Rattle.part_laws.proofs.Apart.{yes_apart}
use Rattle.part_laws.proofs.laws.yes_of_parts_apart.Goals as goal

pub returns : goal.returns
returns c = yes_apart c.yes_of_parts.ensures
