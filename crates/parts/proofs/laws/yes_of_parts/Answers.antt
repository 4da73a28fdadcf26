use Rattle.parts.proofs.Together.{yes}
use Rattle.parts.proofs.laws.yes_of_parts.Goals as goal

pub returns : goal.returns
returns c = yes
