use Rattle.holding_laws.proofs.ProvedCame.{proved-came}
use Rattle.holding_laws.proofs.laws.proved_was_the_block.Goals as goal

pub returns : goal.returns
returns c = proved-came
