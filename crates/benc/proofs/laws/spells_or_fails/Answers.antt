use Rattle.benc.proofs.Either as either
use Rattle.benc.proofs.laws.spells_or_fails.Goals as goal

pub returns : goal.returns
returns c b = either.value_or_fault b
