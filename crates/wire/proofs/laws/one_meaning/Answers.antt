use Rattle.wire.proofs.Meanings.{one_meaning}
use Rattle.wire.proofs.laws.one_meaning.Goals as goal

pub returns : goal.returns
returns c = one_meaning
