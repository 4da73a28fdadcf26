use Rattle.benc.proofs.Unique.{one_fault}
use Rattle.benc.proofs.laws.fault_is_one.Goals as goal

pub returns : goal.returns
returns c b kind other offset place f g = one_fault b kind other offset place f g
