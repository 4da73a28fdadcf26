use Rattle.benc.proofs.Unique.{no_fault}
use Rattle.benc.proofs.laws.spelling_has_no_fault.Goals as goal

pub returns : goal.returns
returns c b v kind offset s f = no_fault b v kind offset s f
