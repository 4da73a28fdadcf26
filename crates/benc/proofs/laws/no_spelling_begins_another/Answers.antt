use Rattle.benc.proofs.Again.{one_reading}
use Rattle.benc.proofs.laws.no_spelling_begins_another.Goals as goal

pub returns : goal.returns
returns c v w a b x y s t e = one_reading 128 v w a b x y s t e
