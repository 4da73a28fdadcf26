use Rattle.benc.proofs.Texts.{fits_spelled}
use Rattle.benc.proofs.laws.canonical_has_spelling.Goals as goal

pub returns : goal.returns
returns c v f = fits_spelled 128 v f
