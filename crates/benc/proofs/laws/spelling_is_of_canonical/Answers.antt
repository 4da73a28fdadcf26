use Rattle.benc.proofs.Texts.{spelled_fits, spelled_is}
use Rattle.benc.proofs.laws.spelling_is_of_canonical.Goals as goal

pub returns : goal.returns
returns c v b s = (spelled_fits 128 v b s, spelled_is 128 v b s)
