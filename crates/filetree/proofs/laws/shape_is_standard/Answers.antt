use Rattle.filetree.proofs.Shaping.{shape_is_standard}
use Rattle.filetree.proofs.laws.shape_is_standard.Goals as goal

pub returns : goal.returns
returns c = shape_is_standard
