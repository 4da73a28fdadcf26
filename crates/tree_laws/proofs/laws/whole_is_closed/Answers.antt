use Rattle.tree_laws.proofs.Whole.{whole-closed}
use Rattle.tree_laws.proofs.laws.whole_is_closed.Goals as goal

pub returns : goal.returns
returns c = λ t f fits. whole-closed f t fits
