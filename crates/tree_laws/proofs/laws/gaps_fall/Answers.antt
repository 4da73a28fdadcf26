use Rattle.tree_laws.proofs.Wanted.{gaps-fall, gaps-at_most, gaps-none, gaps-all_known}
use Rattle.tree_laws.proofs.laws.gaps_fall.Goals as goal

pub returns : goal.returns
returns c = record { falls = gaps-fall; at_most = gaps-at_most; none = gaps-none; all = gaps-all_known }
