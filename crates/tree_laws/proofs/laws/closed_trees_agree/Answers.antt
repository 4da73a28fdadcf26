use Rattle.tree_laws.proofs.Agree.{agree_or_collision}
use Rattle.tree_laws.proofs.laws.closed_trees_agree.Goals as goal

pub returns : goal.returns
returns c = λ t J K closed_J closed_K. agree_or_collision t J K closed_J closed_K
