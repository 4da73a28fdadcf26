use Rattle.std.proofs.Common.{rules}
use Rattle.partial_tree.proofs.tree.Tree.want.Goals as goal

pub returns : goal.returns
returns g c = search rules
