use Rattle.std.proofs.Common.{rules}
use Rattle.partial_tree.proofs.growing.adopting.agree.Goals as goal

pub returns-clause-same : goal.returns-clause-same
returns-clause-same g c = search rules
