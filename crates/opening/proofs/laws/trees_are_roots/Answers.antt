use Rattle.opening.proofs.FirstUse.{trees_are_roots}
use Rattle.opening.proofs.laws.trees_are_roots.Goals as goal

pub returns : goal.returns
returns c = trees_are_roots
