use Rattle.std.proofs.Common.{rules}
use Rattle.partial_tree.proofs.tree.Tree.take_block.Goals as goal

pub returns-clause-taken : goal.returns-clause-taken
returns-clause-taken g c = search rules

pub returns-clause-refused : goal.returns-clause-refused
returns-clause-refused g c = search rules
