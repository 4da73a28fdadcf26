use Rattle.std.proofs.Common.{arith, rules}
use Rattle.std.proofs.lemmas.Grind.{common_steps}
use Rattle.opening.proofs.layer_tests.test_missing.Goals as goal

pub trees-preserved : goal.trees-preserved
trees-preserved c = grind (arith, common_steps)

pub trees-init : goal.trees-init
trees-init c = search rules

pub offset_bounds-trees-tree-index : goal.offset_bounds-trees-tree-index
offset_bounds-trees-tree-index c = search rules

pub returns-then-is_none : goal.returns-then-is_none
returns-then-is_none c = grind (arith, common_steps)

pub returns : goal.returns
returns c = grind (arith, common_steps)
