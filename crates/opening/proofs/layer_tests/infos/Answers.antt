use Rattle.std.proofs.lemmas.Grind.{common_steps}
use Rattle.std.proofs.Common.{rules, arith}
use Rattle.opening.proofs.layer_tests.infos.Goals as goal

pub returns-in_err-infos-clause-trees : goal.returns-in_err-infos-clause-trees
returns-in_err-infos-clause-trees c = search rules

pub trees-init : goal.trees-init
trees-init c = search rules

pub offset_bounds-trees-tree-index : goal.offset_bounds-trees-tree-index
offset_bounds-trees-tree-index c = search rules

pub trees-preserved : goal.trees-preserved
trees-preserved c = grind (arith, common_steps)

pub returns-clause-trees : goal.returns-clause-trees
returns-clause-trees c = grind (arith, common_steps)
