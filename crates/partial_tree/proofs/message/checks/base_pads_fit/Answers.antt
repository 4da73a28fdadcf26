use Rattle.std.proofs.Common.{arith}
use Rattle.std.proofs.lemmas.Grind.{common_steps}
use Rattle.partial_tree.proofs.message.checks.base_pads_fit.Goals as goal

pub loop-j-preserved : goal.loop-j-preserved
loop-j-preserved c = grind (arith, common_steps)

pub overflow_mul-index : goal.overflow_mul-index
overflow_mul-index c = grind (arith, common_steps)
