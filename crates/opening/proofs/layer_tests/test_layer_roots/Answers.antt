use Rattle.std.proofs.Common.{refl, arith}
use Rattle.std.proofs.lemmas.Grind.{common_steps}
use Rattle.opening.proofs.layer_tests.test_layer_roots.Goals as goal

pub returns-then-mismatches : goal.returns-then-mismatches
returns-then-mismatches c = (refl, grind (arith, common_steps))
