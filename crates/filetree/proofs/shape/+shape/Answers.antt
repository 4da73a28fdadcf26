use Rattle.std.proofs.Common.{arith}
use Rattle.std.proofs.lemmas.Grind.{common_steps}
use Rattle.benc.specs.declared.value.Value.{the_lemmas}
use Rattle.filetree.proofs.shape.+shape.Goals as goal

pub is_node-is_directory-requires : goal.is_node-is_directory-requires
is_node-is_directory-requires t c = grind (arith, common_steps, the_lemmas)
