use Rattle.std.proofs.lemmas.Grind.{common_steps}
use Rattle.std.proofs.Common.{arith}
use Rattle.lines.proofs.compared.Compared.take_one.Goals as goal

pub returns-then-self-byte-clause-bytes : goal.returns-then-self-byte-clause-bytes
returns-then-self-byte-clause-bytes c = grind (arith, common_steps)
