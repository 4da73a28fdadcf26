use Rattle.std.proofs.Common.{arith}
use Rattle.std.proofs.lemmas.Grind.{common_steps}
use Rattle.benc.proofs.scan.string.Goals as goal

pub returns-in-Some-clause-read : goal.returns-in-Some-clause-read
returns-in-Some-clause-read c = grind (arith, common_steps)

pub returns-in_default-number-clause-read : goal.returns-in_default-number-clause-read
returns-in_default-number-clause-read c = grind (arith, common_steps)

pub returns-then-mark-ne58-clause-read : goal.returns-then-mark-ne58-clause-read
returns-then-mark-ne58-clause-read c = grind (arith, common_steps)
