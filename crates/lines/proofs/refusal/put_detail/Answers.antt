use Rattle.std.proofs.lemmas.Grind.{common_steps}
use Rattle.std.proofs.Common.{arith}
use Rattle.lines.proofs.refusal.put_detail.Goals as goal

pub returns-in-NotBencode-clause-items : goal.returns-in-NotBencode-clause-items
returns-in-NotBencode-clause-items c = grind (arith, common_steps)

pub returns-in-Missing-clause-items : goal.returns-in-Missing-clause-items
returns-in-Missing-clause-items c = grind (arith, common_steps)
