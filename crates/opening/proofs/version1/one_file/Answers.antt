use Rattle.std.proofs.lemmas.Grind.{common_steps}
use Rattle.std.proofs.Common.{rules, arith}
use Rattle.opening.proofs.version1.one_file.Goals as goal

pub bounds-files-0 : goal.bounds-files-0
bounds-files-0 c = search rules

pub returns-in-len1 : goal.returns-in-len1
returns-in-len1 c = grind (arith, common_steps)

pub returns-in_default : goal.returns-in_default
returns-in_default c = grind (arith, common_steps)
