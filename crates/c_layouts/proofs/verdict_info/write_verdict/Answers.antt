use Rattle.std.proofs.Common.{rules, refl}
use Rattle.c_layouts.proofs.verdict_info.write_verdict.Goals as goal

pub returns-in-BlockRefused-clause-unwritten : goal.returns-in-BlockRefused-clause-unwritten
returns-in-BlockRefused-clause-unwritten c = λ wrote. refl

pub returns-in-Stored-clause-done : goal.returns-in-Stored-clause-done
returns-in-Stored-clause-done c = search rules

pub returns-in-Rejected-clause-done : goal.returns-in-Rejected-clause-done
returns-in-Rejected-clause-done c = search rules
