use Rattle.std.proofs.Common.{rules}
use Rattle.c_layouts.proofs.status.status_of_piece.Goals as goal

pub returns-in-Err-clause-done : goal.returns-in-Err-clause-done
returns-in-Err-clause-done c = search rules

pub returns-in-Err-clause-unwritten : goal.returns-in-Err-clause-unwritten
returns-in-Err-clause-unwritten c = search rules
