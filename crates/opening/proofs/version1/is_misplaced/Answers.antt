use Rattle.std.proofs.Common.{rules}
use Rattle.opening.proofs.version1.is_misplaced.Goals as goal

pub returns-then-entry_length-gt0 : goal.returns-then-entry_length-gt0
returns-then-entry_length-gt0 c = search rules
