use Rattle.std.proofs.Common.{rules}
use Rattle.btcheck_c.proofs.ask_calls.status_of_note.Goals as goal

pub returns-else-done : goal.returns-else-done
returns-else-done c = search rules
