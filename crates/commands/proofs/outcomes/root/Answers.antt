use Rattle.std.proofs.Common.{refl, rules}
use Rattle.commands.proofs.outcomes.root.Goals as goal

pub returns-in-Ok-clause-ends : goal.returns-in-Ok-clause-ends
returns-in-Ok-clause-ends g c = (c.in-Ok.within, search rules, c.status.ensures)

pub returns-in-Ok-clause-no_further : goal.returns-in-Ok-clause-no_further
returns-in-Ok-clause-no_further g c = c.in-Ok.ensures.no_further

pub returns-in-Ok-clause-faults : goal.returns-in-Ok-clause-faults
returns-in-Ok-clause-faults g c = c.in-Ok.ensures.faults

pub returns-clause-ends : goal.returns-clause-ends
returns-clause-ends g c = rw c.in-Err-Write.field-0-is at c.in-Err-Write.ensures.ends

pub returns-clause-faults : goal.returns-clause-faults
returns-clause-faults g c =
    let blames = rw c.in-Err-Write.field-0-is at c.in-Err-Write.ensures.faults in
    (refl, blames)
