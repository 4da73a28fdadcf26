use Rattle.lines.proofs.line.say_row.Goals as goal

pub returns-in-Skipped : goal.returns-in-Skipped
returns-in-Skipped g c = rw c.in-Skipped.is c.say_of-in-Skipped.ensures
