use Rattle.lines.proofs.checked.say_checked.Goals as goal

pub returns-in-V1NotChecked : goal.returns-in-V1NotChecked
returns-in-V1NotChecked g c = rw c.in-V1NotChecked.is c.say_word-in-V1NotChecked.ensures
