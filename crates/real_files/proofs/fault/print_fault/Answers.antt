use Rattle.real_files.proofs.fault.print_fault.Goals as goal

pub returns : goal.returns
returns c = c.from.ensures
